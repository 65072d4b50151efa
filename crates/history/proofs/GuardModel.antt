-- What the model is told by stagings, batches, commits, checkpoints and openings that are not refused. Assumes nothing.
use mathlib.Core.Path.{◌≡◌, refl, ◌∙◌}
use mathlib.Core.Bool.{Bool, true, false}
use mathlib.Core.List.{List, [], ◌∷◌, ◌++◌, append-nil}
use Prim.Native.Nat.{ℕ, ◌≤◌, ◌<◌}
use borrow.Author.Tests.{eq-eqb, lt-ltb, le-leb}
use lib.Dec.{leb, eqb}
use Rattle.std.specs.Prelude.{None, Some}
use Rattle.le.specs.Choice.{pick}
use Rattle.refusal.proofs.Rows.{accepted}
use Rattle.header.specs.declared.DbHeader.{DbHeader}
use Rattle.pager_state.specs.World.{World, count_of, with_job}
use Rattle.pager_state.specs.Overlay.{committed_in}
use Rattle.pager_state.specs.Stores.{Act, Other, kind_of, whole_of}
use Rattle.pager_state.specs.Opening.{open_stores}
use Rattle.pager_state.specs.Pages.{pages_from, differs_in, differs, in_checkpoint}
use Rattle.pager_state.specs.Checkpoint.{page_stored, pages_todo, checkpoint_todo}
use Rattle.pager_state.specs.Commit.{page_frame_stored, committed_world, frames_todo, commit_todo}
use Rattle.pager_state.specs.Steps.{differing, checkpoint_begins, checkpoint_count, begin_checkpoint, todo, on_store}
use Rattle.pager_state.specs.declared.AccessMode.TheVariants as mode
use Rattle.pager_state.specs.declared.Job.{Job}
use Rattle.pager_state.specs.declared.Job.TheVariants as job
use Rattle.pager_state.proofs.Begun.{begun-commit}
use Rattle.history.specs.Model.{Model, model_read, model_header, model_stage, model_open, model_wait, batch_in, model_pages, model_commit, model_stores}
use Rattle.history.specs.Calls.{Lent, ReadMode, Call, Ask, Open, Stage, Append, Commit, Checkpoint, refused_by, stores_of, world_after, staging_after, model_first, body_lent}
use Rattle.history.specs.Run.{Run, kinds, whole, Left, cut_call, Attempt, cut_opening, cut_openings, reopened, Cut, next}
use Rattle.history.specs.Guards.{Accepted}
use Rattle.history.proofs.GuardCommit.{frames_world}

-- a page is entered and not staged
pub record Shows (b : Model) (n : ℕ) (bytes : List ℕ) : Type 0 where
  pub entered : b.pages n ≡ Some bytes
  pub unstaged : b.staged n ≡ None

pub shows-read : (b : Model) (n : ℕ) (bytes : List ℕ) → Shows b n bytes → model_read b n ≡ Some bytes
unfolding model_read
shows-read b n bytes k = rw (k.unstaged, k.entered)

-- ---- a checkpoint: only batches go

module _ (n : ℕ) (bytes : List ℕ) where
  checkpoint-pages : (salt answer : ℕ) (ns : List ℕ) (w : World) (b : Model) → Shows b n bytes → Shows (model_stores [] (kinds (pages_todo salt answer ns w)) b) n bytes
  unfolding pages_todo model_stores
  checkpoint-pages salt answer [] w b k = record { entered = k.entered; unstaged = k.unstaged }
  checkpoint-pages salt answer (m ∷ ns) w b k = checkpoint-pages salt answer ns (page_stored salt answer m w) b k

  checkpointed-shows : (j : Job) (w : World) (b : Model) → Shows b n bytes → Shows (model_stores [] (kinds (checkpoint_todo j w)) b) n bytes
  unfolding checkpoint_todo model_stores
  checkpointed-shows job.Idle w b k = k
  checkpointed-shows (job.Commit h salt page answer) w b k = k
  checkpointed-shows (job.Checkpoint salt page answer) w b k = checkpoint-pages salt answer (pages_from (in_checkpoint w) page) w b k
  checkpointed-shows (job.MainLength salt answer) w b k = record { entered = k.entered; unstaged = k.unstaged }
  checkpointed-shows (job.LogLength salt answer) w b k = record { entered = k.entered; unstaged = k.unstaged }
  checkpointed-shows (job.LogHeader salt answer) w b k = k

pages-header : (salt answer : ℕ) (ns : List ℕ) (w : World) (b : Model) → (model_stores [] (kinds (pages_todo salt answer ns w)) b).header ≡ b.header
unfolding pages_todo model_stores
pages-header salt answer [] w b = refl
pages-header salt answer (n ∷ ns) w b = pages-header salt answer ns (page_stored salt answer n w) b

checkpoint-header : (j : Job) (w : World) (b : Model) → (model_stores [] (kinds (checkpoint_todo j w)) b).header ≡ b.header
unfolding checkpoint_todo model_stores
checkpoint-header job.Idle w b = refl
checkpoint-header (job.Commit h salt page answer) w b = refl
checkpoint-header (job.Checkpoint salt page answer) w b = pages-header salt answer (pages_from (in_checkpoint w) page) w b
checkpoint-header (job.MainLength salt answer) w b = refl
checkpoint-header (job.LogLength salt answer) w b = refl
checkpoint-header (job.LogHeader salt answer) w b = refl

-- no batch is committed after one
pages-empty : (salt answer : ℕ) (ns : List ℕ) (w : World) (b : Model) → (model_stores [] (kinds (pages_todo salt answer ns w)) b).committed ≡ []
unfolding pages_todo model_stores
pages-empty salt answer [] w b = refl
pages-empty salt answer (n ∷ ns) w b = pages-empty salt answer ns (page_stored salt answer n w) b

checkpoint-drops : (j : Job) (w : World) (b : Model) (salt p answer : ℕ) → j ≡ job.Checkpoint salt p answer → (model_stores [] (kinds (checkpoint_todo j w)) b).committed ≡ []
unfolding checkpoint_todo
checkpoint-drops j w b salt p answer e = rw e (pages-empty salt answer (pages_from (in_checkpoint w) p) w b)

-- ---- a commit: its frames, the commit frame, its checkpoint

module _ (g : List ℕ) (h : DbHeader) (salt answer : ℕ) where
  frames-tell : (ns : List ℕ) (w : World) (b : Model) → model_stores [] (kinds (frames_todo g h salt answer ns w)) b
      ≡ model_stores [] (kinds (checkpoint_todo (committed_world h salt answer (frames_world g h salt answer ns w)).pager.job (committed_world h salt answer (frames_world g h salt answer ns w)))) (model_commit b)
  unfolding frames_todo frames_world model_stores
  frames-tell [] w b = refl
  frames-tell (n ∷ ns) w b = frames-tell ns (page_frame_stored g h salt answer n w) b

-- ---- calls

module _ (c : Call) (r : Run) where
  pub world-after : (whole c r).world ≡ world_after c r.world r.staging
  unfolding whole
  world-after = refl

  pub staging-after : (whole c r).staging ≡ staging_after c r.world r.staging
  unfolding whole
  staging-after = refl

  -- one that is not refused
  taken-model : Accepted c r → (whole c r).model ≡ model_stores (body_lent c) (kinds (stores_of c r.world r.staging)) (model_first c r.model)
  unfolding whole
  taken-model k = rw (eq-eqb (refused_by c r.world r.staging) 0 k)

pub stage-model : (n : ℕ) (bytes : List ℕ) (r : Run) → Accepted (Stage n bytes) r → (whole (Stage n bytes) r).model ≡ model_stage n bytes r.model
unfolding stores_of model_stores
stage-model n bytes r k = taken-model (Stage n bytes) r k

pub append-model : (body : List ℕ) (r : Run) → Accepted (Append body) r → (whole (Append body) r).model ≡ model_wait (batch_in body) r.model
unfolding stores_of model_stores
append-model body r k = taken-model (Append body) r k

pub open-model : (lent : Lent) (r : Run) → Accepted (Open mode.ReadWrite lent) r → (whole (Open mode.ReadWrite lent) r).model ≡ model_open r.model
unfolding stores_of open_stores model_stores
open-model lent r k = taken-model (Open mode.ReadWrite lent) r k

module _ (h : DbHeader) (salt : ℕ) (r : Run) (k : Accepted (Commit h salt) r) where
  abbrev g : List ℕ
  g = r.staging

  abbrev w : World
  w = r.world

  abbrev begun : World
  begun = on_store w (with_job w.pager (job.Commit h salt 0 (differing g w)))

  -- after the commit frame
  abbrev pub commit_frames_world : World
  commit_frames_world = committed_world h salt (differing g w) (frames_world g h salt (differing g w) (pages_from (differs g w) 0) begun)

  commit-stores : stores_of (Commit h salt) w g ≡ frames_todo g h salt (differing g w) (pages_from (differs g w) 0) begun
  unfolding stores_of refused_by todo commit_todo checkpoint_todo differs_in committed_in
  commit-stores = rw (begun-commit g w h (accepted _ k) salt) (append-nil _)

  commit-model : (whole (Commit h salt) r).model ≡ model_stores [] (kinds (checkpoint_todo commit_frames_world.pager.job commit_frames_world)) (model_commit (model_header h r.model))
  commit-model =
      taken-model (Commit h salt) r k ∙ rw commit-stores (frames-tell g h salt (differing g w) (pages_from (differs g w) 0) begun (model_header h r.model))

  pub commit-header : (whole (Commit h salt) r).model.header ≡ h
  commit-header = rw commit-model (checkpoint-header commit_frames_world.pager.job commit_frames_world (model_commit (model_header h r.model)))

  -- a page that was staged for it
  pub commit-shows : (n : ℕ) (bytes : List ℕ) → r.model.staged n ≡ Some bytes → 1 ≤ n → n < count_of h → Shows (whole (Commit h salt) r).model n bytes
  unfolding model_pages
  commit-shows n bytes e a b =
      rw commit-model
      (checkpointed-shows n bytes commit_frames_world.pager.job commit_frames_world (model_commit (model_header h r.model))
      (record { entered = rw (lt-ltb n (count_of h) b, le-leb 1 n a, e); unstaged = refl }))

  -- and the batches that waited, where no checkpoint follows
  pub commit-batches : commit_frames_world.pager.job ≡ job.Idle → (whole (Commit h salt) r).model.committed ≡ r.model.committed ++ r.model.waiting
  unfolding checkpoint_todo model_stores
  commit-batches e = rw (commit-model, e)

  -- none is left where one does
  pub commit-drops : (p answer : ℕ) → commit_frames_world.pager.job ≡ job.Checkpoint salt p answer → (whole (Commit h salt) r).model.committed ≡ []
  commit-drops p answer e =
      rw commit-model (checkpoint-drops commit_frames_world.pager.job commit_frames_world (model_commit (model_header h r.model)) salt p answer e)

module _ (salt : ℕ) (r : Run) (k : Accepted (Checkpoint salt) r) (e : r.world.pager.job ≡ job.Idle) (n : ℕ) (bytes : List ℕ) (y : Shows r.model n bytes) where
  checkpoint-goes-by : (b : Bool) → checkpoint_begins r.staging r.world ≡ b → Shows (model_stores [] (kinds (stores_of (Checkpoint salt) r.world r.staging)) r.model) n bytes
  unfolding stores_of begin_checkpoint todo commit_todo checkpoint_todo
  checkpoint-goes-by true f = rw f (checkpointed-shows n bytes (job.Checkpoint salt 0 (checkpoint_count r.world)) (on_store r.world (with_job r.world.pager (job.Checkpoint salt 0 (checkpoint_count r.world)))) r.model y)
  checkpoint-goes-by false f = rw (f, e) (checkpointed-shows n bytes job.Idle r.world r.model y)

  pub checkpoint-shows : Shows (whole (Checkpoint salt) r).model n bytes
  checkpoint-shows = rw (taken-model (Checkpoint salt) r k) (checkpoint-goes-by (checkpoint_begins r.staging r.world) refl)

-- no batch is committed after it
pub checkpoint-empty : (salt : ℕ) (r : Run) → Accepted (Checkpoint salt) r → checkpoint_begins r.staging r.world ≡ true
    → (whole (Checkpoint salt) r).model.committed ≡ []
unfolding stores_of begin_checkpoint todo commit_todo checkpoint_todo
checkpoint-empty salt r k f =
    rw (taken-model (Checkpoint salt) r k, f)
    (pages-empty salt (checkpoint_count r.world) _ (on_store r.world (with_job r.world.pager (job.Checkpoint salt 0 (checkpoint_count r.world)))) r.model)

-- ---- openings after a cut that falls in no store

module _ (n : ℕ) (bytes : List ℕ) where
  pub open-shows : (b : Model) → Shows b n bytes → Shows (model_open b) n bytes
  open-shows b y = record { entered = y.entered; unstaged = refl }

  uncut-by : (r : Run) (b : Bool) → eqb (refused_by (Ask ReadMode) r.world r.staging) 0 ≡ b → Shows r.model n bytes → Shows (cut_call (Ask ReadMode) 0 0 r).model n bytes
  unfolding cut_call stores_of whole_of model_stores
  uncut-by r true e y = rw e y
  uncut-by r false e y = rw e y

  opening-by : (a : Act) (b : Bool) (x : Model) → kind_of a ≡ Other → Shows x n bytes → Shows (model_stores [] (kinds (pick b (a ∷ []) [])) x) n bytes
  unfolding model_stores
  opening-by a true x e y = rw e y
  opening-by a false x e y = y

  cut-shows : (attempts : List Attempt) (x : Left) → Shows x.model n bytes → Shows (cut_openings attempts x).model n bytes
  unfolding cut_openings cut_opening open_stores whole_of
  cut-shows [] x y = y
  cut-shows (a ∷ rest) x y =
      cut-shows rest (cut_opening a x) (opening-by _ (leb 1 a.bytes) (model_open x.model) refl (open-shows x.model y))

  pub lost-shows : (attempts : List Attempt) (lent : Lent) (r : Run) → Shows r.model n bytes → Shows (next (Cut (Ask ReadMode) 0 0 attempts lent) r).model n bytes
  unfolding next reopened open_stores model_stores
  lost-shows attempts lent r y =
      open-shows _ (cut-shows attempts (cut_call (Ask ReadMode) 0 0 r) (uncut-by r (eqb (refused_by (Ask ReadMode) r.world r.staging) 0) refl y))
