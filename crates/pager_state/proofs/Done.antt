-- What was begun is done in 2,200 steps: there are no more stores than that, and then nothing is under way. Assumes nothing.
use mathlib.Core.Path.{◌≡◌, refl, sym, ap, ◌∙◌}
use mathlib.Core.Bool.{Bool, true, false}
use mathlib.Core.List.{List, [], ◌∷◌, ◌++◌, append-nil}
use Prim.Native.Nat.{ℕ, ◌+◌, ◌≤◌, ◌<◌}
use native.Mathlib.Omega.{arith}
use lib.ListN.{length, take, drop, drop_of_length-le}
use lib.Seq.{take_all}
use Rattle.std.specs.Prelude.{None}
use Rattle.header.specs.declared.DbHeader.{DbHeader}
use Rattle.pager_state.specs.World.{World, staged_limit}
use Rattle.pager_state.specs.Overlay.{is_staged}
use Rattle.pager_state.specs.Stores.{disk_of, Act, stored_all}
use Rattle.pager_state.specs.Pages.{pages_from, differs, in_checkpoint}
use Rattle.pager_state.specs.Checkpoint.{page_stored, pages_todo, checkpoint_todo}
use Rattle.pager_state.specs.Commit.{page_frame_stored, committed_world, frames_todo, commit_todo}
use Rattle.pager_state.specs.Steps.{commit_refusal, begin_commit, checkpoint_begins, begin_checkpoint, todo, steps, most_steps, on_store, commit_world, checkpoint_world}
use Rattle.pager_state.specs.declared.Job.{Job}
use Rattle.pager_state.specs.declared.Job.TheVariants as job
use Rattle.pager_state.proofs.Searches.{pages-length}
use Rattle.pager_state.proofs.Stored.{AllInside}
use Rattle.pager_state.proofs.Made.{ReadyOf}
use Rattle.pager_state.proofs.Next.{todo-by}
use Rattle.pager_state.proofs.Runs.{steps-disk, steps-rest, steps-keep}
use Rattle.pager_state.proofs.Begun.{commit-inside, commit-ready, checkpoint-inside, checkpoint-ready, begun-commit, begun-checkpoint}

-- ---- how many stores there are

length-pages : (salt answer : ℕ) (ns : List ℕ) (w : World) → length (pages_todo salt answer ns w) ≡ length ns + 4
unfolding pages_todo
length-pages salt answer [] w = refl
length-pages salt answer (n ∷ ns) w = omega (arith, length-pages salt answer ns (page_stored salt answer n w))

checkpoint-length : (j : Job) (w : World) → length (checkpoint_todo j w) ≤ 1028
unfolding checkpoint_todo
checkpoint-length job.Idle w = omega arith
checkpoint-length (job.Commit h salt page answer) w = omega arith
checkpoint-length (job.Checkpoint salt page answer) w = omega (arith, length-pages salt answer (pages_from (in_checkpoint w) page) w, pages-length (in_checkpoint w) page)
checkpoint-length (job.MainLength salt answer) w = omega arith
checkpoint-length (job.LogLength salt answer) w = omega arith
checkpoint-length (job.LogHeader salt answer) w = omega arith

frames-length : (g : List ℕ) (h : DbHeader) (salt answer : ℕ) (ns : List ℕ) (w : World) → length (frames_todo g h salt answer ns w) ≤ length ns + 1029
unfolding frames_todo
frames-length g h salt answer [] w =
    omega (arith, checkpoint-length (committed_world h salt answer w).pager.job (committed_world h salt answer w))
frames-length g h salt answer (n ∷ ns) w = omega (arith, frames-length g h salt answer ns (page_frame_stored g h salt answer n w))

length-by : (g : List ℕ) (j : Job) (w : World) → length (commit_todo g j w ++ checkpoint_todo j w) ≤ most_steps
unfolding commit_todo checkpoint_todo
length-by g job.Idle w = omega arith
length-by g (job.Commit h salt page answer) w =
    rw (append-nil (frames_todo g h salt answer (pages_from (differs g w) page) w))
    (omega (arith, frames-length g h salt answer (pages_from (differs g w) page) w, pages-length (differs g w) page))
length-by g (job.Checkpoint salt page answer) w = omega (arith, length-pages salt answer (pages_from (in_checkpoint w) page) w, pages-length (in_checkpoint w) page)
length-by g (job.MainLength salt answer) w = omega arith
length-by g (job.LogLength salt answer) w = omega arith
length-by g (job.LogHeader salt answer) w = omega arith

-- never more than 2,200
pub todo-length : (g : List ℕ) (w : World) → length (todo g w) ≤ most_steps
todo-length g w = rw (todo-by g w w.pager.job refl) (length-by g w.pager.job w)

-- ---- no store is left of nothing alone

pages-some : (salt answer : ℕ) (ns : List ℕ) (w : World) → 0 < length (pages_todo salt answer ns w)
pages-some salt answer ns w = omega (arith, length-pages salt answer ns w)

frames-some : (g : List ℕ) (h : DbHeader) (salt answer : ℕ) (ns : List ℕ) (w : World) → 0 < length (frames_todo g h salt answer ns w)
unfolding frames_todo
frames-some g h salt answer [] w = omega arith
frames-some g h salt answer (n ∷ ns) w = omega arith

none-by : (g : List ℕ) (j : Job) (w : World) → length (commit_todo g j w ++ checkpoint_todo j w) ≡ 0 → j ≡ job.Idle
unfolding commit_todo checkpoint_todo
none-by g job.Idle w e = refl
none-by g (job.Commit h salt page answer) w e =
    let z : length (frames_todo g h salt answer (pages_from (differs g w) page) w) ≡ 0 = rw (append-nil (frames_todo g h salt answer (pages_from (differs g w) page) w)) at e in
    absurd (omega (arith, frames-some g h salt answer (pages_from (differs g w) page) w))
none-by g (job.Checkpoint salt page answer) w e = absurd (omega (arith, pages-some salt answer (pages_from (in_checkpoint w) page) w))
none-by g (job.MainLength salt answer) w e = absurd (omega arith)
none-by g (job.LogLength salt answer) w e = absurd (omega arith)
none-by g (job.LogHeader salt answer) w e = absurd (omega arith)

pub none-idle : (g : List ℕ) (w : World) → todo g w ≡ [] → w.pager.job ≡ job.Idle
none-idle g w e = none-by g w.pager.job w (ap length (sym (todo-by g w w.pager.job refl) ∙ e))

-- ---- all is done

-- v is at rest, and its files are those that the stores leave in w
pub record Rests (P : ℕ → Bool) (g : List ℕ) (acts : List Act) (w v : World) : Type 0 where
  pub idle : v.pager.job ≡ job.Idle
  pub disk : disk_of v ≡ stored_all acts (disk_of w)
  pub ready : ReadyOf P g v

module _ {P : ℕ → Bool} (g : List ℕ) (w : World) (r : ReadyOf P g w) (h : AllInside (todo g w)) where
  -- after as many steps as there are stores, or more
  pub done-after : (k : ℕ) → length (todo g w) ≤ k → Rests P g (todo g w) w (steps g k w)
  done-after k l =
      let n : drop k (todo g w) ≡ [] = drop_of_length-le (todo g w) l in
      let t : take k (todo g w) ≡ todo g w = take_all k (todo g w) l in
      record {
        idle = none-idle g (steps g k w) (steps-rest g k w r h ∙ n);
        disk = steps-disk g k w r h ∙ rw t;
        ready = steps-keep g k w r;
      }

  pub all_done : Rests P g (todo g w) w (steps g most_steps w)
  all_done = done-after most_steps (todo-length g w)

-- ---- in one call

-- in any store; P says of which pages what the laws of steps ask is known
module _ (g : List ℕ) (w : World) (h : DbHeader) (salt : ℕ) (e : commit_refusal g w h ≡ None) where
  begun-disk : disk_of (on_store w (begin_commit g w h salt).pager) ≡ disk_of w
  begun-disk = rw (begun-commit g w h e salt)

  pub commit-ended : {P : ℕ → Bool} → ReadyOf P g (on_store w (begin_commit g w h salt).pager)
      → Rests P g (todo g (on_store w (begin_commit g w h salt).pager)) w (commit_world g w h salt)
  unfolding commit_world
  commit-ended r =
      let d = all_done g (on_store w (begin_commit g w h salt).pager) r (commit-inside g w h e salt) in
      let x : commit_world g w h salt ≡ steps g most_steps (on_store w (begin_commit g w h salt).pager) = rw e in
      rw x (record { idle = d.idle; disk = d.disk ∙ ap (stored_all (todo g (on_store w (begin_commit g w h salt).pager))) begun-disk; ready = d.ready })

  pub commit-done : length w.pager.staged.pages ≡ staged_limit
      → Rests (is_staged w.pager.staged) g (todo g (on_store w (begin_commit g w h salt).pager)) w (commit_world g w h salt)
  commit-done s = commit-ended (commit-ready g w h e salt s)

module _ (g : List ℕ) (w : World) (salt : ℕ) (e : checkpoint_begins g w ≡ true) where
  checkpoint-disk : disk_of (on_store w (begin_checkpoint g w salt).pager) ≡ disk_of w
  checkpoint-disk = rw (begun-checkpoint g w e salt)

  pub checkpoint-done : length w.pager.staged.pages ≡ staged_limit
      → Rests (λ (n : ℕ). false) g (todo g (on_store w (begin_checkpoint g w salt).pager)) w (checkpoint_world g w salt)
  unfolding checkpoint_world
  checkpoint-done s =
      let d = all_done g (on_store w (begin_checkpoint g w salt).pager) (checkpoint-ready g w e salt s) (checkpoint-inside g w e salt) in
      let x : checkpoint_world g w salt ≡ steps g most_steps (on_store w (begin_checkpoint g w salt).pager) = rw e in
      rw x (record { idle = d.idle; disk = d.disk ∙ ap (stored_all (todo g (on_store w (begin_checkpoint g w salt).pager))) checkpoint-disk; ready = d.ready })
