-- Demand 3: every call keeps the invariant, whole or cut, and so does every list of events. Assumes nothing.
use mathlib.Core.Path.{◌≡◌, refl, sym, ◌∙◌, subst}
use mathlib.Core.Bool.{Bool, true, false}
use mathlib.Core.List.{List, [], ◌∷◌}
use Prim.Native.Nat.{ℕ}
use native.Mathlib.Omega.{arith}
use borrow.Author.Tests.{eqb-true, eq-eqb}
use lib.Dec.{eqb}
use lib.ListN.{length}
use Rattle.wal.specs.Recovery.{chunk_at}
use Rattle.le.specs.Choice.{pick}
use Rattle.le.proofs.Compare.{no_test}
use Rattle.refusal.specs.declared.Refusal.TheVariants as refusal
use Rattle.refusal.proofs.Rows.{accepted}
use Rattle.pager_state.specs.World.{World}
use Rattle.pager_state.specs.Stores.{disk_of, SetLen, Other}
use Rattle.pager_state.specs.Opening.{open_fine, open_pager, open_refusal}
use Rattle.pager_state.specs.declared.AccessMode.{AccessMode}
use Rattle.pager_state.specs.declared.AccessMode.TheVariants as mode
use Rattle.pager_state.specs.declared.FileKind.TheVariants as file
use Rattle.pager_state.specs.Opened as opened
use Rattle.pager_state.specs.Opened.{Opens}
use Rattle.history.specs.Model.{Model, model_open, model_stores}
use Rattle.history.specs.Calls.{Lent, Call, Ask, Open, Stage, Clear, Append, Observe, Commit, Checkpoint, BeginCommit, BeginCheckpoint, Step, read_into, opening, effect, refused_by, stores_of, world_after, staging_after, model_first, body_lent}
use Rattle.history.specs.Run.{Run, Left, Attempt, kinds, kept_after, whole, cut_call, cut_opening, cut_openings, Event, Whole, Cut, next, start}
use Rattle.history.specs.Demand3.{walked, Intact, OpenedWhole, Answers, Holds, Typed, AllSized, TypedEvent, AllTyped, Demand3}
use Rattle.history.proofs.Refused.{refused-stays}
use Rattle.history.proofs.Disk.{DiskOk, LeftOk, disk-kept}
use Rattle.history.proofs.Rest.{Inv, inv-disk, same_of}
use Rattle.history.proofs.Opening.{Areas, fine-areas, laid_on, refuses, stores-is, open-cut}
use Rattle.history.proofs.Reopening.{InvRun, opened-rest, opened-returns, reopened-inv, cut-opening, reopens-ok}
use Rattle.history.proofs.Running.{CutOk, cut-none}
use Rattle.history.proofs.Taken.{Taken, taken-by}
use Rattle.history.proofs.Staging.{stage-ok}
use Rattle.history.proofs.Clearing.{clear-ok}
use Rattle.history.proofs.Clock.{observe-ok}
use Rattle.history.proofs.Batches.{append-ok}
use Rattle.history.proofs.Commits.{begin-commit-ok, commit-ok}
use Rattle.history.proofs.Checkpoints.{begin-checkpoint-ok, checkpoint-ok}
use Rattle.history.proofs.NextStep.{step_ok}
use Rattle.history.proofs.Creation.{created-inv}

-- the batches that the store gives after a call are the committed ones of the model
abbrev CommitFrame : Call → World → List ℕ → Model → Type 0
CommitFrame c w g b = walked 1025 (world_after c w g) 0 ≡ (model_stores (body_lent c) (kinds (stores_of c w g)) (model_first c b)).committed

-- ---- openings that are not refused

fine-by : (t : Bool) (x : Opens) → open_refusal (pick t x (opened.Refused refusal.Area)) ≡ 0 → t ≡ true
fine-by true x e = refl
fine-by false x e = absurd (omega arith)

module _ (w : World) (g : List ℕ) (b : Model) (z : List ℕ) (i : Inv w g b z) (lent : Lent) where
  pub disk-now : DiskOk (disk_of w) b z
  disk-now = inv-disk w.pager.job w g b z i

  pub areas-of : (m : AccessMode) → refused_by (Open m lent) w g ≡ 0 → Areas lent (disk_of w)
  unfolding refused_by open_pager
  areas-of m e = fine-areas lent (disk_of w) (fine-by (open_fine lent.table (read_into lent (disk_of w)) lent.staging) _ e)

  pub never : {A : Type 0} → refused_by (Open mode.ReadOnly lent) w g ≡ 0 → A
  unfolding refused_by
  never e =
      let a = areas-of mode.ReadOnly e in
      let o = laid_on disk-now.on lent a in
      let z : ◌≡◌ {A = ℕ} 10 0 = sym (refuses o lent.table lent.staging a.table a.staging) ∙ e in
      absurd (omega arith)

  pub open-stores : (m : AccessMode) → Areas lent (disk_of w) → stores_of (Open m lent) w g ≡ SetLen Other file.Log (chunk_at (length disk-now.S)) true ∷ []
  unfolding stores_of
  open-stores m a = stores-is (laid_on disk-now.on lent a) m

  lent-staging : (m : AccessMode) → refused_by (Open m lent) w g ≡ 0 → staging_after (Open m lent) w g ≡ lent.staging
  unfolding refused_by
  lent-staging m e = rw (eq-eqb (open_refusal (opening m lent (disk_of w))) 0 e)

  open-ok : (m : AccessMode) → refused_by (Open m lent) w g ≡ 0 → Taken (Open m lent) w g b z
  unfolding world_after model_stores kept_after
  open-ok mode.ReadOnly e = never e
  open-ok mode.ReadWrite e =
      let a = areas-of mode.ReadWrite e in
      taken-by (Open mode.ReadWrite lent) w g b z refl (open-stores mode.ReadWrite a)
      (subst (λ (x : List ℕ). Inv (world_after (Open mode.ReadWrite lent) w g) x (model_open b) z) (sym (lent-staging mode.ReadWrite e)) (opened-rest disk-now lent a w))
      (open-cut disk-now.on z disk-now.kept)

  open-returns : (m : AccessMode) → refused_by (Open m lent) w g ≡ 0 → CommitFrame (Open m lent) w g b
  unfolding world_after model_stores
  open-returns mode.ReadOnly e = never e
  open-returns mode.ReadWrite e = let a = areas-of mode.ReadWrite e in rw (open-stores mode.ReadWrite a) (opened-returns disk-now lent a w)

-- ---- any call that is not refused

module _ (w : World) (g : List ℕ) (b : Model) (z : List ℕ) (i : Inv w g b z) where
  -- a read changes nothing
  stays : CutOk [] [] (disk_of w) b z
  stays = cut-none [] (disk_of w) b z (inv-disk w.pager.job w g b z i)

  taken : (c : Call) → Typed c → refused_by c w g ≡ 0 → Taken c w g b z × ((effect c).opens ≡ true → CommitFrame c w g b)
  unfolding refused_by stores_of world_after model_stores kept_after
  taken (Ask q) t e = (record { after = i; cut = stays }, no_test)
  taken (Open m lent) t e = (open-ok w g b z i lent m e, λ o. open-returns w g b z i lent m e)
  taken (Stage n bytes) t e = (stage-ok w g b z i n bytes e, no_test)
  taken Clear t e = (clear-ok w g b z i e, no_test)
  taken (Append body) t e = (append-ok w g b z i body t e, no_test)
  taken (Observe c) t e = (observe-ok w g b z i c t e, no_test)
  taken (Commit h salt) t e = (commit-ok w g b z i h salt t.0 t.1 (accepted _ e), no_test)
  taken (Checkpoint salt) t e = (checkpoint-ok w g b z i salt t (accepted _ e), no_test)
  taken (BeginCommit h salt) t e = (begin-commit-ok w g b z i h salt t.0 t.1 (accepted _ e), no_test)
  taken (BeginCheckpoint salt) t e = (begin-checkpoint-ok w g b z i salt t (accepted _ e), no_test)
  taken Step t e = (step_ok w g b z i, no_test)

-- ---- any call

module _ (c : Call) (r : Run) (t : Typed c) (i : InvRun r) where
  abbrev takes : Bool
  takes = eqb (refused_by c r.world r.staging) 0

  taken-when : takes ≡ true → Taken c r.world r.staging r.model r.kept
  taken-when e = (taken r.world r.staging r.model r.kept i c t (eqb-true _ _ e)).0

  refuses-it : takes ≡ false → refused_by c r.world r.staging ≡ 0 → ⊥
  refuses-it e q = no_test (sym e ∙ eq-eqb (refused_by c r.world r.staging) 0 q)

  whole_by : (s : Bool) → takes ≡ s → InvRun (whole c r)
  unfolding whole
  whole_by true e = rw e (taken-when e).after
  whole_by false e =
      let s = refused-stays c r.world r.staging (refuses-it e) in
      rw (e, s.0, s.1) i

  pub whole-ok : InvRun (whole c r)
  whole-ok = whole_by takes refl

  cut_by : (j k : ℕ) (s : Bool) → takes ≡ s → LeftOk (cut_call c j k r)
  unfolding cut_call
  cut_by j k true e = rw e ((taken-when e).cut j k)
  cut_by j k false e = rw e (inv-disk r.world.pager.job r.world r.staging r.model r.kept i)

  pub cut_ok : (j k : ℕ) → LeftOk (cut_call c j k r)
  cut_ok j k = cut_by j k takes refl

  intact : Intact c r
  intact j k = disk-kept (cut_call c j k r) (cut_ok j k)

  opened-whole : OpenedWhole c r
  unfolding whole
  opened-whole o e = rw (eq-eqb (refused_by c r.world r.staging) 0 e) ((taken r.world r.staging r.model r.kept i c t e).1 o)

-- ---- any list of events

pub cut-openings : (attempts : List Attempt) → AllSized attempts → (x : Left) → LeftOk x → LeftOk (cut_openings attempts x)
unfolding cut_openings
cut-openings [] s x k = k
cut-openings (a ∷ rest) s x k = cut-openings rest s.1 (cut_opening a x) (cut-opening a s.0 x k)

answers : (e : Event) (r : Run) → TypedEvent e → InvRun r → Answers e r
answers (Whole c) r t i = (intact c r t i, opened-whole c r t i)
answers (Cut c j k attempts lent) r t i =
    (intact c r t.0 i, reopens-ok attempts lent t.1.0 t.1.1 r.world (cut_call c j k r) (cut_ok c r t.0 i j k))

pub goes_on : (e : Event) (r : Run) → TypedEvent e → InvRun r → InvRun (next e r)
unfolding next
goes_on (Whole c) r t i = whole-ok c r t i
goes_on (Cut c j k attempts lent) r t i =
    reopened-inv lent t.1.1 (cut_openings attempts (cut_call c j k r)) (cut-openings attempts t.1.0 (cut_call c j k r) (cut_ok c r t.0 i j k)) r.world

holds : (es : List Event) (r : Run) → AllTyped es → InvRun r → Holds es r
holds [] r t i = same_of r r.world.pager.job refl i
holds (e ∷ es) r t i = (answers e r t.0 i, holds es (next e r) t.1 (goes_on e r t.0 i))

pub demand3 : Demand3
unfolding Demand3
demand3 t l m g salt ok small es typed = holds es (start t l m g salt) typed (created-inv t l m g salt ok small)
