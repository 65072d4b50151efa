-- What is to be shown of a call that is not refused. Assumes nothing.
use mathlib.Core.Path.{◌≡◌, sym, subst}
use mathlib.Core.Bool.{not}
use mathlib.Core.List.{List}
use Prim.Native.Nat.{ℕ}
use Rattle.std.specs.Prelude.{None}
use Rattle.refusal.specs.declared.Refusal.TheVariants as refusal
use Rattle.refusal.proofs.Judged.{met}
use Rattle.pager_state.specs.World.{World, busy, busy_refusal}
use Rattle.pager_state.specs.Stores.{disk_of, Act}
use Rattle.pager_state.specs.declared.Job.{Job}
use Rattle.pager_state.specs.declared.Job.TheVariants as job
use Rattle.pager_state.proofs.Begun.{off, not-busy}
use Rattle.pager_state.specs.declared.Pager.{Pager}
use Rattle.history.specs.Model.{Model, model_stores}
use Rattle.history.specs.Calls.{Call, stores_of, world_after, staging_after, model_first, body_lent}
use Rattle.history.specs.Run.{kinds, kept_after}
use Rattle.history.proofs.Rest.{Resting, ForSome, Inv, InvJob}
use Rattle.history.proofs.Running.{CutOk}

-- what a call that is not refused leaves, whole or cut
pub record Taken (c : Call) (w : World) (g : List ℕ) (b : Model) (z : List ℕ) : Type 0 where
  pub after : Inv (world_after c w g) (staging_after c w g) (model_stores (body_lent c) (kinds (stores_of c w g)) (model_first c b)) (kept_after (stores_of c w g) (disk_of w) z)
  pub cut : CutOk (body_lent c) (stores_of c w g) (disk_of w) (model_first c b) z

-- the same of the world and the stores that it comes to
pub taken-by : (c : Call) (w : World) (g : List ℕ) (b : Model) (z : List ℕ) {v : World} {acts : List Act} → world_after c w g ≡ v → stores_of c w g ≡ acts
    → Inv v (staging_after c w g) (model_stores (body_lent c) (kinds acts) (model_first c b)) (kept_after acts (disk_of w) z) → CutOk (body_lent c) acts (disk_of w) (model_first c b) z
    → Taken c w g b z
taken-by c w g b z {v} e f after cut =
    record {
      after =
          subst (λ (x : World). Inv x (staging_after c w g) (model_stores (body_lent c) (kinds (stores_of c w g)) (model_first c b)) (kept_after (stores_of c w g) (disk_of w) z)) (sym e)
          (subst (λ (x : List Act). Inv v (staging_after c w g) (model_stores (body_lent c) (kinds x) (model_first c b)) (kept_after x (disk_of w) z)) (sym f) after);
      cut = subst (λ (x : List Act). CutOk (body_lent c) x (disk_of w) (model_first c b) z) (sym f) cut;
    }

-- a call that refusal 9 alone can be given comes where nothing is part done
pub rests-by : (p : Pager) → busy_refusal p ≡ None → p.job ≡ job.Idle
rests-by p e = not-busy p.job (off _ (met (not (busy p)) refusal.Busy None e).0)

-- at rest, by the store's own job
pub at_rest : (w : World) (g : List ℕ) (b : Model) (z : List ℕ) → Inv w g b z → w.pager.job ≡ job.Idle → ForSome (Resting w g b) z
at_rest w g b z i e = subst (λ (j : Job). InvJob j w g b z) e i

pub rest-inv : (w : World) (g : List ℕ) (b : Model) (z : List ℕ) → w.pager.job ≡ job.Idle → ForSome (Resting w g b) z → Inv w g b z
rest-inv w g b z e i = subst (λ (j : Job). InvJob j w g b z) (sym e) i
