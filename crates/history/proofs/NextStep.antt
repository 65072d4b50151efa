-- The next step. Assumes nothing.
use mathlib.Core.Path.{◌≡◌, refl}
use mathlib.Core.List.{List, [], ◌∷◌}
use mathlib.Core.Logic.{◌⊎◌, inl, inr}
use Prim.Native.Nat.{ℕ}
use Rattle.pager_state.specs.World.{World}
use Rattle.pager_state.specs.Stores.{disk_of, kind_of, stored}
use Rattle.pager_state.specs.Steps.{todo}
use Rattle.history.specs.Model.{Model, model_store, model_stores}
use Rattle.history.specs.Calls.{Step, stores_of, world_after}
use Rattle.history.specs.Run.{kept_by, kept_after}
use Rattle.history.proofs.Rest.{Inv, inv-disk}
use Rattle.history.proofs.Stepping.{StepOk}
use Rattle.history.proofs.Running.{cut-none, cut-cons, next-step, stepped-is, step-disk, stepped-none}
use Rattle.history.proofs.Taken.{Taken, taken-by}

-- ---- the next step

module _ (w : World) (g : List ℕ) (b : Model) (z : List ℕ) (i : Inv w g b z) where
  world-next : (s : StepOk g w b z) → world_after Step w g ≡ s.next
  unfolding world_after
  world-next s = stepped-is g w b z s

  stores-next : (s : StepOk g w b z) → stores_of Step w g ≡ s.act ∷ []
  unfolding stores_of
  stores-next s = rw s.todo_is

  world-idle : todo g w ≡ [] → world_after Step w g ≡ w
  unfolding world_after
  world-idle e = stepped-none g w e

  stores-idle : todo g w ≡ [] → stores_of Step w g ≡ []
  unfolding stores_of
  stores-idle e = rw e

  step_by : (StepOk g w b z) ⊎ (todo g w ≡ []) → Taken Step w g b z
  unfolding model_stores kept_after
  step_by (inl s) =
      let d = step-disk g w b z s in
      taken-by Step w g b z (world-next s) (stores-next s) s.after
      (cut-cons [] s.act [] (disk_of w) b z s.covers s.cut d
      (cut-none [] (stored s.act (disk_of w)) (model_store [] (kind_of s.act) b) (kept_by s.act (stored s.act (disk_of w)) z) d))
  step_by (inr e) = taken-by Step w g b z (world-idle e) (stores-idle e) i (cut-none [] (disk_of w) b z (inv-disk w.pager.job w g b z i))

  pub step_ok : Taken Step w g b z
  step_ok = step_by (next-step g w b z w.pager.job refl i)
