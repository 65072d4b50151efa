-- What a step answers and leaves, by whether the first store that is left lies inside its area. Assumes nothing.
use mathlib.Core.Path.{◌≡◌}
use mathlib.Core.Bool.{true, false}
use mathlib.Core.List.{List, ◌∷◌}
use Prim.Native.Nat.{ℕ}
use Rattle.std.specs.Prelude.{Err}
use Rattle.refusal.specs.declared.Refusal.TheVariants as refusal
use Rattle.pager_state.specs.World.{World}
use Rattle.pager_state.specs.Stores.{Act, inside}
use Rattle.pager_state.specs.Steps.{named_by, named, done}

module _ (a : Act) (rest : List Act) where
  pub named_in : (answer : ℕ) → inside a ≡ true → named answer (a ∷ rest) ≡ named_by answer a rest
  unfolding named
  named_in answer e = rw e

  pub named-out : (answer : ℕ) → inside a ≡ false → named answer (a ∷ rest) ≡ Err refusal.Area
  unfolding named
  named-out answer e = rw e

  pub done-in : (v w : World) → inside a ≡ true → done (a ∷ rest) v w ≡ v
  unfolding done
  done-in v w e = rw e

  pub done-out : (v w : World) → inside a ≡ false → done (a ∷ rest) v w ≡ w
  unfolding done
  done-out v w e = rw e
