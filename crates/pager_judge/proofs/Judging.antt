-- What the answer of a commit's start tells of its judgement. Assumes nothing.
use mathlib.Core.Path.{◌≡◌, refl, sym, ap, ◌∙◌}
use mathlib.Core.List.{List}
use Prim.Native.Nat.{ℕ}
use Rattle.std.specs.Prelude.{Option, None, Some, Err, Ok, Result}
use Rattle.refusal.specs.Refusal.{answered}
use Rattle.refusal.specs.declared.Refusal.{Refusal}
use Rattle.header.specs.declared.DbHeader.{DbHeader}
use Rattle.pager_state.specs.World.{World}
use Rattle.pager_state.specs.Steps.{commit_refusal, commit_start}

-- the refusal in an answer, if any
abbrev told : Result (Unit {0}) Refusal → Option Refusal
told (Ok tt) = None
told (Err r) = Some r

told-is : (v : Option Refusal) → told (answered Err (Ok tt) v) ≡ v
told-is None = refl
told-is (Some r) = refl

module _ (g : List ℕ) (w : World) (h : DbHeader) where
  pub begun : Ok tt ≡ commit_start g w h → commit_refusal g w h ≡ None
  unfolding commit_start
  begun e = sym (ap told e ∙ told-is (commit_refusal g w h))

  pub refused : {r : Refusal} → Err r ≡ commit_start g w h → commit_refusal g w h ≡ Some r
  unfolding commit_start
  refused e = sym (ap told e ∙ told-is (commit_refusal g w h))
