-- What a judgement's answer tells. Assumes nothing.
use mathlib.Core.Path.{◌≡◌, refl}
use mathlib.Core.Bool.{Bool, true, false}
use Prim.Native.Nat.{ℕ}
use native.Mathlib.Omega.{arith}
use Rattle.std.specs.Prelude.{Option, None, Some}
use Rattle.refusal.specs.Refusal.{unless, first, accepts, answered}
use Rattle.refusal.specs.declared.Refusal.{Refusal}

-- the condition is met, and so is what is judged behind it
pub met : (b : Bool) (r : Refusal) (rest : Option Refusal) → unless b r rest ≡ None → (b ≡ true) × (rest ≡ None)
met true r rest e = (refl, e)
met false r rest e = let z : ◌≡◌ {A = ℕ} 0 1 = cc in absurd (omega arith)

-- an answer that is none of the refusals is the result
pub resulted : {A : Type 0} (refused : Refusal → A) (result answer : A) → ((r : Refusal) → refused r ≡ answer → ⊥) → (v : Option Refusal)
    → answered refused result v ≡ answer → (v ≡ None) × (result ≡ answer)
resulted refused result answer apart None e = (refl, e)
resulted refused result answer apart (Some r) e = absurd (apart r e)

pub accepts-none : (v : Option Refusal) → accepts v ≡ true → v ≡ None
accepts-none None a = refl
accepts-none (Some r) a = let z : ◌≡◌ {A = ℕ} 0 1 = cc in absurd (omega arith)

-- where neither of two judgements refuses
pub first-none : (v rest : Option Refusal) → first v rest ≡ None → (v ≡ None) × (rest ≡ None)
first-none None rest e = (refl, e)
first-none (Some r) rest e = let z : ◌≡◌ {A = ℕ} 0 1 = cc in absurd (omega arith)

-- an answer tells its judgement
pub row_back : {A : Type 0} (refused : Refusal → A) (result : A) (row : A → Option Refusal) → row result ≡ None
    → ((r : Refusal) → row (refused r) ≡ Some r) → (v : Option Refusal) → row (answered refused result v) ≡ v
row_back refused result row n s None = n
row_back refused result row n s (Some r) = s r
