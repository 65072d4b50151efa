-- What the number that `count` gives says of the text. Assumes nothing.
use mathlib.Core.Path.{◌≡◌, refl, sym}
use mathlib.Core.Bool.{Bool, true, false}
use mathlib.Core.List.{List, [], ◌∷◌}
use Prim.Native.Nat.{ℕ, ◌<◌}
use native.Mathlib.Omega.{arith}
use borrow.Author.Tests.{lt-ltb, le-ltb}
use lib.Dec.{ltb}
use lib.ListN.{length}
use Rattle.le.specs.Choice.{pick}
use Rattle.text.specs.Utf8.{formed_behind, well_formed, chars_behind, chars}
use Rattle.text.proofs.Laws.{some-chars}

well-by : (b : Bool) {m n : ℕ} → m ≡ pick b n 0 → (m ≡ 0 → ⊥) → (b ≡ true) × (n ≡ m)
well-by true e f = (refl, sym e)
well-by false e f = absurd (f e)

pub counted-well : (s : List ℕ) {m : ℕ} → m ≡ pick (well_formed s) (chars s) 0 → (m ≡ 0 → ⊥) → (well_formed s ≡ true) × (chars s ≡ m)
counted-well s e f = well-by (well_formed s) e f

ill-by : (b : Bool) {m n : ℕ} → 0 < n → m ≡ pick b n 0 → m ≡ 0 → b ≡ false
ill-by true h e f = absurd (omega arith)
ill-by false h e f = refl

pub counted-ill : (s : List ℕ) {m : ℕ} → 0 < length s → m ≡ pick (well_formed s) (chars s) 0 → m ≡ 0 → well_formed s ≡ false
counted-ill s h e f = ill-by (well_formed s) (some-chars s h) e f

-- the empty text
pub empty-well : well_formed [] ≡ true
unfolding well_formed formed_behind
empty-well = refl

pub empty-chars : chars [] ≡ 0
unfolding chars chars_behind
empty-chars = refl

pub empty-text : (s : List ℕ) → length s ≡ 0 → (well_formed s ≡ true) × (chars s ≡ 0)
empty-text [] e = (empty-well, empty-chars)
empty-text (a ∷ s) e = absurd (omega arith)

-- so it tells whether the text is well-formed
tells : (b : Bool) {m n : ℕ} → 0 < n → m ≡ pick b n 0 → ltb 0 m ≡ b
tells true {m} h e = lt-ltb 0 m (omega (arith, e))
tells false {m} h e = le-ltb 0 m (omega (arith, e))

pub counted-tells : (s : List ℕ) {m : ℕ} → 0 < length s → m ≡ pick (well_formed s) (chars s) 0 → ltb 0 m ≡ well_formed s
counted-tells s h e = tells (well_formed s) (some-chars s h) e
