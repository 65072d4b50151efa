-- The tests of a sequence hold of the rows of table 3-7. Assumes nothing.
use Prim.Native.Nat.{ℕ, ◌≤◌, ◌<◌}
use mathlib.Core.Path.{◌≡◌}
use mathlib.Core.Bool.{true, ◌||◌, and-eq-true_iff}
use mathlib.Core.Logic.{◌⊎◌, inl, inr}
use native.Mathlib.Omega.{arith}
use borrow.Author.Tests.{lt-ltb, le-ltb, le-leb}
use lib.Dec.{ltb}
use Rattle.text.specs.Utf8.{pair, two, three, four}
use Rattle.text.specs.Table.{In}

pub is-two : {a b : ℕ} → In 0xc2 0xdf a → In 0x80 0xbf b → two a b ≡ true
unfolding two
is-two {a} {b} i j = simp and-eq-true_iff (omega (arith, le-leb))

-- not from ED A0 to ED BF
abbrev pub Scalar : ℕ → ℕ → Type 0
Scalar a b = (pair a b < pair 0xed 0xa0) ⊎ (pair 0xed 0xbf < pair a b)

scalar : (a b : ℕ) → Scalar a b → (ltb (pair a b) (pair 0xed 0xa0) || ltb (pair 0xed 0xbf) (pair a b)) ≡ true
scalar a b (inl h) = rw (lt-ltb _ _ h)
scalar a b (inr h) = rw (le-ltb (pair a b) (pair 0xed 0xa0) (omega arith), lt-ltb _ _ h)

pub is-three : {a b c : ℕ} → In 0xe0 0xef a → In 0x80 0xbf b → In 0x80 0xbf c → pair 0xe0 0xa0 ≤ pair a b → Scalar a b → three a b c ≡ true
unfolding three
is-three {a} {b} {c} i j k l f = simp and-eq-true_iff (omega (arith, le-leb), scalar a b f)

pub is-four : (a b c d : ℕ) → In 0x80 0xbf b → In 0x80 0xbf c → In 0x80 0xbf d → In (pair 0xf0 0x90) (pair 0xf4 0x8f) (pair a b) → four a b c d ≡ true
unfolding four
is-four a b c d j k l f = simp and-eq-true_iff (omega (arith, le-leb))
