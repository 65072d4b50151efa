-- The top places of the bytes of a word, and the zeros below the lowest of them that is set. Assumes nothing.
use Prim.Native.Nat.{ℕ, zero, suc, ◌+◌, ◌-◌, ◌*◌, ◌/◌, ◌%◌, ◌≤◌, ◌<◌}
use mathlib.Core.Path.{◌≡◌, refl}
use mathlib.Core.List.{List, [], ◌∷◌}
use mathlib.Core.Bool.{Bool, true, false}
use native.Mathlib.Omega.{arith}
use borrow.Author.Tests.{ltb-true, ltb-false}
use lib.Bits.{bit_and, bit_or, and_block, and_high, and_le_l, and_le_r, or_add_and}
use lib.Count.{count_trailing_zeros, trailing_le}
use lib.Dec.{ltb}
use lib.ListN.{length, take, drop, get_or, length-drop}
use lib.Seq.{get_or-take, get_or-drop, length-take-le}
use Rattle.le.specs.Le.{le_of}
use Rattle.text.specs.Walk.{Ascii}

-- ---- zeros at the end of a number

even : (k x : ℕ) → count_trailing_zeros (suc k) (x * 2) ≡ suc (count_trailing_zeros k x)
unfolding count_trailing_zeros
even k x =
    let e : x * 2 % 2 ≡ 0 = omega arith in
    let f : x * 2 / 2 ≡ x = omega arith in
    rw (e, f)

odd : (k x : ℕ) → count_trailing_zeros (suc k) (x * 2 + 1) ≡ 0
unfolding count_trailing_zeros
odd k x =
    let e : (x * 2 + 1) % 2 ≡ 1 = omega arith in
    rw e

abbrev eight : ℕ → ℕ
eight k = suc (suc (suc (suc (suc (suc (suc (suc k)))))))

clear : (k x : ℕ) → count_trailing_zeros (eight k) (x * 256) ≡ eight (count_trailing_zeros k x)
clear k x =
    let e : x * 256 ≡ x * 2 * 2 * 2 * 2 * 2 * 2 * 2 * 2 = omega arith in
    rw (e, even, even, even, even, even, even, even, even)

top : (k x : ℕ) → count_trailing_zeros (eight k) (x * 256 + 128) ≡ 7
top k x =
    let e : x * 256 + 128 ≡ (x * 2 + 1) * 2 * 2 * 2 * 2 * 2 * 2 * 2 = omega arith in
    rw (e, even, even, even, even, even, even, even, odd)

-- ---- the top places

unfoldable tops : ℕ → ℕ
tops zero = 0
tops (suc n) = tops n * 256 + 128

unfoldable bits : ℕ → ℕ
bits zero = 0
bits (suc n) = eight (bits n)

and-cons : (x m b : ℕ) → b < 256 → bit_and (b + 256 * x) (m * 256 + 128) ≡ bit_and x m * 256 + b / 128 % 2 * 128
and-cons x m b h =
    let e : b + 256 * x ≡ x * 256 + b = omega arith in
    rw (e, and_block 8 x m b 128 h (omega arith), and_high b 1 7)

-- as many bytes as there are whole bytes of zeros at the end of the top places are ASCII
abbrev Front : List ℕ → Type 0
Front s = (k : ℕ) → k < count_trailing_zeros (bits (length s)) (bit_and (le_of s) (tops (length s))) / 8 → get_or s k 0 < 0x80

front-cons : (b : ℕ) (s : List ℕ) → b < 256 → Front s → (t : Bool) → ltb b 0x80 ≡ t → Front (b ∷ s)
unfolding le_of tops bits
front-cons b s h f true e zero l = ltb-true b 0x80 e
front-cons b s h f true e (suc k) l =
    let z : b / 128 % 2 * 128 ≡ 0 = omega (arith, ltb-true b 0x80 e) in
    let x : ℕ = bit_and (le_of s) (tops (length s)) in
    let y : x * 256 + 0 ≡ x * 256 = omega arith in
    f k (omega (arith, rw (and-cons (le_of s) (tops (length s)) b h, z, y, clear) at l))
front-cons b s h f false e k l =
    let z : b / 128 % 2 * 128 ≡ 128 = omega (arith, ltb-false b 0x80 e) in
    absurd (omega (arith, rw (and-cons (le_of s) (tops (length s)) b h, z, top) at l))

front : (s : List ℕ) → ((k : ℕ) → k < length s → get_or s k 0 < 256) → Front s
unfolding bits
front [] h = λ k l. omega arith
front (b ∷ s) h = front-cons b s (h 0 (omega arith)) (front s (λ k l. h (suc k) (omega arith))) (ltb b 0x80) refl

-- the eight bytes at an index
module _ (s : List ℕ) (at : ℕ) (h : at + 8 ≤ length s) where
  eight-long : length (take 8 (drop at s)) ≡ 8
  eight-long = length-take-le 8 (drop at s) (rw length-drop (omega arith))

  eight-at : (k : ℕ) → k < 8 → get_or (take 8 (drop at s)) k 0 ≡ get_or s (at + k) 0
  eight-at k l = rw (get_or-take, get_or-drop)

  pub front_at : {t : ℕ} → ((k : ℕ) → get_or s k 0 < 256) → t ≡ bit_and (le_of (take 8 (drop at s))) 0x8080_8080_8080_8080
      → Ascii s at (at + count_trailing_zeros 64 t / 8)
  unfolding tops bits
  front_at {t} f e k l m =
      let small : (k : ℕ) → k < length (take 8 (drop at s)) → get_or (take 8 (drop at s)) k 0 < 256 = λ k l. rw (eight-at k (rw eight-long at l)) (f (at + k)) in
      let p : k - at < count_trailing_zeros 64 t / 8 = omega arith in
      let q : k - at < 8 = omega (arith, trailing_le 64 t) in
      let g : at + (k - at) ≡ k = omega arith in
      rw (eight-at (k - at) q, g) at (rw eight-long at (front (take 8 (drop at s)) small) (k - at) (rw e at p))

-- ---- a place that is set in neither of two numbers

pub or-none : (a b : ℕ) → bit_or a b ≡ 0 → (a ≡ 0) × (b ≡ 0)
or-none a b e = omega (arith, or_add_and a b, and_le_l a b, and_le_r a b)
