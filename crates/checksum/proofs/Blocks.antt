-- Why a block of bytes can be summed at once.
--
-- Modulo 2 ^ 32 - 1 a rotation by one place is a doubling: the bit that leaves at the top, where it has become 2 ^ 32, comes back
-- in at the bottom as 1. So n steps of the checksum, as long as none of their additions wraps, make 2 ^ n * s + t of a sum s, where
-- t = 2 ^ (n - 1) * b₁ + .. + 2 * bₙ₋₁ + bₙ, the weight of the n bytes, does not depend on the sum: one rotation by n places and one
-- addition. Whether a step wraps is seen from that one addition. Think of the rotations of a block as all done first. Then nothing
-- moves any more, the k-th byte is added as 2 ^ (n - k) * bₖ, and the steps together add just the weight to the rotated sum. A step
-- that wraps carries through all 32 places, from the one where its byte is added round to the one below it, so it carries out of the
-- highest on its way. Where rotated sum and weight together stay below 2 ^ 32 no step carries out, so none wraps, and they are the sum
-- after the block, not only modulo 2 ^ 32 - 1. Where they do not, the block is summed in smaller ones, and at last byte by byte.
-- Assumes nothing.
use Rattle.std.proofs.Common.{◌≡◌, ℕ, suc, ◌+◌, ◌-◌, ◌*◌, ◌/◌, ◌%◌, ◌^◌, ◌<◌, ◌≤◌, List, [], ◌∷◌, length, sym, refl, ◌∙◌, mod-lt, mod-eq_of_lt, mul_assoc, mul_comm, div-lt_iff_lt-mul, add-mul, mul-le-mul_left, div-add-mod', mul-add, mul_left_comm, arith, pow_pos, pow-add}
use Rattle.std.specs.Int.Bits.{bit_or}
use Rattle.std.proofs.lemmas.Nat.{or_shifted}
use native.Mathlib.Nat.{lt_of_mul-lt-mul_left, pow-succ'}
use lib.Arith.{digits_div, digits_mod, digits_lt}
use Rattle.checksum.specs.Checksum.{rotated, sum_step, sum_from}
use Rattle.checksum.specs.Blocks.{rotated_by, weight}

-- A number of two parts, d above a, whose lower one a shift by n places keeps: p is 2 ^ n and q is 2 ^ (32 - n).
lower-shifted : (p q d a : ℕ) → p * q ≡ 4294967296 → 0 < p → a < q → p * (d * q + a) % 4294967296 ≡ p * a
lower-shifted p q d a e h k =
    let f : p * (d * q + a) ≡ d * (p * q) + p * a = rw (mul-add, mul_left_comm p d q) in
    let u : a + 1 ≤ q = omega arith in
    let g : p * (a + 1) ≤ p * q = mul-le-mul_left p u in
    let i : p * a < p * q = omega (arith, rw mul-add at g) in
    rw (f, ← e, digits_mod d i)

-- what `rotate_left` gives
pub rotate_left-rotated_by : (n s : ℕ) → n ≤ 32 → s < 2 ^ 32 → bit_or (s * 2 ^ n % 2 ^ 32) (s / 2 ^ (32 - n)) ≡ rotated_by n s
rotate_left-rotated_by n s h fits =
    let o : n + (32 - n) ≡ 32 = omega arith in
    let e : 2 ^ n * 2 ^ (32 - n) ≡ 4294967296 = rw (← pow-add 2 n (32 - n), o) in
    let i : s % 2 ^ (32 - n) < 2 ^ (32 - n) = mod-lt s (pow_pos (32 - n)) in
    let d : s / 2 ^ (32 - n) < 2 ^ n = (div-lt_iff_lt-mul {k = 2 ^ (32 - n)} (pow_pos (32 - n))).1 (rw e fits) in
    let f = rw (div-add-mod' s (2 ^ (32 - n))) at (lower-shifted (2 ^ n) (2 ^ (32 - n)) (s / 2 ^ (32 - n)) (s % 2 ^ (32 - n)) e (pow_pos n) i) in
    rw (mul_comm s (2 ^ n), f, mul_comm (2 ^ n) (s % 2 ^ (32 - n)), or_shifted (s % 2 ^ (32 - n)) n (s / 2 ^ (32 - n)) d)

-- A number of two parts, d above a, which a rotation exchanges.
parts-turned : (p q d a : ℕ) → p * q ≡ 4294967296 → d < p → a < q → p * (d * q + a) % 4294967296 + (d * q + a) / q ≡ p * a + d
parts-turned p q d a e h k =
    let pos : 0 < p = omega arith in
    rw (lower-shifted p q d a e pos k, digits_div d k)

-- A number of three parts, c above d above a, of which c is one place and d the others of p.
module _ (p r c d a : ℕ) (e : p * r ≡ 2147483648) (hc : c < 2) (hd : d < p) (ha : a < r) where
  -- rotated by one place
  turned-once : rotated ((c * p + d) * r + a) ≡ d * (2 * r) + (2 * a + c)
  turned-once =
      let lt : d * r + a < 2147483648 = rw e at (digits_lt hd ha) in
      let s : (c * p + d) * r + a ≡ c * 2147483648 + (d * r + a) = rw (add-mul, mul_assoc c p r, e) (omega arith) in
      rw (s, parts-turned 2 2147483648 c (d * r + a) refl hc lt, mul_left_comm d 2 r) (omega arith)

  -- rotated by one place and those of p
  turned-all : 2 * p * ((c * p + d) * r + a) % 4294967296 + ((c * p + d) * r + a) / r ≡ 2 * p * a + (c * p + d)
  turned-all =
      let f : 2 * p * r ≡ 4294967296 = rw mul_assoc (omega arith) in
      parts-turned (2 * p) r (c * p + d) a f (digits_lt hc hd) ha

  -- a byte b added after the one rotation, and the rotation by the places of p
  turned-rest : (b w : ℕ) → 2 * p * a + (c * p + d) + (p * b + w) < 4294967296
      → (d * (2 * r) + (2 * a + c) + b < 4294967296)
      × (p * (d * (2 * r) + (2 * a + c) + b) % 4294967296 + (d * (2 * r) + (2 * a + c) + b) / (2 * r) ≡ 2 * p * a + (c * p + d) + p * b)
  turned-rest b w h =
      let f : p * (2 * r) ≡ 4294967296 = rw (mul_left_comm p 2 r) (omega arith) in
      let g : p * (2 * a + c + b) ≡ 2 * p * a + c * p + p * b =
      rw (mul-add, mul-add, mul_left_comm p 2 a, mul_assoc 2 p a, mul_comm p c) in
      let k : 2 * a + c + b < 2 * r = lt_of_mul-lt-mul_left p (omega arith) in
      let s : d * (2 * r) + (2 * a + c) + b ≡ d * (2 * r) + (2 * a + c + b) = omega arith in
      let lt : d * (2 * r) + (2 * a + c + b) < 4294967296 = rw f at (digits_lt hd k) in
      rw s (lt, parts-turned p (2 * r) d (2 * a + c + b) f hd k ∙ rw g (omega arith))

  step-in-parts : (s b w : ℕ) → s ≡ (c * p + d) * r + a → 2 * p * s % 4294967296 + s / r + (p * b + w) < 4294967296
      → (rotated s + b < 4294967296)
      × (p * (rotated s + b) % 4294967296 + (rotated s + b) / (2 * r) ≡ 2 * p * s % 4294967296 + s / r + p * b)
  step-in-parts s b w q h = rw (q, turned-once, turned-all) (turned-rest b w (rw (q, turned-all) at h))

-- The first step of a block: b is its first byte, w the weight of the others, and p is 2 to the number of those. Where the block does
-- not carry out, the step does not wrap, and rotating the sum after it by what is left gives the rotated sum with the byte in its place.
first_step : (p r s b w : ℕ) → 0 < p → 0 < r → p * r ≡ 2147483648 → s < 4294967296 → 2 * p * s % 4294967296 + s / r + (p * b + w) < 4294967296
    → (rotated s + b < 4294967296)
    × (p * (rotated s + b) % 4294967296 + (rotated s + b) / (2 * r) ≡ 2 * p * s % 4294967296 + s / r + p * b)
first_step p r s b w hp hr e fits h =
    let f : 2 * p * r ≡ 4294967296 = rw mul_assoc (omega arith) in
    let x : s / r < 2 * p = (div-lt_iff_lt-mul {k = r} hr).1 (rw f fits) in
    let hc : s / r / p < 2 = (div-lt_iff_lt-mul {k = p} hp).1 x in
    step-in-parts p r (s / r / p) (s / r % p) (s % r) e hc (mod-lt (s / r) hp) (mod-lt s hr) s b w
    (sym (rw (div-add-mod' (s / r) p) (div-add-mod' s r))) h

-- The law, for a block of any length up to 32: where it does not carry out, the rotated sum and the weight are the sum after it.
pub sum-block : (l : List ℕ) (s : ℕ) → length l ≤ 32 → s < 2 ^ 32 → rotated_by (length l) s + weight l < 2 ^ 32
    → sum_from s l ≡ rotated_by (length l) s + weight l
unfolding sum_from weight
sum-block [] s h fits f = omega arith
sum-block (b ∷ bs) s h fits f =
    let k : ℕ = length bs in
    let n : 32 - suc k ≡ 31 - k = omega arith in
    let m : 32 - k ≡ suc (31 - k) = omega arith in
    let o : k + (31 - k) ≡ 31 = omega arith in
    let e : 2 ^ k * 2 ^ (31 - k) ≡ 2147483648 = rw (← pow-add 2 k (31 - k), o) in
    let g : 2 * 2 ^ k * s % 4294967296 + s / 2 ^ (31 - k) + (2 ^ k * b + weight bs) < 4294967296 = rw (pow-succ' 2 k, n) at f in
    let u = first_step (2 ^ k) (2 ^ (31 - k)) s b (weight bs) (pow_pos k) (pow_pos (31 - k)) e fits g in
    let t : sum_step s b ≡ rotated s + b = mod-eq_of_lt u.0 in
    let v : rotated_by k (rotated s + b) ≡ 2 * 2 ^ k * s % 4294967296 + s / 2 ^ (31 - k) + 2 ^ k * b = rw (m, pow-succ' 2 (31 - k)) u.1 in
    let i : sum_from (rotated s + b) bs ≡ rotated_by k (rotated s + b) + weight bs = sum-block bs (rotated s + b) (omega arith) u.0 (omega arith) in
    rw (t, i, v, pow-succ' 2 k, n) (omega arith)

-- the same of the numbers that a function has, added wrapping
pub block-summed : (n s : ℕ) (l : List ℕ) {x t r : ℕ} → n ≤ 32 → length l ≡ n → s < 2 ^ 32 → x ≡ rotated_by n s → t ≡ weight l → x + t < 2 ^ 32
    → r ≡ (x + t) % 2 ^ 32 → r ≡ sum_from s l
block-summed n s l {x} {t} h e fits f g lt w =
    let i : x + t ≡ sum_from s l = rw (f, g, ← e) (sym (sum-block l s (rw e h) fits (rw (e, ← f, ← g) lt))) in
    w ∙ mod-eq_of_lt lt ∙ i
