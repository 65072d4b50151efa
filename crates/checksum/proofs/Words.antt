-- The weight of a word's eight bytes, computed side by side in its four parts of 16 bits. Assumes nothing.
use Rattle.std.proofs.Common.{◌≡◌, ℕ, ◌+◌, ◌*◌, ◌/◌, ◌%◌, ◌^◌, ◌<◌, ◌≤◌, List, [], ◌∷◌, ◌++◌, length, take, drop, add_assoc, mul_assoc, mul_comm, mul-add, arith, length-append, length-drop, take-append-drop, take_all, pow-add}
use lib.Arith.{digits_mod}
use lib.Bits.{bit_and, and_block, and_mask}
use lib.Pow.{field, mod-mod-pow}
use Rattle.le.specs.Le.{Bytes, le_bytes, whole_field}
use Rattle.le.proofs.Fields.{field-whole, le_bytes-field, length-le_bytes}
use Rattle.checksum.specs.Blocks.{weight}

-- a word of four parts of 16 bits, the highest first
abbrev four : ℕ → ℕ → ℕ → ℕ → ℕ
four a b c d = ((a * 65536 + b) * 65536 + c) * 65536 + d

-- ---- the mask

-- the low byte of each 16 bits
abbrev low_bytes : ℕ → ℕ
low_bytes w = bit_and w 71777214294589695

-- 16 bits of the mask keep the low byte of 16 bits of the word
low_byte : (a e r : ℕ) → r < 65536 → bit_and (a * 65536 + r) (e * 65536 + 255) ≡ bit_and a e * 65536 + r % 256
low_byte a e r h = rw (and_block 16 a e r 255 h (omega arith), and_mask r 8)

low-bytes : (a b c d : ℕ) → a < 65536 → b < 65536 → c < 65536 → d < 65536
    → low_bytes (four a b c d) ≡ four (a % 256) (b % 256) (c % 256) (d % 256)
low-bytes a b c d i j k l =
    rw (low_byte ((a * 65536 + b) * 65536 + c) 1095233372415 d l, low_byte (a * 65536 + b) 16711935 c k, low_byte a 255 b j, and_mask a 8)

-- ---- two bytes

-- the weight of the two bytes of 16 bits
unfoldable pair : ℕ → ℕ
pair x = 2 * (x % 256) + x / 256

pair_small : (x : ℕ) → x < 65536 → pair x < 766
unfolding pair
pair_small x h = omega arith

shifted : (a b c d : ℕ) → four a b c d / 256
    ≡ four (a / 256) (a % 256 * 256 + b / 256) (b % 256 * 256 + c / 256) (c % 256 * 256 + d / 256)
shifted a b c d = omega arith

low : (x y : ℕ) → y < 65536 → (x % 256 * 256 + y / 256) % 256 ≡ y / 256
low x y h = omega arith

short : (x y : ℕ) → y < 65536 → x % 256 * 256 + y / 256 < 65536
short x y h = omega arith

doubled : (a b c d e f g h : ℕ) → 2 * four a b c d + four e f g h ≡ four (2 * a + e) (2 * b + f) (2 * c + g) (2 * d + h)
doubled a b c d e f g h = omega arith

module _ (a b c d : ℕ) (i : a < 65536) (j : b < 65536) (k : c < 65536) (l : d < 65536) where
  pairs : 2 * low_bytes (four a b c d) + low_bytes (four a b c d / 256) ≡ four (pair a) (pair b) (pair c) (pair d)
  unfolding pair
  pairs =
      let z : a / 256 % 256 ≡ a / 256 = omega arith in
      let q : a / 256 < 65536 = omega arith in
      rw (
        shifted a b c d,
        low-bytes a b c d i j k l,
        low-bytes (a / 256) (a % 256 * 256 + b / 256) (b % 256 * 256 + c / 256) (c % 256 * 256 + d / 256) q (short a b j) (short b c k) (short c d l),
        z,
        low a b j,
        low b c k,
        low c d l,
      )
      (doubled (a % 256) (b % 256) (c % 256) (d % 256) (a / 256) (b / 256) (c / 256) (d / 256))

  pairs-from : (w : ℕ) {e f : ℕ} → w ≡ four a b c d → e ≡ low_bytes w → f ≡ low_bytes (w / 256)
      → 2 * e + f ≡ four (pair a) (pair b) (pair c) (pair d)
  pairs-from w m p q = rw (p, q, m) pairs

-- ---- a word's weight

pair_of : (x : ℕ) → pair (x % 65536) ≡ 2 * (x % 256) + x / 256 % 256
unfolding pair
pair_of x = rw (mod-mod-pow x 8 8, field x 8 8)

-- the bytes of a word weigh what its pairs do
weight-pairs : (w : ℕ) → weight (le_bytes 8 w)
    ≡ 64 * pair (w % 65536) + 16 * pair (w / 65536 % 65536) + 4 * pair (w / 65536 / 65536 % 65536) + pair (w / 65536 / 65536 / 65536 % 65536)
unfolding weight le_bytes
weight-pairs w =
    let e : (x : ℕ) → x / 256 / 256 ≡ x / 65536 = λ x. omega arith in
    rw (pair_of w, pair_of (w / 65536), pair_of (w / 65536 / 65536), pair_of (w / 65536 / 65536 / 65536), e w, e (w / 65536), e (w / 65536 / 65536)) (omega arith)

-- the pairs of a word w in the parts of a word t
pub record Twos (w t : ℕ) : Type 0 where
  pub a : ℕ
  pub b : ℕ
  pub c : ℕ
  pub d : ℕ
  pub small : (a < 766) × ((b < 766) × ((c < 766) × (d < 766)))
  pub parts : t ≡ four a b c d
  pub weighs : weight (le_bytes 8 w) ≡ 64 * d + 16 * c + 4 * b + a

pub twos : (w : ℕ) {e f : ℕ} → w < 2 ^ 64 → e ≡ low_bytes w → f ≡ low_bytes (w / 256) → Twos w (2 * e + f)
twos w fits p q =
    let a : ℕ = w / 65536 / 65536 / 65536 in
    let b : ℕ = w / 65536 / 65536 % 65536 in
    let c : ℕ = w / 65536 % 65536 in
    let d : ℕ = w % 65536 in
    let i : a < 65536 = omega arith in
    let j : b < 65536 = omega arith in
    let k : c < 65536 = omega arith in
    let l : d < 65536 = omega arith in
    let m : w ≡ four a b c d = omega arith in
    let o : a % 65536 ≡ a = omega arith in
    record {
      a = pair a;
      b = pair b;
      c = pair c;
      d = pair d;
      small = (pair_small a i, (pair_small b j, (pair_small c k, pair_small d l)));
      parts = pairs-from a b c d i j k l w m p q;
      weighs = rw o at (weight-pairs w);
    }

-- ---- four bytes, and eight: each part joined with those below it

-- what a shift makes of the parts: the highest are lost, the lowest are 0
shifted_one : (a b c d : ℕ) → a < 766 → b < 766 → c < 766 → d < 766 → four a b c d * 262144 % 18446744073709551616 ≡ four (4 * b) (4 * c) (4 * d) 0
shifted_one a b c d h i j k =
    let e : four a b c d * 262144 ≡ 4 * a * 18446744073709551616 + four (4 * b) (4 * c) (4 * d) 0 = omega arith in
    let lt : four (4 * b) (4 * c) (4 * d) 0 < 18446744073709551616 = omega arith in
    rw e (digits_mod (4 * a) lt)

shifted-two : (a b c d : ℕ) → c < 3826 → d < 766 → four a b c d * 68719476736 % 18446744073709551616 ≡ four (16 * c) (16 * d) 0 0
shifted-two a b c d h k =
    let e : four a b c d * 68719476736 ≡ (16 * a * 65536 + 16 * b) * 18446744073709551616 + four (16 * c) (16 * d) 0 0 = omega arith in
    let lt : four (16 * c) (16 * d) 0 0 < 18446744073709551616 = omega arith in
    rw e (digits_mod (16 * a * 65536 + 16 * b) lt)

-- joined with the next part, and with the two behind that
abbrev fours_of : ℕ → ℕ
fours_of t = t + t * 262144 % 18446744073709551616

abbrev eights_of : ℕ → ℕ
eights_of u = u + u * 68719476736 % 18446744073709551616

fours-are : (a b c d t : ℕ) → a < 766 → b < 766 → c < 766 → d < 766 → t ≡ four a b c d → fours_of t ≡ four (4 * b + a) (4 * c + b) (4 * d + c) d
fours-are a b c d t h i j k e = rw (e, shifted_one a b c d h i j k) (omega arith)

eights-are : (a b c d u : ℕ) → a < 766 → b < 766 → c < 766 → d < 766 → u ≡ four (4 * b + a) (4 * c + b) (4 * d + c) d
    → eights_of u ≡ four (64 * d + 16 * c + 4 * b + a) (16 * d + 4 * c + b) (4 * d + c) d
eights-are a b c d u h i j k e = rw (e, shifted-two (4 * b + a) (4 * c + b) (4 * d + c) d (omega arith) k) (omega arith)

highest : (a b c d : ℕ) → b < 65536 → c < 65536 → d < 65536 → four a b c d / 281474976710656 ≡ a
highest a b c d h i j = omega arith

module _ {w t : ℕ} (p : Twos w t) where
  four-by-four : fours_of t ≡ four (4 * p.b + p.a) (4 * p.c + p.b) (4 * p.d + p.c) p.d
  four-by-four = fours-are p.a p.b p.c p.d t p.small.0 p.small.1.0 p.small.1.1.0 p.small.1.1.1 p.parts

  eight-by-eight : eights_of (fours_of t) ≡ four (64 * p.d + 16 * p.c + 4 * p.b + p.a) (16 * p.d + 4 * p.c + p.b) (4 * p.d + p.c) p.d
  eight-by-eight =
      eights-are p.a p.b p.c p.d (fours_of t) p.small.0 p.small.1.0 p.small.1.1.0 p.small.1.1.1 four-by-four

  -- neither carries out of the word, and the highest part of the second is the weight
  pub fours-fit : fours_of t < 2 ^ 64
  fours-fit = rw four-by-four (omega arith)

  pub eights-fit : eights_of (fours_of t) < 2 ^ 64
  eights-fit = rw eight-by-eight (omega arith)

  pub word-weight : eights_of (fours_of t) / 281474976710656 ≡ weight (le_bytes 8 w)
  word-weight = rw (eight-by-eight, highest _ (16 * p.d + 4 * p.c + p.b) (4 * p.d + p.c) p.d (omega arith) (omega arith) (omega arith), p.weighs)

  pub word_small : eights_of (fours_of t) / 281474976710656 < 65536
  word_small = rw (word-weight, p.weighs) (omega arith)

-- ---- bytes that were read as words

-- the weight of one list behind another
weight-append : (xs ys : List ℕ) → weight (xs ++ ys) ≡ 2 ^ length ys * weight xs + weight ys
unfolding weight
weight-append [] ys = omega arith
weight-append (x ∷ xs) ys =
    rw (weight-append xs ys, length-append xs ys, pow-add 2 (length xs) (length ys), mul_comm (2 ^ length xs) (2 ^ length ys), mul-add, mul_assoc, add_assoc)

module _ (l : List ℕ) (b : Bytes l) where
  read-bytes : (n at : ℕ) {w : ℕ} → at + n ≤ length l → w ≡ whole_field n at l → le_bytes n w ≡ take n (drop at l)
  read-bytes n at h e = rw (e, field-whole n at l h) (le_bytes-field n at l b h)

  pub weight-word : {t w : ℕ} → length l ≡ 8 → w ≡ whole_field 8 0 l → t ≡ weight (le_bytes 8 w) → t ≡ weight l
  weight-word h e f =
      let k : length l ≤ 8 = omega arith in
      rw (read-bytes 8 0 (omega arith) e, take_all 8 l k) at f

  pub weight-words : {t u v w : ℕ} → length l ≡ 16 → v ≡ whole_field 8 0 l → w ≡ whole_field 8 8 l → t ≡ weight (le_bytes 8 v)
      → u ≡ weight (le_bytes 8 w) → 256 * t + u ≡ weight l
  weight-words {t} {u} {v} {w} h e f g i =
      let k : length (drop 8 l) ≤ 8 = rw length-drop (omega arith) in
      let p : le_bytes 8 v ++ le_bytes 8 w ≡ l = rw (read-bytes 8 0 (omega arith) e, read-bytes 8 8 (omega arith) f, take_all 8 (drop 8 l) k) (take-append-drop 8 l) in
      rw (← p, weight-append, length-le_bytes 8 w, ← g, ← i)
