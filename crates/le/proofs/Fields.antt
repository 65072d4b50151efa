-- Laws of little-endian fields, each stated once over the width. Assumes nothing.
use mathlib.Core.Path.{◌≡◌, refl, sym, ap, ◌∙◌}
use mathlib.Core.List.{List, [], ◌∷◌, ◌++◌}
use Prim.Native.Nat.{ℕ, zero, suc, ◌+◌, ◌-◌, ◌*◌, ◌/◌, ◌%◌, ◌^◌, ◌≤◌, ◌<◌}
use native.Mathlib.Nat.{mul-add, mul_comm, mul_assoc, add_assoc, zero-add, suc-add, div-one, pow-succ', pow-suc, one-le-pow, div-lt_iff_lt-mul, div-div-eq-div-mul}
use native.Mathlib.Numerals.{add-one}
use native.Mathlib.Omega.{arith}
use borrow.Author.Tests.{le-leb, lt-leb}
use lib.Arith.{mod-mul, digits_div, digits_mod}
use lib.ListN.{length, take, drop, get_or, replicate, length-take, drop_of_length-le}
use lib.Seq.{take-suc, take_all, take_at, drop-append-add, take-nil, take-take, drop-drop, drop-cons}
use Rattle.std.specs.Int.{sum_through, byte_worth, bytes_low_first}
use Rattle.le.specs.Le.{Bytes, le_of, le_bytes, field, whole_field}

-- ---- reading

le_of-append : (xs ys : List ℕ) → le_of (xs ++ ys) ≡ le_of xs + 256 ^ length xs * le_of ys
unfolding le_of
le_of-append [] ys = omega arith
le_of-append (x ∷ xs) ys = rw (le_of-append xs ys, pow-succ' 256, mul-add, mul_assoc, add_assoc)

-- nothing is there of a field that starts at the end or behind it
pub field-none : (n at : ℕ) (l : List ℕ) → length l ≤ at → field n at l ≡ 0
unfolding le_of
field-none zero at l h = refl
field-none (suc n) at l h = rw (drop_of_length-le l h)

-- a field that is wholly there, and one that is not
pub field-whole : (n at : ℕ) (l : List ℕ) → at + n ≤ length l → whole_field n at l ≡ field n at l
unfolding whole_field
field-whole n at l h = rw (le-leb _ _ h)

pub field_cut : (n at : ℕ) (l : List ℕ) → length l < at + n → whole_field n at l ≡ 0
unfolding whole_field
field_cut n at l h = rw (lt-leb _ _ h)

-- the first byte of a field, and the others
pub field-cons : (n at : ℕ) (l : List ℕ) → at < length l → field (suc n) at l ≡ get_or l at 0 + 256 * field n (at + 1) l
unfolding le_of
field-cons n at l h = rw (add-one, drop-cons l at 0)

-- a field of one byte
pub field-one : (at : ℕ) (l : List ℕ) → at < length l → field 1 at l ≡ get_or l at 0
unfolding le_of
field-one at l h = rw (field-cons 0 at l h) (omega arith)

pub drop-take : (k m : ℕ) (l : List ℕ) → drop k (take (k + m) l) ≡ take m (drop k l)
drop-take zero m l = rw zero-add
drop-take (suc k) m [] = rw suc-add (sym (take-nil m))
drop-take (suc k) m (x ∷ l) = rw suc-add (drop-take k m l)

-- a part of a part is a part of the whole
pub part-part : (n k m at : ℕ) (l : List ℕ) → k + n ≤ m → take n (drop k (take m (drop at l))) ≡ take n (drop (at + k) l)
part-part n k m at l h =
    let e : k + (m - k) ≡ m = omega arith in
    let r : drop k (take m (drop at l)) ≡ take (m - k) (drop k (drop at l)) = rw e at (drop-take k (m - k) (drop at l)) in
    let f : n ≤ m - k = omega arith in
    rw (r, take-take n (m - k) (drop k (drop at l)) f, drop-drop)

-- a field inside a part is a field of the whole
pub field-part : (n k m at : ℕ) (l : List ℕ) → k + n ≤ m → field n k (take m (drop at l)) ≡ field n (at + k) l
field-part n k m at l h = ap le_of (part-part n k m at l h)

-- ---- the library's numbers of bytes

-- the n bytes from `at` on, where that many are there, and zeros where not
pub whole_field-there : (n at : ℕ) (l : List ℕ) {bs : List ℕ} → at + n ≤ length l → bs ≡ take (at + n - at) (drop at l) → le_of bs ≡ whole_field n at l
whole_field-there n at l h e =
    let k : at + n - at ≡ n = omega arith in
    rw (field-whole n at l h, e, k)

le_of-zeros : (n : ℕ) → le_of (replicate n 0) ≡ 0
unfolding le_of
le_of-zeros zero = refl
le_of-zeros (suc n) = rw (le_of-zeros n) (omega arith)

pub whole_field-zeros : (n at : ℕ) (l : List ℕ) → length l < at + n → le_of (replicate n 0) ≡ whole_field n at l
whole_field-zeros n at l h = rw (field_cut n at l h, le_of-zeros n)

-- `from_le_bytes`
pub sum_through-le_of : (k : ℕ) (xs : List ℕ) → k < length xs → sum_through (λ i. byte_worth i (get_or xs i 0)) k ≡ le_of (take (suc k) xs)
unfolding le_of
sum_through-le_of zero xs h = sym (field-one 0 xs h)
sum_through-le_of (suc k) xs h =
    let i : k < length xs = omega arith in
    let e : length (take (suc k) xs) ≡ suc k = rw length-take (omega arith) in
    rw (take-suc xs (suc k) 0, le_of-append, e, sum_through-le_of k xs i) (omega (arith, mul_comm (256 ^ suc k) (get_or xs (suc k) 0)))

pub from_bytes : (k : ℕ) (xs : List ℕ) {r w : ℕ} → length xs ≡ suc k → r ≡ sum_through (λ i. byte_worth i (get_or xs i 0)) k → le_of xs ≡ w → r ≡ w
from_bytes k xs h e f =
    let i : k < length xs = omega arith in
    let j : length xs ≤ suc k = omega arith in
    e ∙ sum_through-le_of k xs i ∙ ap le_of (take_all (suc k) xs j) ∙ f

-- `to_le_bytes`
pub bytes_low_first-le_bytes : (n i x : ℕ) → bytes_low_first i n x ≡ le_bytes n (x / 256 ^ i)
unfolding le_bytes
bytes_low_first-le_bytes zero i x = refl
bytes_low_first-le_bytes (suc n) zero x = rw (bytes_low_first-le_bytes n 1 x, div-one)
bytes_low_first-le_bytes (suc n) (suc i) x =
    let e : x / 256 ^ suc i / 256 ≡ x / 256 ^ suc (suc i) = rw (pow-suc 256 (suc i), div-div-eq-div-mul) in
    rw (bytes_low_first-le_bytes n (suc (suc i)) x, e)

-- ---- writing

pub length-le_bytes : (n x : ℕ) → length (le_bytes n x) ≡ n
unfolding le_bytes
length-le_bytes zero x = refl
length-le_bytes (suc n) x = ap suc (length-le_bytes n (x / 256))

-- a field of n + m bytes is one of n and behind it one of m
pub le_bytes-split : (n m x : ℕ) → le_bytes (n + m) x ≡ le_bytes n x ++ le_bytes m (x / 256 ^ n)
unfolding le_bytes
le_bytes-split zero m x = rw (zero-add, div-one)
le_bytes-split (suc n) m x = rw (suc-add, pow-succ' 256, le_bytes-split n m (x / 256), div-div-eq-div-mul)

-- the n lowest bytes of x are those of what x leaves at 256 ^ n
pub le_bytes-mod : (n x : ℕ) → le_bytes n (x % 256 ^ n) ≡ le_bytes n x
unfolding le_bytes
le_bytes-mod zero x = refl
le_bytes-mod (suc n) x =
    let e : x % 256 ^ suc n ≡ (x / 256 % 256 ^ n) * 256 + x % 256 =
    rw (pow-suc 256 n) (mod-mul x (one-le-pow n 256 (omega arith)) (omega arith)) in
    let lt : x % 256 < 256 = omega arith in
    rw (e, digits_mod (x / 256 % 256 ^ n) lt, digits_div (x / 256 % 256 ^ n) lt, le_bytes-mod n (x / 256))

-- ---- there and back

-- a number that fits n bytes is read back from them
pub le_of-le_bytes : (n x : ℕ) → x < 256 ^ n → le_of (le_bytes n x) ≡ x
unfolding le_of le_bytes
le_of-le_bytes zero x h = omega arith
le_of-le_bytes (suc n) x h =
    let k : x / 256 < 256 ^ n = (div-lt_iff_lt-mul {k = 256} (omega arith)).1 (rw (pow-suc 256 n) at h) in
    rw (le_of-le_bytes n (x / 256) k) (omega arith)

-- a field that was written first is read back, and one behind others is found behind them
pub field-front : (n x : ℕ) (rest : List ℕ) → x < 256 ^ n → field n 0 (le_bytes n x ++ rest) ≡ x
field-front n x rest h = rw (take_at (le_bytes n x) rest n (length-le_bytes n x)) (le_of-le_bytes n x h)

pub field-behind : (n k m : ℕ) (xs ys : List ℕ) → length xs ≡ k → field n (k + m) (xs ++ ys) ≡ field n m ys
field-behind n k m xs ys e = rw (← e, drop-append-add)

-- the bytes of a field's number are the bytes that lie there
pub le_bytes-field : (n at : ℕ) (l : List ℕ) → Bytes l → at + n ≤ length l → le_bytes n (field n at l) ≡ take n (drop at l)
unfolding le_of le_bytes
le_bytes-field zero at l b h = refl
le_bytes-field (suc n) at l b h =
    let k : at < length l = omega arith in
    let lt : get_or l at 0 < 256 = b at in
    let e : (get_or l at 0 + 256 * field n (at + 1) l) % 256 ≡ get_or l at 0 = omega arith in
    let d : (get_or l at 0 + 256 * field n (at + 1) l) / 256 ≡ field n (at + 1) l = omega arith in
    let r : drop at l ≡ get_or l at 0 ∷ drop (at + 1) l = rw (add-one, drop-cons l at 0) in
    rw (field-cons n at l k, e, d, le_bytes-field n (at + 1) l b (omega arith), r)
