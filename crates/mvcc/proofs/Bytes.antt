-- Lists whose elements are bytes, and how large their fields are. Assumes nothing.
use mathlib.Core.List.{List, [], ◌∷◌, ◌++◌}
use mathlib.Core.Logic.{⊎_elim}
use Prim.Native.Nat.{ℕ, zero, suc, ◌+◌, ◌-◌, ◌*◌, ◌/◌, ◌^◌, ◌≤◌, ◌<◌}
use native.Mathlib.Nat.{pow-succ', one-le-pow}
use native.Mathlib.Omega.{arith}
use lib.Dec.{lit<}
use lib.ListN.{length, get_or, take, drop, replicate}
use mathlib.Core.Path.{◌≡◌}
use Rattle.le.specs.Le.{Bytes, le_of, le_bytes, field}
use Rattle.le.proofs.Tests.{le-or-lt}
use Rattle.le.proofs.Fields.{field-none, field-cons}

-- a field of n bytes is below 256 ^ m, for every m that is no less than n
pub field-below : (n m at : ℕ) (l : List ℕ) → n ≤ m → Bytes l → field n at l < 256 ^ m
unfolding le_of
field-below zero m at l h b = one-le-pow m 256 (lit< tt)
field-below (suc n) zero at l h b = absurd (omega (arith, h))
field-below (suc n) (suc m) at l h b =
    ⊎_elim
    (λ k. rw (field-none (suc n) at l k) (one-le-pow (suc m) 256 (lit< tt)))
    (λ k. rw (field-cons n at l k, pow-succ') (omega (arith, b at, field-below n m (at + 1) l (omega (arith, h)) b)))
    (le-or-lt (length l) at)

pub field-small : (n at : ℕ) (l : List ℕ) → Bytes l → field n at l < 256 ^ n
field-small n at l b = field-below n n at l (omega arith) b

-- a field with the byte before it
pub field-before : (n i at : ℕ) (l : List ℕ) → 0 < i → i ≤ n → at + n ≤ length l
    → 256 * field (n - i) (at + i) l + get_or l (at + (i - 1)) 0 ≡ field (n - (i - 1)) (at + (i - 1)) l
field-before n i at l a b h =
    let k : suc (n - i) ≡ n - (i - 1) = omega arith in
    let j : at + (i - 1) + 1 ≡ at + i = omega arith in
    let r = field-cons (n - i) (at + (i - 1)) l (omega arith) in
    let q = rw (k, j) at r in
    omega (arith, q)

pub bytes-none : Bytes []
bytes-none i = lit< tt

pub bytes-cons : (x : ℕ) (l : List ℕ) → x < 256 → Bytes l → Bytes (x ∷ l)
bytes-cons x l h b zero = h
bytes-cons x l h b (suc i) = b i

pub bytes-append : (k l : List ℕ) → Bytes k → Bytes l → Bytes (k ++ l)
bytes-append [] l h b i = b i
bytes-append (x ∷ k) l h b zero = h zero
bytes-append (x ∷ k) l h b (suc i) = bytes-append k l (λ j. h (suc j)) b i

pub bytes_drop : (n : ℕ) (l : List ℕ) → Bytes l → Bytes (drop n l)
bytes_drop zero l b i = b i
bytes_drop (suc n) [] b i = lit< tt
bytes_drop (suc n) (x ∷ l) b i = bytes_drop n l (λ j. b (suc j)) i

pub bytes_take : (n : ℕ) (l : List ℕ) → Bytes l → Bytes (take n l)
bytes_take zero l b i = lit< tt
bytes_take (suc n) [] b i = lit< tt
bytes_take (suc n) (x ∷ l) b zero = b zero
bytes_take (suc n) (x ∷ l) b (suc i) = bytes_take n l (λ j. b (suc j)) i

pub bytes-part : (n at : ℕ) (l : List ℕ) → Bytes l → Bytes (take n (drop at l))
bytes-part n at l b = bytes_take n (drop at l) (bytes_drop at l b)

pub bytes-le_bytes : (n x : ℕ) → Bytes (le_bytes n x)
unfolding le_bytes
bytes-le_bytes zero x i = lit< tt
bytes-le_bytes (suc n) x zero = omega arith
bytes-le_bytes (suc n) x (suc i) = bytes-le_bytes n (x / 256) i

pub bytes-zeros : (n : ℕ) → Bytes (replicate n 0)
bytes-zeros zero i = lit< tt
bytes-zeros (suc n) zero = lit< tt
bytes-zeros (suc n) (suc i) = bytes-zeros n i
