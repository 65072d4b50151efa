-- Two lists compared byte by byte, or n bytes at a time by their fields. Assumes nothing.
use mathlib.Core.Path.{◌≡◌, refl, sym, ◌∙◌}
use mathlib.Core.Bool.{Bool, true, false, ◌&&◌}
use mathlib.Core.List.{List, [], ◌∷◌, ◌++◌}
use mathlib.Core.Logic.{⊎_elim}
use Prim.Native.Nat.{ℕ, zero, suc, ◌+◌, ◌*◌, ◌≤◌, ◌<◌}
use native.Mathlib.Nat.{add-zero}
use native.Mathlib.Numerals.{add-one}
use native.Mathlib.Omega.{arith}
use borrow.Author.Tests.{eq-eqb, ne_eqb, eqb-true}
use lib.Dec.{eqb}
use lib.ListN.{length, take, drop, get_or}
use lib.Seq.{drop-cons}
use lib.Pointwise.{pointwise}
use Rattle.le.specs.Choice.{both}
use Rattle.le.specs.Le.{Bytes, le_of, field, same_bytes}
use Rattle.le.proofs.Tests.{eq-or-not}
use Rattle.le.proofs.Fields.{field-cons, field-one}

pub no_test : {A : Type 0} → false ≡ true → A
no_test e = let z : ◌≡◌ {A = ℕ} 0 1 = cc in absurd (omega arith)

pub both_true : (a b : Bool) → both a b ≡ true → (a ≡ true) × (b ≡ true)
both_true true b e = (refl, e)
both_true false b e = no_test e

-- `&&` and `==` of the library
pub both-and : (a b : Bool) → both a b ≡ (a && b)
both-and true b = refl
both-and false b = refl

pub same_bytes-pointwise : (xs ys : List ℕ) → same_bytes xs ys ≡ pointwise eqb xs ys
unfolding same_bytes
same_bytes-pointwise [] [] = refl
same_bytes-pointwise [] (y ∷ ys) = refl
same_bytes-pointwise (x ∷ xs) [] = refl
same_bytes-pointwise (x ∷ xs) (y ∷ ys) = rw (same_bytes-pointwise xs ys, both-and)

eqb_swap : (x y : ℕ) → eqb x y ≡ eqb y x
eqb_swap x y =
    ⊎_elim (λ e. rw (eq-eqb x y e, eq-eqb y x (sym e))) (λ e. rw (ne_eqb x y e, ne_eqb y x (λ f. e (sym f)))) (eq-or-not x y)

same_swap : (xs ys : List ℕ) → same_bytes xs ys ≡ same_bytes ys xs
unfolding same_bytes
same_swap [] [] = refl
same_swap [] (y ∷ ys) = refl
same_swap (x ∷ xs) [] = refl
same_swap (x ∷ xs) (y ∷ ys) = rw (same_swap xs ys, eqb_swap x y)

-- what the library says of `starts_with`, which has the two the other way round
pub starts-same : (xs ys : List ℕ) → pointwise eqb ys (take (length ys) xs) ≡ same_bytes (take (length ys) xs) ys
starts-same xs ys = sym (same_bytes-pointwise ys (take (length ys) xs)) ∙ same_swap ys (take (length ys) xs)

pub both-assoc : (a b c : Bool) → both (both a b) c ≡ both a (both b c)
both-assoc true b c = refl
both-assoc false b c = refl

-- lists of two parts, of which the first are of one length
pub same-append : (xs us ys vs : List ℕ) → length xs ≡ length us → same_bytes (xs ++ ys) (us ++ vs) ≡ both (same_bytes xs us) (same_bytes ys vs)
unfolding same_bytes
same-append [] [] ys vs e = refl
same-append [] (u ∷ us) ys vs e = absurd (omega arith)
same-append (x ∷ xs) [] ys vs e = absurd (omega arith)
same-append (x ∷ xs) (u ∷ us) ys vs e =
    let f : length xs ≡ length us = omega arith in
    rw (same-append xs us ys vs f, both-assoc)

pub same_refl : (xs : List ℕ) → same_bytes xs xs ≡ true
unfolding same_bytes
same_refl [] = refl
same_refl (x ∷ xs) = rw (eq-eqb x x refl) (same_refl xs)

pub same-equal : (xs ys : List ℕ) → same_bytes xs ys ≡ true → xs ≡ ys
unfolding same_bytes
same-equal [] [] e = refl
same-equal [] (y ∷ ys) e = no_test e
same-equal (x ∷ xs) [] e = no_test e
same-equal (x ∷ xs) (y ∷ ys) e =
    let p = both_true (eqb x y) (same_bytes xs ys) e in
    let h : x ≡ y = eqb-true x y p.0 in
    let t : xs ≡ ys = same-equal xs ys p.1 in
    cc

same-either : (xs ys : List ℕ) (t : Bool) → same_bytes xs ys ≡ t → (xs ≡ ys → ⊥) → t ≡ false
same-either xs ys true e h = absurd (h (same-equal xs ys e))
same-either xs ys false e h = refl

pub differ : (xs ys : List ℕ) → (xs ≡ ys → ⊥) → same_bytes xs ys ≡ false
differ xs ys h = same-either xs ys (same_bytes xs ys) refl h

-- lists whose parts differ differ
pub differ-part : (n i : ℕ) (xs ys : List ℕ) → same_bytes (take n (drop i xs)) (take n (drop i ys)) ≡ false → same_bytes xs ys ≡ false
differ-part n i xs ys e =
    differ xs ys (λ (f : xs ≡ ys). no_test (sym e ∙ rw f (same_refl (take n (drop i ys)))))

-- ---- n bytes at a time

-- two numbers of a lowest byte and the rest are equal where both parts are
eqb-digits : (x y p q : ℕ) → x < 256 → y < 256 → eqb (x + 256 * p) (y + 256 * q) ≡ both (eqb x y) (eqb p q)
eqb-digits x y p q h k =
    ⊎_elim
    (λ e. ⊎_elim
    (λ f. let s : x + 256 * p ≡ y + 256 * q = omega arith in rw (eq-eqb x y e, eq-eqb p q f, eq-eqb _ _ s))
    (λ f. rw (eq-eqb x y e, ne_eqb p q f, ne_eqb (x + 256 * p) (y + 256 * q) (λ s. f (omega arith))))
    (eq-or-not p q))
    (λ e. rw (ne_eqb x y e, ne_eqb (x + 256 * p) (y + 256 * q) (λ s. e (omega arith))))
    (eq-or-not x y)

module _ (a b : List ℕ) (ha : Bytes a) (hb : Bytes b) where
  -- the lists from i on agree where their fields of n bytes do, and the lists behind those
  pub same-fields : (n i : ℕ) → i + n ≤ length a → i + n ≤ length b
      → same_bytes (drop i a) (drop i b) ≡ both (eqb (field n i a) (field n i b)) (same_bytes (drop (i + n) a) (drop (i + n) b))
  unfolding same_bytes le_of
  same-fields zero i h k = rw add-zero
  same-fields (suc n) i h k =
      let p : i < length a = omega arith in
      let q : i < length b = omega arith in
      let e : i + 1 + n ≡ i + suc n = omega arith in
      let ra : drop i a ≡ get_or a i 0 ∷ drop (i + 1) a = rw (add-one, drop-cons a i 0) in
      let rb : drop i b ≡ get_or b i 0 ∷ drop (i + 1) b = rw (add-one, drop-cons b i 0) in
      let r : same_bytes (drop (i + 1) a) (drop (i + 1) b)
      ≡ both (eqb (field n (i + 1) a) (field n (i + 1) b)) (same_bytes (drop (i + suc n) a) (drop (i + suc n) b)) =
      rw e at (same-fields n (i + 1) (omega arith) (omega arith)) in
      rw (field-cons n i a p, field-cons n i b q, eqb-digits _ _ (field n (i + 1) a) (field n (i + 1) b) (ha i) (hb i), both-assoc, ← r, ra, rb)

  pub same-on : (n i : ℕ) → i + n ≤ length a → i + n ≤ length b → field n i a ≡ field n i b
      → same_bytes (drop i a) (drop i b) ≡ same_bytes (drop (i + n) a) (drop (i + n) b)
  same-on n i h k e = rw (same-fields n i h k, eq-eqb (field n i a) (field n i b) e)

  pub same-off : (n i : ℕ) → i + n ≤ length a → i + n ≤ length b → (field n i a ≡ field n i b → ⊥)
      → false ≡ same_bytes (drop i a) (drop i b)
  same-off n i h k e = rw (same-fields n i h k, ne_eqb (field n i a) (field n i b) e)

  -- one byte more of a block that starts at i; t tells of its first k
  pub same_more : (i k : ℕ) (t : Bool) {u : Bool} → i + k < length a → i + k < length b → u ≡ both t (eqb (get_or a (i + k) 0) (get_or b (i + k) 0))
      → both u (same_bytes (drop (i + (k + 1)) a) (drop (i + (k + 1)) b)) ≡ both t (same_bytes (drop (i + k) a) (drop (i + k) b))
  same_more i k t h l e =
      let s : i + k + 1 ≡ i + (k + 1) = omega arith in
      let f = same-fields 1 (i + k) (omega arith) (omega arith) in
      rw (e, both-assoc, f, field-one (i + k) a h, field-one (i + k) b l, s)
