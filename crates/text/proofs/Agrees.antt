-- `well_formed` holds of the texts of table 3-7 and of no others, and `chars` is the number of their sequences. Assumes nothing.
use Prim.Native.Nat.{ℕ, zero, suc, ◌-◌, ◌≤◌, ◌<◌}
use mathlib.Core.Path.{◌≡◌, refl, sym, ap, ◌∙◌}
use mathlib.Core.List.{List, [], ◌∷◌}
use mathlib.Core.Bool.{Bool, true, false, ◌&&◌, ◌||◌, and-eq-true_iff, false≢true}
use mathlib.Core.Logic.{◌⊎◌, inl, inr, ⊎_elim}
use native.Mathlib.Numerals.{sub-one}
use native.Mathlib.Omega.{arith}
use borrow.Author.Tests.{le-leb, lt-leb, leb-true, ltb-true}
use lib.Dec.{leb, ltb}
use lib.ListN.{length, drop}
use Rattle.le.specs.Choice.{pick}
use Rattle.le.proofs.Tests.{le-or-lt}
use Rattle.text.specs.Utf8.{continues, pair, two, three, four, size, then_byte, formed_behind, well_formed, chars_behind, chars}
use Rattle.text.specs.Table.{In, row1, row2, row3, row4, row5, row6, row7, row8, row9, Sequences, none, more}
use Rattle.text.specs.Agrees.{outside, Agrees}
use Rattle.text.proofs.Sequences.{Scalar, is-two, is-three, is-four}
use Rattle.text.proofs.Laws.{behind, found, full, size-one, size-two, size-three, size-four}

-- ---- a text of the table is well-formed: a sequence of each length, and what is behind it

-- what the computation says of a text
record Computed (n : ℕ) (s : List ℕ) : Type 0 where
  formed : well_formed s ≡ true
  number : chars s ≡ n

module _ {n : ℕ} (s : List ℕ) (t : Computed n s) where
  sequence-more : (r : List ℕ) (k : ℕ) → size r ≡ suc k → drop (suc k) r ≡ s → Computed (suc n) r
  sequence-more r k e f =
      let b = rw f at (behind r k e) in
      record { formed = b.formed ∙ t.formed; number = b.one ∙ ap suc t.number }

  one_more : {a : ℕ} → a < 0x80 → Computed (suc n) (a ∷ s)
  one_more {a} h = sequence-more (a ∷ s) 0 (sym (size-one (a ∷ s) 0 (omega arith) h)) refl

  two-more : {a b : ℕ} → In 0xc2 0xdf a → In 0x80 0xbf b → Computed (suc n) (a ∷ b ∷ s)
  two-more {a} {b} i j =
      let e = is-two i j in
      sequence-more (a ∷ b ∷ s) 1 (sym (size-two (a ∷ b ∷ s) 0 {t = true} (omega arith) (omega arith) (full 2 (length (a ∷ b ∷ s) - 0) (omega arith) (sym e)))) refl

  three-more : {a b c : ℕ} → In 0xe0 0xef a → In 0x80 0xbf b → In 0x80 0xbf c → pair 0xe0 0xa0 ≤ pair a b → Scalar a b → Computed (suc n) (a ∷ b ∷ c ∷ s)
  three-more {a} {b} {c} i j k l f =
      let e = is-three i j k l f in
      sequence-more (a ∷ b ∷ c ∷ s) 2 (sym (size-three (a ∷ b ∷ c ∷ s) 0 {t = true} (omega arith) (omega arith) (full 3 (length (a ∷ b ∷ c ∷ s) - 0) (omega arith) (sym e)))) refl

  four-more : {a b c d : ℕ} → In 0xf0 0xf4 a → In 0x80 0xbf b → In 0x80 0xbf c → In 0x80 0xbf d → In (pair 0xf0 0x90) (pair 0xf4 0x8f) (pair a b)
      → Computed (suc n) (a ∷ b ∷ c ∷ d ∷ s)
  four-more {a} {b} {c} {d} i j k l f =
      let e = is-four a b c d j k l f in
      sequence-more (a ∷ b ∷ c ∷ d ∷ s) 3 (sym (size-four (a ∷ b ∷ c ∷ d ∷ s) 0 {t = true} (omega arith) (full 4 (length (a ∷ b ∷ c ∷ d ∷ s) - 0) (omega arith) (sym e)))) refl

computed : {n : ℕ} {s : List ℕ} → Sequences n s → Computed n s
unfolding well_formed formed_behind chars chars_behind
computed none = record { formed = refl; number = refl }
computed (more {s = s} (row1 i) t) = one_more s (computed t) (omega arith)
computed (more {s = s} (row2 i j) t) = two-more s (computed t) i j
computed (more {s = s} (row3 i j k) t) = three-more s (computed t) (omega arith) (omega arith) k (omega arith) (inl (omega arith))
computed (more {s = s} (row4 i j k) t) = three-more s (computed t) (omega arith) (omega arith) k (omega arith) (inl (omega arith))
computed (more {s = s} (row5 i j k) t) = three-more s (computed t) (omega arith) (omega arith) k (omega arith) (inl (omega arith))
computed (more {s = s} (row6 i j k) t) = three-more s (computed t) (omega arith) (omega arith) k (omega arith) (inr (omega arith))
computed (more {s = s} (row7 i j k l) t) = four-more s (computed t) (omega arith) (omega arith) k l (omega arith)
computed (more {s = s} (row8 i j k l) t) = four-more s (computed t) (omega arith) (omega arith) k l (omega arith)
computed (more {s = s} (row9 i j k l) t) = four-more s (computed t) (omega arith) (omega arith) k l (omega arith)

-- ---- a well-formed text is one of the table: the row of its first sequence

either : (x y : Bool) → (x || y) ≡ true → (x ≡ true) ⊎ (y ≡ true)
either true y e = inl e
either false y e = inr e

whole-found : (m k : ℕ) (ok : Bool) {n : ℕ} → pick (leb m k && ok) m 0 ≡ suc n → (ok ≡ true) × (m ≡ suc n)
whole-found m k ok e = let f = found (leb m k && ok) (omega arith) e in (((and-eq-true_iff (leb m k) ok).0 f.0).1, f.1)

module _ {m a : ℕ} {s : List ℕ} (t : Sequences m s) where
  two-row : {b : ℕ} → a < 0xe0 → two a b ≡ true → Sequences (suc m) (a ∷ b ∷ s)
  unfolding two
  two-row {b} h e =
      let q = simp and-eq-true_iff at e in
      let i : In 0xc2 0xdf a = omega (arith, leb-true, q) in
      let j : In 0x80 0xbf b = omega (arith, leb-true, q) in
      more (row2 i j) t

  three-row : {b c : ℕ} → In 0xe0 0xef a → three a b c ≡ true → Sequences (suc m) (a ∷ b ∷ c ∷ s)
  unfolding three
  three-row {b} {c} i e =
      let q = simp and-eq-true_iff at e in
      let j : In 0x80 0xbf b = omega (arith, leb-true, q) in
      let k : In 0x80 0xbf c = omega (arith, leb-true, q) in
      let l : pair 0xe0 0xa0 ≤ pair a b = omega (arith, leb-true, q) in
      let f : a ≤ 0xed → 0xec < a → In 0x80 0x9f b = λ x y. ⊎_elim (λ u. omega (arith, ltb-true)) (λ u. omega (arith, ltb-true)) (either (ltb (pair a b) (pair 0xed 0xa0)) (ltb (pair 0xed 0xbf) (pair a b)) q.1) in
      ⊎_elim (λ x. more (row3 (omega arith) (omega arith) k) t) (λ w.
      ⊎_elim (λ x. more (row4 (omega arith) j k) t) (λ y.
      ⊎_elim (λ x. more (row5 (omega arith) (f x y) k) t) (λ z. more (row6 (omega arith) j k) t)
      (le-or-lt a 0xed)) (le-or-lt a 0xec)) (le-or-lt a 0xe0)

  four-row : {b c d : ℕ} → 0xf0 ≤ a → four a b c d ≡ true → Sequences (suc m) (a ∷ b ∷ c ∷ d ∷ s)
  unfolding four
  four-row {b} {c} {d} i e =
      let q = simp and-eq-true_iff at e in
      let j : In 0x80 0xbf b = omega (arith, leb-true, q) in
      let k : In 0x80 0xbf c = omega (arith, leb-true, q) in
      let l : In 0x80 0xbf d = omega (arith, leb-true, q) in
      let f : In (pair 0xf0 0x90) (pair 0xf4 0x8f) (pair a b) = omega (arith, leb-true, q) in
      ⊎_elim (λ x. more (row7 (omega arith) (omega arith) k l) t) (λ w.
      ⊎_elim (λ x. more (row8 (omega arith) j k l) t) (λ y. more (row9 (omega arith) (omega arith) k l) t)
      (le-or-lt a 0xf3)) (le-or-lt a 0xf0)

two-of : {m : ℕ} (a : ℕ) (s : List ℕ) (n : ℕ) → 0x80 ≤ a → a < 0xe0 → size (a ∷ s) ≡ suc n → Sequences m (drop n s) → Sequences (suc m) (a ∷ s)
two-of a [] n l h e t = let z = size-two (a ∷ []) 0 l h refl ∙ e in absurd (omega arith)
two-of a (b ∷ s) n l h e t =
    let f = whole-found 2 (length (a ∷ b ∷ s) - 0) (two a b) (size-two (a ∷ b ∷ s) 0 l h refl ∙ e) in
    let g : n ≡ 1 = omega arith in
    two-row (rw g at t) h f.0

three-of : {m : ℕ} (a : ℕ) (s : List ℕ) (n : ℕ) → 0xe0 ≤ a → a < 0xf0 → size (a ∷ s) ≡ suc n → Sequences m (drop n s) → Sequences (suc m) (a ∷ s)
three-of a [] n l h e t = let z = size-three (a ∷ []) 0 l h refl ∙ e in absurd (omega arith)
three-of a (b ∷ []) n l h e t = let z = size-three (a ∷ b ∷ []) 0 l h refl ∙ e in absurd (omega arith)
three-of a (b ∷ c ∷ s) n l h e t =
    let f = whole-found 3 (length (a ∷ b ∷ c ∷ s) - 0) (three a b c) (size-three (a ∷ b ∷ c ∷ s) 0 l h refl ∙ e) in
    let g : n ≡ 2 = omega arith in
    three-row (rw g at t) (omega arith) f.0

four-of : {m : ℕ} (a : ℕ) (s : List ℕ) (n : ℕ) → 0xf0 ≤ a → size (a ∷ s) ≡ suc n → Sequences m (drop n s) → Sequences (suc m) (a ∷ s)
four-of a [] n l e t = let z = size-four (a ∷ []) 0 l refl ∙ e in absurd (omega arith)
four-of a (b ∷ []) n l e t = let z = size-four (a ∷ b ∷ []) 0 l refl ∙ e in absurd (omega arith)
four-of a (b ∷ c ∷ []) n l e t = let z = size-four (a ∷ b ∷ c ∷ []) 0 l refl ∙ e in absurd (omega arith)
four-of a (b ∷ c ∷ d ∷ s) n l e t =
    let f = whole-found 4 (length (a ∷ b ∷ c ∷ d ∷ s) - 0) (four a b c d) (size-four (a ∷ b ∷ c ∷ d ∷ s) 0 l refl ∙ e) in
    let g : n ≡ 3 = omega arith in
    four-row (rw g at t) l f.0

one_of : {m : ℕ} (a : ℕ) (s : List ℕ) (n : ℕ) → a < 0x80 → size (a ∷ s) ≡ suc n → Sequences m (drop n s) → Sequences (suc m) (a ∷ s)
one_of a s n h e t =
    let g : n ≡ 0 = omega (arith, size-one (a ∷ s) 0 (omega arith) h) in
    let i : In 0x00 0x7f a = omega arith in
    more (row1 i) (rw g at t)

first : {m : ℕ} (a : ℕ) (s : List ℕ) (n : ℕ) → size (a ∷ s) ≡ suc n → Sequences m (drop n s) → Sequences (suc m) (a ∷ s)
first a s n e t =
    ⊎_elim (λ h. one_of a s n (omega arith) e t) (λ l.
    ⊎_elim (λ h. two-of a s n l (omega arith) e t) (λ l.
    ⊎_elim (λ h. three-of a s n l (omega arith) e t) (λ l. four-of a s n l e t)
    (le-or-lt a 0xef)) (le-or-lt a 0xdf)) (le-or-lt a 0x7f)

sized : (a : ℕ) (s : List ℕ) (m : ℕ) → size (a ∷ s) ≡ m → ((k : ℕ) → formed_behind s k ≡ true → Sequences (chars_behind s k) (drop k s)) → then_byte m (formed_behind s) ≡ true
    → Sequences (suc (chars_behind s (m - 1))) (a ∷ s)
sized a s zero e f g = absurd (false≢true g)
sized a s (suc n) e f g = rw sub-one (first a s n e (f n g))

rest : (s : List ℕ) (k : ℕ) → formed_behind s k ≡ true → Sequences (chars_behind s k) (drop k s)
unfolding formed_behind chars_behind
rest [] zero e = none
rest [] (suc k) e = none
rest (a ∷ s) zero e = sized a s (size (a ∷ s)) refl (rest s) e
rest (a ∷ s) (suc k) e = rest s k e

split : (s : List ℕ) → well_formed s ≡ true → Sequences (chars s) s
unfolding well_formed chars
split s e = rest s 0 e

-- ---- the bytes that begin a sequence

pub begins : (b : ℕ) → (b < 0x80) ⊎ (0xbf < b) → continues b ≡ false
begins b (inl h) = rw (lt-leb 0x80 b h)
begins b (inr h) = rw (le-leb 0x80 b (omega arith), lt-leb b 0xbf h)

pub goes_on : (b : ℕ) → In 0x80 0xbf b → continues b ≡ true
goes_on b i = rw (le-leb 0x80 b i.low, le-leb b 0xbf i.high)

counted : {n : ℕ} {s : List ℕ} → Sequences n s → outside s ≡ n
unfolding outside
counted none = refl
counted (more (row1 {a} i) t) = rw (begins a (inl (omega arith)), counted t) (omega arith)
counted (more (row2 {a} {b} i j) t) = rw (begins a (inr (omega arith)), goes_on b j, counted t) (omega arith)
counted (more (row3 {a} {b} {c} i j k) t) = rw (begins a (inr (omega arith)), goes_on b (omega arith), goes_on c k, counted t) (omega arith)
counted (more (row4 {a} {b} {c} i j k) t) = rw (begins a (inr (omega arith)), goes_on b j, goes_on c k, counted t) (omega arith)
counted (more (row5 {a} {b} {c} i j k) t) = rw (begins a (inr (omega arith)), goes_on b (omega arith), goes_on c k, counted t) (omega arith)
counted (more (row6 {a} {b} {c} i j k) t) = rw (begins a (inr (omega arith)), goes_on b j, goes_on c k, counted t) (omega arith)
counted (more (row7 {a} {b} {c} {d} i j k l) t) = rw (begins a (inr (omega arith)), goes_on b (omega arith), goes_on c k, goes_on d l, counted t) (omega arith)
counted (more (row8 {a} {b} {c} {d} i j k l) t) = rw (begins a (inr (omega arith)), goes_on b j, goes_on c k, goes_on d l, counted t) (omega arith)
counted (more (row9 {a} {b} {c} {d} i j k l) t) = rw (begins a (inr (omega arith)), goes_on b (omega arith), goes_on c k, goes_on d l, counted t) (omega arith)

pub agrees : (s : List ℕ) → Agrees s
agrees s =
    record {
      sound = split s;
      complete = λ t. ((computed t).formed, (computed t).number);
      one = λ t u. sym (computed t).number ∙ (computed u).number;
      begins = counted;
    }
