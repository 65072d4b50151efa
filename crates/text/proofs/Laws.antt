-- What a walk over a text knows of the sequence at an index, and of a run of ASCII. Assumes nothing.
use Prim.Native.Nat.{ℕ, zero, suc, ◌+◌, ◌-◌, ◌≤◌, ◌<◌}
use mathlib.Core.Path.{◌≡◌, refl, sym, ap, ◌∙◌}
use mathlib.Core.List.{List, [], ◌∷◌, ◌++◌}
use mathlib.Core.Bool.{Bool, true, false, ◌&&◌}
use mathlib.Core.Logic.{⊎_elim}
use native.Mathlib.Nat.{add-zero, zero-add, eq-or-lt_of_le}
use native.Mathlib.Numerals.{sub-one}
use native.Mathlib.Omega.{arith}
use borrow.Author.Tests.{lt-ltb, le-ltb, le-leb, lt-leb, leb-true}
use lib.Dec.{leb, ltb}
use lib.ListN.{length, drop, get_or, length-drop, drop_of_length-le}
use lib.Seq.{drop-cons, drop-drop, get_or-drop}
use Rattle.std.proofs.Common.{length-append}
use Rattle.std.proofs.Math.Seq.{drop-append_seam}
use Rattle.std.proofs.lemmas.List.{get_or_append_left}
use Rattle.std.specs.Prelude.{Option, Some, None, MatchOption}
use Rattle.std.specs.Bool.{then_some}
use Rattle.le.specs.Choice.{pick}
use Rattle.le.proofs.Tests.{le-or-lt}
use Rattle.text.specs.Utf8.{two, three, four, size, sequence_size, formed_behind, well_formed, chars_behind, chars, utf8_of}
use Rattle.text.specs.Walk.{Ascii, Passes, utf8_behind}

-- ---- the size of the sequence at an index

-- the test of n bytes, where fewer are left, and where there are as many
pub cut : (n m : ℕ) (t : Bool) → m < n → false ≡ (leb n m && t)
cut n m t h = rw (lt-leb n m h)

pub full : (n m : ℕ) {t u : Bool} → n ≤ m → u ≡ t → u ≡ (leb n m && t)
full n m h e = rw (le-leb n m h) e

module _ (s : List ℕ) (i : ℕ) where
  pub size-one : i < length s → get_or s i 0 < 0x80 → 1 ≡ size (drop i s)
  unfolding size
  size-one h a = simp (get_or-drop, add-zero, length-drop, lt-ltb _ _ a, le-leb 1 (length s - i) (omega arith))

  pub size-two : {t : Bool} → 0x80 ≤ get_or s i 0 → get_or s i 0 < 0xe0
      → t ≡ (leb 2 (length s - i) && two (get_or s i 0) (get_or s (i + 1) 0)) → pick t 2 0 ≡ size (drop i s)
  unfolding size
  size-two a b e = simp (get_or-drop, add-zero, length-drop, le-ltb _ _ a, lt-ltb _ _ b, e)

  pub size-three : {t : Bool} → 0xe0 ≤ get_or s i 0 → get_or s i 0 < 0xf0
      → t ≡ (leb 3 (length s - i) && three (get_or s i 0) (get_or s (i + 1) 0) (get_or s (i + 2) 0)) → pick t 3 0 ≡ size (drop i s)
  unfolding size
  size-three a b e =
      let z : 0x80 ≤ get_or s i 0 = omega arith in
      simp (get_or-drop, add-zero, length-drop, le-ltb _ _ z, le-ltb _ _ a, lt-ltb _ _ b, e)

  pub size-four : {t : Bool} → 0xf0 ≤ get_or s i 0
      → t ≡ (leb 4 (length s - i) && four (get_or s i 0) (get_or s (i + 1) 0) (get_or s (i + 2) 0) (get_or s (i + 3) 0)) → pick t 4 0 ≡ size (drop i s)
  unfolding size
  size-four a e =
      let z : 0x80 ≤ get_or s i 0 = omega arith in
      let y : 0xe0 ≤ get_or s i 0 = omega arith in
      simp (get_or-drop, add-zero, length-drop, le-ltb _ _ z, le-ltb _ _ y, le-ltb _ _ a, e)

-- a sequence ends in its text
pick-le : (t : Bool) {x y n : ℕ} → x ≤ n → y ≤ n → pick t x y ≤ n
pick-le true a b = a
pick-le false a b = b

whole_by : (s : List ℕ) (n : ℕ) (ok t : Bool) → leb n (length s) ≡ t → pick (t && ok) n 0 ≤ length s
whole_by s n ok true e = pick-le ok (leb-true _ _ e) (omega arith)
whole_by s n ok false e = omega arith

whole_le : (s : List ℕ) (n : ℕ) (ok : Bool) → sequence_size s n ok ≤ length s
whole_le s n ok = whole_by s n ok (leb n (length s)) refl

pub size-le : (s : List ℕ) → size s ≤ length s
unfolding size
size-le s =
    pick-le (ltb (get_or s 0 0) 0x80) (whole_le s 1 true)
    (pick-le (ltb (get_or s 0 0) 0xe0) (whole_le s 2 _)
    (pick-le (ltb (get_or s 0 0) 0xf0) (whole_le s 3 _) (whole_le s 4 _)))

-- a size that is not 0
pub found : (t : Bool) {m n : ℕ} → 0 < n → pick t m 0 ≡ n → (t ≡ true) × (m ≡ n)
found true h e = (refl, e)
found false h e = absurd (omega arith)

-- and has four bytes at most
whole-few : (s : List ℕ) (n : ℕ) (ok : Bool) → n ≤ 4 → sequence_size s n ok ≤ 4
whole-few s n ok h = pick-le (leb n (length s) && ok) h (omega arith)

pub size_few : (s : List ℕ) → size s ≤ 4
unfolding size
size_few s =
    pick-le (ltb (get_or s 0 0) 0x80) (whole-few s 1 true (omega arith))
    (pick-le (ltb (get_or s 0 0) 0xe0) (whole-few s 2 _ (omega arith))
    (pick-le (ltb (get_or s 0 0) 0xf0) (whole-few s 3 _ (omega arith)) (whole-few s 4 _ (omega arith))))

-- what a test of n bytes says of a size
pub sized : (t : Bool) {n m : ℕ} {o : Option ℕ} → 0 < n → o ≡ then_some t n → pick t n 0 ≡ m → MatchOption o (0 ≡ m) (λ k. (0 < k) × (k ≡ m))
sized true h e f = rw e (h, f)
sized false h e f = rw e f

-- ---- what is behind a sequence decides

after-drop : (s : List ℕ) (k : ℕ) → formed_behind s k ≡ formed_behind (drop k s) zero
unfolding formed_behind
after-drop [] zero = refl
after-drop [] (suc k) = refl
after-drop (a ∷ s) zero = refl
after-drop (a ∷ s) (suc k) = after-drop s k

count-drop : (s : List ℕ) (k : ℕ) → chars_behind s k ≡ chars_behind (drop k s) zero
unfolding chars_behind
count-drop [] zero = refl
count-drop [] (suc k) = refl
count-drop (a ∷ s) zero = refl
count-drop (a ∷ s) (suc k) = count-drop s k

-- s begins with a sequence, and t is what is behind it
pub record Behind (s t : List ℕ) : Type 0 where
  pub formed : well_formed s ≡ well_formed t
  pub one : chars s ≡ suc (chars t)

pub behind : (s : List ℕ) (n : ℕ) → size s ≡ suc n → Behind s (drop (suc n) s)
unfolding well_formed formed_behind chars chars_behind
behind [] n e = absurd (omega (arith, size-le []))
behind (a ∷ s) n e = record { formed = rw e (after-drop s n); one = rw (e, sub-one) (ap suc (count-drop s n)) }

-- where no sequence is, the text is ill-formed; at its end it is well-formed
no-sequence-cons : (a : ℕ) (s : List ℕ) → size (a ∷ s) ≡ 0 → well_formed (a ∷ s) ≡ false
unfolding well_formed formed_behind
no-sequence-cons a s e = rw e

pub no-sequence : (s : List ℕ) (i : ℕ) → i < length s → 0 ≡ size (drop i s) → well_formed (drop i s) ≡ false
no-sequence s i h e = rw (drop-cons s i 0) (no-sequence-cons (get_or s i 0) (drop (suc i) s) (rw (← drop-cons s i 0 h) (sym e)))

pub at-end : (s : List ℕ) (i : ℕ) → length s ≤ i → well_formed (drop i s) ≡ true
unfolding well_formed formed_behind
at-end s i h = rw (drop_of_length-le s h)

none_left : (s : List ℕ) (i : ℕ) → length s ≤ i → chars (drop i s) ≡ 0
unfolding chars chars_behind
none_left s i h = rw (drop_of_length-le s h)

-- ---- steps of a walk

module _ {s : List ℕ} where
  pub stay : {a : ℕ} → a ≤ length s → Passes s a a 0
  stay h = record { few = omega arith; inside = h; same = refl; count = omega arith }

  pub then : {a b c m n : ℕ} → Passes s a b m → Passes s b c n → Passes s a c (m + n)
  then p q = record { few = omega arith; inside = q.inside; same = q.same ∙ p.same; count = omega arith }

  -- the same numbers told otherwise
  pub told : {a b c m n : ℕ} → Passes s a b m → b ≡ c → m ≡ n → Passes s a c n
  told p e f = rw (← e, ← f) p

  -- the text's end, and a place where no sequence is, decide
  pub well : (k : ℕ) {a b n m : ℕ} → Passes s a b n → length s ≤ b → m ≡ k + n → Some m ≡ utf8_behind k (drop a s)
  well k {a} {b} p h e =
      let f : well_formed (drop a s) ≡ true = sym p.same ∙ at-end s b h in
      rw f (ap Some (omega (arith, p.count, none_left s b h, e)))

  pub ill : (k : ℕ) {a b n : ℕ} → Passes s a b n → b < length s → 0 ≡ size (drop b s) → None ≡ utf8_behind k (drop a s)
  ill k {b = b} p h e = rw (← p.same, no-sequence s b h e)

  -- what is left behind a walk from the start on
  pub left : {b n : ℕ} → Passes s 0 b n → utf8_behind n (drop b s) ≡ utf8_of s
  left p = rw (p.same, ← p.count)

-- a text that is not empty has one
pub some-chars : (s : List ℕ) → 0 < length s → 0 < chars s
unfolding chars chars_behind
some-chars [] h = absurd (omega arith)
some-chars (a ∷ s) h = omega arith

-- the number of a text from its start on
from_start : (s : List ℕ) {o : Option ℕ} → o ≡ utf8_behind 0 s → o ≡ utf8_of s
from_start s e = e ∙ rw zero-add

by_size : (s : List ℕ) (a n : ℕ) → suc n ≡ size (drop a s) → Behind (drop a s) (drop (a + suc n) s)
by_size s a n e = rw (← drop-drop (suc n) a s) (behind (drop a s) n (sym e))

pub over-sequence : (s : List ℕ) (a n : ℕ) → a ≤ length s → 0 < n → n ≡ size (drop a s) → Passes s a (a + n) 1
over-sequence s a zero h l e = absurd (omega arith)
over-sequence s a (suc n) h l e =
    let b = by_size s a n e in
    record { few = omega arith; inside = omega (arith, rw length-drop at (size-le (drop a s))); same = sym b.formed; count = omega (arith, b.one) }

-- a run of ASCII, the last byte of it first
run : (s : List ℕ) (a n : ℕ) → a + n ≤ length s → Ascii s a (a + n) → Passes s a (a + n) n
run s a zero h f = told (stay (omega arith)) (omega arith) refl
run s a (suc n) h f =
    let i : a + n < length s = omega arith in
    let p = run s a n (omega arith) (λ k l m. f k l (omega arith)) in
    let q = over-sequence s (a + n) 1 (omega arith) (omega arith) (size-one s (a + n) i (f (a + n) (omega arith) (omega arith))) in
    told (then p q) (omega arith) (omega arith)

pub over-ascii : (s : List ℕ) {a b : ℕ} (i j : ℕ) → Ascii s a b → a ≤ i → i ≤ j → j ≤ b → j ≤ length s → Passes s i j (j - i)
over-ascii s i j f l m n h =
    told (run s i (j - i) (omega arith) (λ k p q. f k (omega arith) (omega arith))) (omega arith) refl

-- a text of ASCII alone
pub ascii-number : (s : List ℕ) → Ascii s 0 (length s) → Some (length s) ≡ utf8_of s
ascii-number s f = from_start s (well 0 (over-ascii s 0 (length s) f (omega arith) (omega arith) (omega arith) (omega arith)) (omega arith) (omega arith))

-- one byte more of a run
pub ascii_more : (s : List ℕ) (a n : ℕ) → Ascii s a (a + n) → get_or s (a + n) 0 < 0x80 → Ascii s a (a + (n + 1))
ascii_more s a n f h k l m = ⊎_elim (λ e. rw e h) (λ q. f k l q) (eq-or-lt_of_le {n = k} {m = a + n} (omega arith))

-- a part t of a text, and what is behind it
module _ (s t u : List ℕ) (a : ℕ) (e : drop a s ≡ t ++ u) where
  -- ASCII, where the part is
  pub ascii-part : (b : ℕ) → Ascii t 0 (length t) → b ≤ a + length t → Ascii s a b
  ascii-part b f l k p q =
      let i : k - a < length t = omega arith in
      let n : a + (k - a) ≡ k = omega arith in
      let g : get_or (drop a s) (k - a) 0 ≡ get_or t (k - a) 0 = rw e (get_or_append_left t u 0 (k - a) i) in
      let h : get_or s k 0 ≡ get_or t (k - a) 0 = rw n at (simp get_or-drop at g) in
      rw h (f (k - a) (omega arith) i)

  pub part-inside : a ≤ length s → a + length t ≤ length s
  part-inside h = omega (arith, length-append t u, length-drop a s, ap length e)

  pub part-rest : u ≡ drop (a + length t) s
  part-rest = rw (← drop-drop (length t) a s, e) (sym (drop-append_seam t u))

-- ASCII behind ASCII
pub ascii-joined : (s : List ℕ) (a b c : ℕ) → Ascii s a b → Ascii s b c → Ascii s a c
ascii-joined s a b c f g k l m = ⊎_elim (λ h. g k h m) (λ h. f k l h) (le-or-lt b k)
