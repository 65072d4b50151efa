-- Laws of answers and of the decoding definitions, as the functions' proofs cite them. Assumes nothing.
use mathlib.Core.Path.{◌≡◌, refl, sym, ◌∙◌}
use mathlib.Core.Bool.{Bool, true, false}
use mathlib.Core.List.{List, ◌∷◌}
use Prim.Native.Nat.{ℕ, zero, suc, ◌+◌, ◌-◌, ◌%◌, ◌^◌, ◌≤◌, ◌<◌}
use native.Mathlib.Numerals.{sub-one}
use native.Mathlib.Omega.{arith}
use borrow.Author.Tests.{le-ltb, lt-ltb, leb-true}
use lib.ListN.{length, take, drop, length-take, length-drop}
use lib.IntN.{ℤ, pos, negsuc}
use lib.Ieee.{binary32, binary64, nan_bits}
use lib.Ieee.Bits.{nan_bits_above}
use mir.Val.{of_z, to_z, sel, SFits}
use mir.ValLaws.{to_z-of_z}
use mir.Syntax.{w64}
use Rattle.std.specs.Prelude.{Option, None, Some, Ok, Err}
use lib.Dec.{leb, ltb}
use Rattle.le.specs.Choice.{pick}
use Rattle.le.specs.Le.{field, whole_field}
use Rattle.le.proofs.Fields.{field-whole}
use Rattle.text.specs.Utf8.{well_formed, chars}
use Rattle.text.proofs.Answers.{counted-well, counted-ill, empty-well, empty-chars}
use Rattle.refusal.specs.declared.Refusal.{Refusal}
use Rattle.refusal.specs.declared.Refusal.TheVariants.{Short, Truncated, Text}
use Rattle.refusal.specs.Refusal.{unless}
use Rattle.mvcc.specs.Answer.{Answer, taken, refused, then, many}
use Rattle.mvcc.specs.Decode.{fits_in, num_at, text_of, text_at, signed, record_at, records_at, batch_end, heading_refusal, batch_of}
use Rattle.mvcc.specs.declared.TextPlace.{TextPlace}
use Rattle.mvcc.specs.declared.MvccLogRecord.{MvccLogRecord}

-- ---- runs

-- only where a run ended
abbrev pub ends : {A : Type 0} → Answer A → Answer Unit
ends (taken a end) = taken tt end
ends (refused k) = refused k

ends-cons : {A : Type 0} (a : A) (x : Answer (List A)) → ends (then x (λ rest end. taken (a ∷ rest) end)) ≡ ends x
ends-cons a (taken l end) = refl
ends-cons a (refused k) = refl

ends-then : {A : Type 0} (x : Answer A) (m : ℕ → Answer (List A))
    → ends (then x (λ a next. then (m next) (λ rest end. taken (a ∷ rest) end))) ≡ then x (λ a next. ends (m next))
ends-then (taken a next) m = ends-cons a (m next)
ends-then (refused k) m = refl

pub then-ends : {A B : Type 0} (x : Answer A) (g : ℕ → Answer B) → then x (λ a end. g end) ≡ then (ends x) (λ u end. g end)
then-ends (taken a next) g = refl
then-ends (refused k) g = refl

module _ {A : Type 0} (f : ℕ → Answer A) where
  many-step : (left at : ℕ) → 0 < left → ends (many f left at) ≡ then (f at) (λ a next. ends (many f (left - 1) next))
  unfolding many
  many-step zero at h = absurd (omega (arith, h))
  many-step (suc k) at h = rw sub-one (ends-then (f at) (many f k))

  -- a turn of a loop that counts down: one thing more, a refusal, the end
  pub many-on : (left at : ℕ) {next : ℕ} {a : A} {z : Answer Unit} → 0 < left → f at ≡ taken a next → ends (many f left at) ≡ z
      → ends (many f (left - 1) next) ≡ z
  many-on left at h e i = rw e at (sym (many-step left at h) ∙ i)

  pub many-off : (left at : ℕ) {k : Refusal} {z : Answer Unit} → 0 < left → f at ≡ refused k → ends (many f left at) ≡ z → z ≡ refused k
  many-off left at h e i = sym (rw e at (sym (many-step left at h) ∙ i))

  pub many-done : (left at : ℕ) {z : Answer Unit} → left ≤ 0 → ends (many f left at) ≡ z → z ≡ taken tt at
  unfolding many
  many-done zero at h i = sym i
  many-done (suc k) at h i = absurd (omega (arith, h))

-- ---- fields

-- a test that was taken
pub room : {r : Bool} (s : List ℕ) (at n : ℕ) → r ≡ fits_in s at n → r ≡ true → at + n ≤ length s
room s at n e t = leb-true _ _ (sym e ∙ t)

module _ (k : ℕ) (s : List ℕ) (at : ℕ) where
  pub num-taken : {v : ℕ} → fits_in s at k ≡ true → v ≡ whole_field k at s → taken v (at + k) ≡ num_at k s at
  unfolding num_at
  num-taken t q = rw (q, field-whole k at s (leb-true _ _ t), t)

  pub num-short : fits_in s at k ≡ false → refused Truncated ≡ num_at k s at
  unfolding num_at
  num-short t = rw t

  num-cases : (b : Bool) → fits_in s at k ≡ b → {v next : ℕ} → pick b (taken (field k at s) (at + k)) (refused Truncated) ≡ taken v next → next ≤ length s
  num-cases true t {v} {next} e = let n : at + k ≡ next = cc in omega (arith, leb-true (at + k) (length s) t)
  num-cases false t e = let z : ◌≡◌ {A = ℕ} 0 1 = cc in absurd (omega arith)

  -- the cursor behind a number lies in the body
  pub num-next : {v next : ℕ} → num_at k s at ≡ taken v next → next ≤ length s
  unfolding num_at
  num-next e = num-cases (fits_in s at k) refl e

-- ---- signed numbers and floats

signed-cases : (b : Bool) (n : ℕ) → sel b (pos n) (negsuc (2 ^ 64 - suc n)) ≡ pick b (pos n) (negsuc (0xffff_ffff_ffff_ffff - n))
signed-cases true n = refl
signed-cases false n = let e : 2 ^ 64 - suc n ≡ 0xffff_ffff_ffff_ffff - n = omega arith in rw e

-- the library's reading of 64 bits as a signed number
pub cast-signed : {z : ℤ} (n : ℕ) → SFits w64 z → z ≡ to_z w64 n → to_z w64 (of_z w64 z) ≡ signed n
unfolding signed
cast-signed {z} n f e = to_z-of_z w64 z f ∙ e ∙ signed-cases (ltb n (2 ^ 63)) n

module _ (n : ℕ) where
  pub signed-fits-high : 2 ^ 63 ≤ n → n < 2 ^ 64 → SFits w64 (signed n)
  unfolding signed
  signed-fits-high a b = rw (le-ltb n (2 ^ 63) a) (record { sfits = omega arith })

  -- NaN patterns of 64 and of 32 bits
  pub is-nan : 0x7ff0_0000_0000_0000 < n % 0x8000_0000_0000_0000 → nan_bits binary64 n ≡ true
  is-nan h = nan_bits_above binary64 n ∙ lt-ltb _ _ h

  pub no_nan : n % 0x8000_0000_0000_0000 ≤ 0x7ff0_0000_0000_0000 → nan_bits binary64 n ≡ false
  no_nan h = nan_bits_above binary64 n ∙ le-ltb _ _ h

  pub is-nan32 : 0x7f80_0000 < n % 0x8000_0000 → nan_bits binary32 n ≡ true
  is-nan32 h = nan_bits_above binary32 n ∙ lt-ltb _ _ h

  pub no-nan32 : n % 0x8000_0000 ≤ 0x7f80_0000 → nan_bits binary32 n ≡ false
  no-nan32 h = nan_bits_above binary32 n ∙ le-ltb _ _ h

-- ---- texts

positive : (n : ℕ) → (n ≡ 0 → ⊥) → 0 < n
positive zero h = absurd (h refl)
positive (suc n) h = omega arith

text-zero : (s : List ℕ) (at : ℕ) → fits_in s at 0 ≡ true → taken (record { start = at; len = 0; chars = 0 }) (at + 0) ≡ text_of s at 0
unfolding text_of
text-zero s at t = rw (t, empty-well, empty-chars)

module _ (s : List ℕ) (at n : ℕ) where
  pub text-good : {l : List ℕ} {m : ℕ} → fits_in s at n ≡ true → l ≡ take n (drop at s) → m ≡ pick (well_formed l) (chars l) 0 → (m ≡ 0 → ⊥)
      → taken (record { start = at; len = n; chars = m }) (at + n) ≡ text_of s at n
  unfolding text_of
  text-good {l} t e f g = let w = counted-well l f g in rw (t, ← e, w.0, w.1)

  pub text-bad : {l : List ℕ} {m : ℕ} → fits_in s at n ≡ true → (n ≡ 0 → ⊥) → l ≡ take n (drop at s) → m ≡ pick (well_formed l) (chars l) 0 → m ≡ 0
      → refused Text ≡ text_of s at n
  unfolding text_of
  text-bad {l} t h e f g =
      let z : length l ≡ n = rw e (simp (length-take, length-drop) (omega (arith, leb-true (at + n) (length s) t))) in
      rw (t, ← e, counted-ill l (positive (length l) (λ y. absurd (h (sym z ∙ y)))) f g)

  pub text-none : fits_in s at n ≡ true → n ≡ 0 → taken (record { start = at; len = n; chars = 0 }) (at + n) ≡ text_of s at n
  text-none t z = rw z (text-zero s at (rw z at t))

  pub text-short : fits_in s at n ≡ false → refused Truncated ≡ text_of s at n
  unfolding text_of
  text-short t = rw t

-- ---- "An op is judged after table and row id are read"

module _ (s : List ℕ) (at : ℕ) {op named : ℕ} (o : num_at 1 s at ≡ taken op named) where
  -- what refuses the table refuses the record, whatever the op
  pub table-first : {k : Refusal} → text_at 2 s named ≡ refused k → refused k ≡ record_at s at
  unfolding record_at
  table-first e = rw (o, e)

  -- and so does what refuses the row id
  pub row_first : {t : TextPlace} {next : ℕ} → text_at 2 s named ≡ taken t next → {k : Refusal} → num_at 8 s next ≡ refused k → refused k ≡ record_at s at
  unfolding record_at
  row_first e f = rw (o, e, f)

-- ---- the heading of a batch

end-good : {t n at : ℕ} (x : Answer (List MvccLogRecord)) → ends x ≡ taken tt at
    → Ok (record { commit_ts = t; records = n; end = at }) ≡ batch_end t n x
end-good {t} {n} {at} (taken l end) e = let q : at ≡ end = cc in rw q
end-good (refused k) e = let z : ◌≡◌ {A = ℕ} 0 1 = cc in absurd (omega arith)

end-bad : (t n : ℕ) {k : Refusal} (x : Answer (List MvccLogRecord)) → ends x ≡ refused k → Err k ≡ batch_end t n x
end-bad t n (taken l end) e = let z : ◌≡◌ {A = ℕ} 0 1 = cc in absurd (omega arith)
end-bad t n {k} (refused j) e = let q : k ≡ j = cc in rw q

module _ (s : List ℕ) where
  -- what the heading is refused for refuses the body
  pub batch-refused : {k : Refusal} → heading_refusal s ≡ Some k → Err k ≡ batch_of s
  unfolding batch_of
  batch-refused e = rw e

  long-cases : (b : Bool) (rest : Option Refusal) → leb 18 (length s) ≡ b → unless b Short rest ≡ None → 18 ≤ length s
  long-cases true rest t e = leb-true _ _ t
  long-cases false rest t e = let z : ◌≡◌ {A = ℕ} 0 1 = cc in absurd (omega arith)

  pub heading-long : heading_refusal s ≡ None → 18 ≤ length s
  unfolding heading_refusal
  heading-long e = long-cases (leb 18 (length s)) _ refl e

  -- a body with a good heading, by where its records end
  module _ {t n : ℕ} (h : heading_refusal s ≡ None) (e : t ≡ whole_field 8 8 s) (f : n ≡ whole_field 2 16 s) where
    time-read : t ≡ field 8 8 s
    time-read = e ∙ field-whole 8 8 s (omega (arith, heading-long h))

    pub records-read : n ≡ field 2 16 s
    records-read = f ∙ field-whole 2 16 s (omega (arith, heading-long h))

    pub batch-good : {at : ℕ} → ends (many (record_at s) n 18) ≡ taken tt at
        → Ok (record { commit_ts = t; records = n; end = at }) ≡ batch_of s
    unfolding batch_of records_at
    batch-good g = rw (h, ← records-read, ← time-read) (end-good (many (record_at s) n 18) g)

    pub batch-bad : {k : Refusal} → ends (many (record_at s) n 18) ≡ refused k → Err k ≡ batch_of s
    unfolding batch_of records_at
    batch-bad g = rw (h, ← records-read, ← time-read) (end-bad t n (many (record_at s) n 18) g)
