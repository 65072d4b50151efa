-- What decoding refuses behind a fine heading: 17 to 19 alone. Assumes nothing.
use mathlib.Core.Path.{◌≡◌, refl, ap}
use mathlib.Core.Bool.{Bool, true, false}
use mathlib.Core.List.{List}
use Prim.Native.Nat.{ℕ, zero, suc, ◌≤◌, ◌*◌}
use native.Mathlib.Omega.{arith}
use lib.Dec.{eqb}
use lib.ListN.{take, drop}
use Rattle.std.specs.Prelude.{Option, None, Some}
use Rattle.le.specs.Choice.{pick}
use Rattle.le.specs.Le.{field}
use Rattle.text.specs.Utf8.{well_formed}
use Rattle.refusal.specs.Refusal.{number, number_of}
use Rattle.refusal.specs.declared.Refusal.{Refusal}
use Rattle.mvcc.specs.Answer.{Answer, taken, refused, then, many}
use Rattle.mvcc.specs.Decode.{fits_in, num_at, text_of, text_at, integer_at, real_at, text_value_at, bool_at, vector_at, tagged_at, value_at, column_at, present_at, judged_at, record_at, records_at, batch_end, batch_of}
use Rattle.mvcc.specs.Seen.{refusal_in, decode_refusal, refusal_of, heading_refusal}
use Rattle.mvcc.specs.declared.RowID.{RowID}
use Rattle.mvcc.specs.declared.MvccLogRecord.{MvccLogRecord}

abbrev Late : {A : Type 0} → Answer A → Type 0
Late (taken a next) = Unit {0}
Late (refused r) = 17 ≤ number r

then-late : {A B : Type 0} (x : Answer A) (f : A → ℕ → Answer B) → Late x → ((a : A) (next : ℕ) → Late (f a next)) → Late (then x f)
then-late (taken a next) f p q = q a next
then-late (refused r) f p q = p

pick-late : {A : Type 0} (b : Bool) (x y : Answer A) → Late x → Late y → Late (pick b x y)
pick-late true x y p q = p
pick-late false x y p q = q

many-late : {A : Type 0} (f : ℕ → Answer A) → ((at : ℕ) → Late (f at)) → (k at : ℕ) → Late (many f k at)
unfolding many
many-late f p zero at = tt
many-late f p (suc k) at = then-late (f at) _ (p at) (λ a next. then-late (many f k next) _ (many-late f p k next) (λ rest end. tt))

module _ (s : List ℕ) where
  num-late : (k at : ℕ) → Late (num_at k s at)
  unfolding num_at
  num-late k at = pick-late (fits_in s at k) _ _ tt (omega arith)

  text-of-late : (at n : ℕ) → Late (text_of s at n)
  unfolding text_of
  text-of-late at n = pick-late (fits_in s at n) _ _ (pick-late (well_formed (take n (drop at s))) _ _ tt (omega arith)) (omega arith)

  text-late : (k at : ℕ) → Late (text_at k s at)
  unfolding text_at
  text-late k at = then-late (num_at k s at) _ (num-late k at) (λ n next. text-of-late next n)

  tagged-late : (tag at : ℕ) → Late (tagged_at s tag at)
  unfolding tagged_at integer_at real_at text_value_at bool_at vector_at
  tagged-late tag at =
      pick-late (eqb tag 0) _ _ tt
      (pick-late (eqb tag 1) _ _ (then-late (num_at 8 s at) _ (num-late 8 at) (λ n next. tt))
      (pick-late (eqb tag 2) _ _ (then-late (num_at 8 s at) _ (num-late 8 at) (λ n next. tt))
      (pick-late (eqb tag 3) _ _ (then-late (text_at 4 s at) _ (text-late 4 at) (λ n next. tt))
      (pick-late (eqb tag 4) _ _ (then-late (num_at 1 s at) _ (num-late 1 at) (λ n next. tt))
      (pick-late (eqb tag 5) _ _ (then-late (num_at 4 s at) _ (num-late 4 at) (λ n start. pick-late (fits_in s start (n * 4)) _ _ tt (omega arith))) (omega arith))))))

  value-late : (at : ℕ) → Late (value_at s at)
  unfolding value_at
  value-late at = then-late (num_at 1 s at) _ (num-late 1 at) (λ tag next. tagged-late tag next)

  column-late : (at : ℕ) → Late (column_at s at)
  unfolding column_at
  column-late at = then-late (text_at 2 s at) _ (text-late 2 at) (λ n next. then-late (value_at s next) _ (value-late next) (λ v end. tt))

  judged-late : (op : ℕ) (r : RowID) (at : ℕ) → Late (judged_at s op r at)
  unfolding judged_at present_at
  judged-late op r at =
      pick-late (eqb op 0) _ _ tt
      (pick-late (eqb op 1) _ _
      (then-late (num_at 2 s at) _ (num-late 2 at) (λ count first. then-late (many (column_at s) count first) _ (many-late (column_at s) column-late count first) (λ columns end. tt)))
      (omega arith))

  record-late : (at : ℕ) → Late (record_at s at)
  unfolding record_at
  record-late at =
      then-late (num_at 1 s at) _ (num-late 1 at) (λ op named.
      then-late (text_at 2 s named) _ (text-late 2 named) (λ t next.
      then-late (num_at 8 s next) _ (num-late 8 next) (λ n rest. judged-late op _ rest)))

  records-late : Late (records_at s)
  unfolding records_at
  records-late = many-late (record_at s) record-late (field 2 16 s) 18

late_by : (t n : ℕ) (x : Answer (List MvccLogRecord)) → Late x → (r : Refusal) → refusal_in (batch_end t n x) ≡ Some r → 17 ≤ number r
late_by t n (taken l end) p r e = let z : ◌≡◌ {A = ℕ} 0 1 = cc in absurd (omega arith)
late_by t n (refused q) p r e = let z : number q ≡ number r = ap number_of e in omega arith

pub decoding-late : (s : List ℕ) → heading_refusal s ≡ None → (r : Refusal) → decode_refusal s ≡ Some r → 17 ≤ number r
unfolding decode_refusal batch_of
decoding-late s h r e = late_by (field 8 8 s) (field 2 16 s) (records_at s) (records-late s) r (rw h at e)

-- so its number is none of the heading's
late-number : (v : Option Refusal) → ((r : Refusal) → v ≡ Some r → 17 ≤ number r) → (k : ℕ) → 1 ≤ k → k ≤ 16 → number_of v ≡ k → ⊥
late-number None p k a b e = omega arith
late-number (Some r) p k a b e = omega (arith, p r refl)

pub decoding-number : (s : List ℕ) → heading_refusal s ≡ None → (k : ℕ) → 1 ≤ k → k ≤ 16 → refusal_of s ≡ k → ⊥
unfolding refusal_of
decoding-number s h = late-number (decode_refusal s) (decoding-late s h)
