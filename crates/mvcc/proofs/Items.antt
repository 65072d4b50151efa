-- How many items a body gives: the turns of the loops that count them, and the most there can be. Assumes nothing.
use mathlib.Core.Path.{◌≡◌, refl}
use mathlib.Core.Bool.{Bool, true, false, not}
use mathlib.Core.List.{List, ◌∷◌}
use mathlib.Core.Logic.{⊎_elim}
use Prim.Native.Nat.{ℕ, zero, suc, ◌+◌, ◌-◌, ◌*◌, ◌/◌, ◌≤◌, ◌<◌}
use native.Mathlib.Numerals.{sub-one}
use native.Mathlib.Omega.{arith}
use borrow.Author.Tests.{le-ltb, lt-ltb, leb-true}
use lib.Dec.{eqb}
use lib.ListN.{length, take, drop}
use Rattle.le.specs.Choice.{pick}
use Rattle.le.specs.Le.{field}
use Rattle.le.proofs.Tests.{le-or-lt}
use Rattle.text.specs.Utf8.{well_formed}
use Rattle.refusal.specs.Refusal.{accepts}
use Rattle.refusal.specs.declared.Refusal.{Refusal}
use Rattle.refusal.specs.declared.Refusal.TheVariants.{Truncated}
use Rattle.mvcc.specs.Answer.{Answer, taken, refused, then, many}
use Rattle.mvcc.specs.Decode.{fits_in, num_at, text_of, text_at, integer_at, real_at, text_value_at, bool_at, vector_at, tagged_at, value_at, column_at, present_at, judged_at, record_at, heading_refusal, signed, real_of}
use Rattle.mvcc.specs.Items.{if_taken, many_items, column_items, present_items, judged_items, record_items, batch_items, most_items, body_items}
use Rattle.mvcc.specs.declared.Value.{Value}
use Rattle.mvcc.specs.declared.Value.TheVariants as value
use Rattle.mvcc.specs.declared.Column.{Column}
use Rattle.mvcc.specs.declared.RowID.{RowID}
use Rattle.mvcc.specs.declared.MvccLogRecord.{MvccLogRecord}
use Rattle.mvcc.proofs.Sound.{When, then-when, pick-test}

-- ---- loops that count down

module _ {A : Type 0} (f : ℕ → Answer A) (n : ℕ → ℕ) where
  items-step : (left at : ℕ) → 0 < left → many_items f n left at ≡ n at + if_taken (f at) (λ a next. many_items f n (left - 1) next)
  unfolding many_items
  items-step zero at h = absurd (omega (arith, h))
  items-step (suc k) at h = rw sub-one

  -- a turn with one thing more, one with a refusal, the end
  pub items-on : (so left at : ℕ) {next z : ℕ} {a : A} → 0 < left → f at ≡ taken a next → so + many_items f n left at ≡ z
      → so + n at + many_items f n (left - 1) next ≡ z
  items-on so left at {next} h e i = let r = rw (items-step left at h, e) at i in omega (arith, r)

  pub items-off : (so left at : ℕ) {z : ℕ} {k : Refusal} → 0 < left → f at ≡ refused k → so + many_items f n left at ≡ z → so + n at ≡ z
  items-off so left at h e i = let r = rw (items-step left at h, e) at i in omega (arith, r)

  pub items-done : (so left at : ℕ) {z : ℕ} → left ≤ 0 → so + many_items f n left at ≡ z → so ≡ z
  unfolding many_items
  items-done so zero at h i = omega (arith, i)
  items-done so (suc k) at h i = absurd (omega (arith, h))

  -- what is counted so far is no more than all
  pub items-least : (so left at : ℕ) {z : ℕ} → 0 < left → so + many_items f n left at ≡ z → so + n at ≤ z
  items-least so left at h i = let r = rw (items-step left at h) at i in omega (arith, r)

-- those of columns, of which `so` were read
module _ (s : List ℕ) (so left at : ℕ) (some : 0 < left) {z : ℕ} (i : so + many_items (column_at s) (column_items s) left at ≡ z) where
  pub columns-on : {next : ℕ} {c : Column} → column_at s at ≡ taken c next → so + 1 + many_items (column_at s) (column_items s) (left - 1) next ≡ z
  unfolding column_items
  columns-on e =
      let k : column_items s at ≡ 1 = rw e in
      rw k at (items-on (column_at s) (column_items s) so left at some e i)

  pub columns-off : {k : Refusal} → column_at s at ≡ refused k → so ≡ z
  unfolding column_items
  columns-off e =
      let k : column_items s at ≡ 0 = rw e in
      omega (arith, rw k at (items-off (column_at s) (column_items s) so left at some e i))

-- ---- an answer and its items, side by side

module _ {B : Type 0} (W : Answer B → ℕ → Type 0) where
  -- what holds of a refusal without items, and behind every field that is taken, holds
  pub then-items : {A : Type 0} (x : Answer A) (f : A → ℕ → Answer B) (g : A → ℕ → ℕ) → ((k : Refusal) → W (refused k) 0)
      → ((a : A) (next : ℕ) → x ≡ taken a next → W (f a next) (g a next)) → W (then x f) (if_taken x g)
  then-items (taken a next) f g r h = h a next refl
  then-items (refused k) f g r h = r k

  pub pick-items : (b : Bool) {x y : Answer B} (m n : ℕ) → (b ≡ true → W x m) → (b ≡ false → W y n) → W (pick b x y) (pick b m n)
  pick-items true m n f g = f refl
  pick-items false m n f g = g refl

-- ---- how far a field reaches

-- what holds where a thing was taken
reached : {A : Type 0} (P : A → ℕ → Type 0) {x : Answer A} {a : A} {next : ℕ} → x ≡ taken a next → When P x → P a next
reached P e h = rw e at h

-- n items between two cursors: a tombstone has 11 bytes, and else there is a present record of 13 with columns of 3, or more records
data Weighs (at end n : ℕ) : Type 0 where
  nothing : n ≡ 0 → Weighs at end n
  one : n ≡ 1 → at + 11 ≤ end → Weighs at end n
  several : at + 10 + 3 * n ≤ end → Weighs at end n

and_then : {at next end m n : ℕ} → at ≤ next → next ≤ end → Weighs at next m → Weighs next end n → Weighs at end (m + n)
and_then a b (nothing e) (nothing f) = nothing (omega arith)
and_then a b (nothing e) (one f g) = one (omega arith) (omega arith)
and_then a b (nothing e) (several g) = several (omega arith)
and_then a b (one e h) (nothing f) = one (omega arith) (omega arith)
and_then a b (one e h) (one f g) = several (omega arith)
and_then a b (one e h) (several g) = several (omega arith)
and_then a b (several h) (nothing f) = several (omega arith)
and_then a b (several h) (one f g) = several (omega arith)
and_then a b (several h) (several g) = several (omega arith)

module _ (s : List ℕ) where
  -- m bytes or more behind `at`, and no further than the body
  pub record Reach (m at next : ℕ) : Type 0 where
    pub least : at + m ≤ next
    pub within : next ≤ length s

  abbrev pub To : {A : Type 0} → ℕ → ℕ → A → ℕ → Type 0
  To m at a next = Reach m at next

  pub num-reach : (k at : ℕ) → When (To k at) (num_at k s at)
  unfolding num_at
  num-reach k at =
      pick-test (When (To k at)) (fits_in s at k) (λ e. record { least = omega arith; within = leb-true _ _ e }) (λ e. tt)

  pub text-reach : (k at : ℕ) → When (To k at) (text_at k s at)
  unfolding text_at text_of
  text-reach k at =
      then-when (To k at) (To k at) (num_at k s at) (λ n next. text_of s next n) (num-reach k at) (λ n next e p.
      pick-test (When (To k at)) (fits_in s next n)
      (λ r.
      pick-test (When (To k at)) (well_formed (take n (drop next s)))
      (λ w. record { least = omega (arith, p.least); within = leb-true _ _ r }) (λ w. tt))
      (λ r. tt))

  -- one field alone, made into something else
  alone : {A B : Type 0} (m at : ℕ) (g : A → B) (x : Answer A) → When (To m at) x → When (To 0 at) (then x (λ a next. taken (g a) next))
  alone m at g x h =
      then-when (To m at) (To 0 at) x (λ a next. taken (g a) next) h (λ a next e p. record { least = omega (arith, p.least); within = p.within })

  vector-reach : (at : ℕ) → When (To 0 at) (vector_at s at)
  unfolding vector_at
  vector-reach at =
      then-when (To 4 at) (To 0 at) (num_at 4 s at)
      (λ n start. pick (fits_in s start (n * 4)) (taken (value.Vector start n) (start + n * 4)) (refused Truncated)) (num-reach 4 at)
      (λ n start e p.
      pick-test (When (To 0 at)) (fits_in s start (n * 4)) (λ r. record { least = omega (arith, p.least); within = leb-true _ _ r }) (λ r. tt))

  -- a value behind its tag
  abbrev Valued : ℕ → Answer Value → Type 0
  Valued at = When (To 0 at)

  tagged-reach : (tag at : ℕ) → at ≤ length s → Valued at (tagged_at s tag at)
  unfolding tagged_at integer_at real_at text_value_at bool_at
  tagged-reach tag at h =
      pick-test (Valued at) (eqb tag 0) (λ e. record { least = omega arith; within = h }) (λ e.
      pick-test (Valued at) (eqb tag 1) (λ e. alone 8 at (λ (n : ℕ). value.Integer (signed n)) (num_at 8 s at) (num-reach 8 at)) (λ e.
      pick-test (Valued at) (eqb tag 2) (λ e. alone 8 at real_of (num_at 8 s at) (num-reach 8 at)) (λ e.
      pick-test (Valued at) (eqb tag 3) (λ e. alone 4 at value.Text (text_at 4 s at) (text-reach 4 at)) (λ e.
      pick-test (Valued at) (eqb tag 4) (λ e. alone 1 at (λ (n : ℕ). value.Bool (not (eqb n 0))) (num_at 1 s at) (num-reach 1 at)) (λ e.
      pick-test (Valued at) (eqb tag 5) (λ e. vector-reach at) (λ e. tt))))))

  further : {A : Type 0} (next m at : ℕ) → at + m ≤ next → (x : Answer A) → When (To 0 next) x → When (To m at) x
  further next m at h (taken a end) p = record { least = omega (arith, h, p.least); within = p.within }
  further next m at h (refused k) p = tt

  value-reach : (at : ℕ) → When (To 1 at) (value_at s at)
  unfolding value_at
  value-reach at =
      then-when (To 1 at) (To 1 at) (num_at 1 s at) (λ tag next. tagged_at s tag next) (num-reach 1 at)
      (λ tag next e p. further next 1 at p.least (tagged_at s tag next) (tagged-reach tag next p.within))

  -- "3 a column"
  pub column-reach : (at : ℕ) → When (To 3 at) (column_at s at)
  unfolding column_at
  column-reach at =
      then-when (To 2 at) (To 3 at) (text_at 2 s at) _ (text-reach 2 at) (λ n next e p.
      then-when (To 1 next) (To 3 at) (value_at s next) _ (value-reach next) (λ v end g q.
      record { least = omega (arith, p.least, q.least); within = q.within }))

  -- ---- columns

  -- n items of columns from `at` on, up to the next cursor, or the body's end where one is refused
  abbrev Columns : ℕ → Answer (List Column) → ℕ → Type 0
  Columns at (taken l end) n = Reach (3 * n) at end
  Columns at (refused k) n = at + 3 * n ≤ length s

  columns-behind : (at next n : ℕ) → at + 3 ≤ next → (c : Column) (x : Answer (List Column)) → Columns next x n
      → Columns at (then x (λ rest end. taken (c ∷ rest) end)) (1 + n)
  columns-behind at next n h c (taken l end) p = record { least = omega (arith, h, p.least); within = p.within }
  columns-behind at next n h c (refused k) p = omega (arith, h, p)

  column-then : (at k : ℕ) → at ≤ length s → (x : Answer Column) → When (To 3 at) x → ((next : ℕ) → next ≤ length s
      → Columns next (many (column_at s) k next) (many_items (column_at s) (column_items s) k next))
      → Columns at (then x (λ c next. then (many (column_at s) k next) (λ rest end. taken (c ∷ rest) end)))
      (if_taken x (λ c end. 1) + if_taken x (λ c next. many_items (column_at s) (column_items s) k next))
  column-then at k r (taken c next) p h = columns-behind at next _ p.least c (many (column_at s) k next) (h next p.within)
  column-then at k r (refused e) p h = omega (arith, r)

  columns-room : (k at : ℕ) → at ≤ length s → Columns at (many (column_at s) k at) (many_items (column_at s) (column_items s) k at)
  unfolding many many_items column_items
  columns-room zero at h = record { least = omega arith; within = h }
  columns-room (suc k) at h = column-then at k h (column_at s at) (column-reach at) (columns-room k)

  -- ---- records

  abbrev Weight : ℕ → {A : Type 0} → Answer A → ℕ → Type 0
  Weight at (taken a next) n = Reach 0 at next × Weighs at next n
  Weight at (refused k) n = Weighs at (length s) n

  weight-reach : {A : Type 0} (at n : ℕ) (x : Answer A) → Weight at x n → When (To 0 at) x
  weight-reach at n (taken a next) p = p.0
  weight-reach at n (refused k) p = tt

  present-weight : (start at n : ℕ) → start + 13 ≤ at → (r : MvccLogRecord) (x : Answer (List Column)) → Columns at x n
      → Weight start (then x (λ columns end. taken r end)) (1 + n)
  present-weight start at n h r (taken l end) p =
      (record { least = omega (arith, h, p.least); within = p.within }, several (omega (arith, h, p.least)))
  present-weight start at n h r (refused k) p = several (omega (arith, h, p))

  judged-weight : (start op : ℕ) (r : RowID) (at : ℕ) → start + 11 ≤ at → at ≤ length s → Weight start (judged_at s op r at) (judged_items s op at)
  unfolding judged_at judged_items present_at present_items
  judged-weight start op r at h w =
      pick-items (Weight start) (eqb op 0) 1 (pick (eqb op 1) (present_items s at) 0)
      (λ e. (record { least = omega (arith, h); within = w }, one refl (omega (arith, h))))
      (λ e.
      pick-items (Weight start) (eqb op 1) (present_items s at) 0
      (λ e.
      then-items (Weight start) (num_at 2 s at) _ _ (λ k. nothing refl) (λ count first g.
      let p : Reach 2 at first = reached (To 2 at) g (num-reach 2 at) in
      present-weight start first _ (omega (arith, h, p.least)) _ (many (column_at s) count first) (columns-room count first p.within)))
      (λ e. nothing refl))

  record-weight : (at : ℕ) → Weight at (record_at s at) (record_items s at)
  unfolding record_at record_items
  record-weight at =
      then-items (Weight at) (num_at 1 s at) _ _ (λ k. nothing refl) (λ op named e.
      let p : Reach 1 at named = reached (To 1 at) e (num-reach 1 at) in
      then-items (Weight at) (text_at 2 s named) _ _ (λ k. nothing refl) (λ t next f.
      let q : Reach 2 named next = reached (To 2 named) f (text-reach 2 named) in
      then-items (Weight at) (num_at 8 s next) _ _ (λ k. nothing refl) (λ n rest g.
      let r : Reach 8 next rest = reached (To 8 next) g (num-reach 8 next) in
      judged-weight at op _ rest (omega (arith, p.least, q.least, r.least)) r.within)))

  pub record-reach : (at : ℕ) → When (To 0 at) (record_at s at)
  record-reach at = weight-reach at (record_items s at) (record_at s at) (record-weight at)

  record-then : (at k : ℕ) (x : Answer MvccLogRecord) (n : ℕ) → Weight at x n
      → ((next : ℕ) → Weighs next (length s) (many_items (record_at s) (record_items s) k next))
      → Weighs at (length s) (n + if_taken x (λ r next. many_items (record_at s) (record_items s) k next))
  record-then at k (taken r next) n p h = let a : at ≤ next = omega (arith, p.0.least) in and_then a p.0.within p.1 (h next)
  record-then at k (refused e) n p h = let z : n + 0 ≡ n = omega arith in rw z p

  records-weight : (k at : ℕ) → Weighs at (length s) (many_items (record_at s) (record_items s) k at)
  unfolding many_items
  records-weight zero at = nothing refl
  records-weight (suc k) at = record-then at k (record_at s at) (record_items s at) (record-weight at) (records-weight k)

-- ---- the most there can be

-- fewer than the body has bytes
weighs-fit : (at end n : ℕ) → Weighs at end n → n ≤ end
weighs-fit at end n (nothing e) = omega arith
weighs-fit at end n (one e h) = omega arith
weighs-fit at end n (several h) = omega arith

pub items-fit : (s : List ℕ) (k at : ℕ) → many_items (record_at s) (record_items s) k at ≤ length s
items-fit s k at = weighs-fit at (length s) (many_items (record_at s) (record_items s) k at) (records-weight s k at)

-- so are those of the records that a loop has read, and the one that it is at
pub items-room : (s : List ℕ) (k first so left at : ℕ) → 0 < left
    → so + many_items (record_at s) (record_items s) left at ≡ many_items (record_at s) (record_items s) k first → so + record_items s at ≤ length s
items-room s k first so left at h i = omega (arith, items-least (record_at s) (record_items s) so left at h i, items-fit s k first)

pub most-by : (P : ℕ → Type 0) (room : ℕ) → (room < 11 → P 0) → (room < 13 → 11 ≤ room → P 1) → (13 ≤ room → P (1 + (room - 13) / 3)) → P (most_items room)
most-by P room a b c =
    ⊎_elim
    (λ (h : 11 ≤ room).
    ⊎_elim
    (λ (g : 13 ≤ room). rw (le-ltb room 11 h, le-ltb room 13 g) (c g))
    (λ (g : room < 13). rw (le-ltb room 11 h, lt-ltb room 13 g) (b g h))
    (le-or-lt 13 room))
    (λ (h : room < 11). rw (lt-ltb room 11 h) (a h))
    (le-or-lt 11 room)

weighs-most : (len n : ℕ) → Weighs 18 len n → n ≤ most_items (len - 18)
weighs-most len n (nothing e) = omega arith
weighs-most len n (one e h) = most-by (λ (m : ℕ). n ≤ m) (len - 18) (λ g. omega arith) (λ g k. omega arith) (λ g. omega arith)
weighs-most len n (several h) = most-by (λ (m : ℕ). n ≤ m) (len - 18) (λ g. omega arith) (λ g k. omega arith) (λ g. omega arith)

picked-most : (b : Bool) (n most : ℕ) → n ≤ most → pick b n 0 ≤ most
picked-most true n most h = h
picked-most false n most h = omega arith

-- no body gives more than its length allows
pub items-most : (s : List ℕ) → batch_items s ≤ most_items (length s - 18)
unfolding batch_items
items-most s =
    picked-most (accepts (heading_refusal s)) (many_items (record_at s) (record_items s) (field 2 16 s) 18) (most_items (length s - 18))
    (weighs-most (length s) (many_items (record_at s) (record_items s) (field 2 16 s) 18) (records-weight s (field 2 16 s) 18))

-- "no 4,096-byte body gives more than 1,356": nor does one of two bytes more
most-body : (room : ℕ) → room ≤ 4080 → most_items room ≤ body_items
most-body room h = most-by (λ (m : ℕ). m ≤ body_items) room (λ g. omega arith) (λ g k. omega arith) (λ g. omega arith)

pub items-4098 : (s : List ℕ) → length s ≤ 4098 → batch_items s ≤ body_items
items-4098 s h = omega (arith, items-most s, most-body (length s - 18) (omega (arith, h)))
