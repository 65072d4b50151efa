-- A record is read in two parts, op with row and then what follows, and its items are counted along. Assumes nothing.
use mathlib.Core.Path.{◌≡◌, refl, sym, ap, ◌∙◌}
use mathlib.Core.Bool.{Bool, true, false}
use mathlib.Core.List.{List}
use Prim.Native.Nat.{ℕ, ◌+◌, ◌≤◌}
use native.Mathlib.Omega.{arith}
use lib.Dec.{eqb}
use lib.ListN.{length}
use Rattle.std.specs.Prelude.{None, Some, Result, Ok}
use Rattle.le.specs.Choice.{pick}
use Rattle.le.specs.Le.{whole_field}
use Rattle.refusal.specs.declared.Refusal.{Refusal}
use Rattle.refusal.specs.declared.Refusal.TheVariants.{Tag}
use Rattle.mvcc.specs.Answer.{Answer, taken, refused, then, many}
use Rattle.mvcc.specs.Decode.{num_at, text_at, signed, column_at, present_at, judged_at, record_at, heading_refusal, batch_of}
use Rattle.mvcc.specs.Batch.{body_size}
use Rattle.mvcc.specs.Fields.{refused_batch}
use Rattle.mvcc.specs.Items.{if_taken, many_items, column_items, present_items, judged_items, record_items, batch_items, report_of, body_items}
use Rattle.mvcc.specs.Parts.{row_at, columns_at, payload_at}
use Rattle.mvcc.specs.declared.TextPlace.{TextPlace}
use Rattle.mvcc.specs.declared.Column.{Column}
use Rattle.mvcc.specs.declared.RowID.{RowID}
use Rattle.mvcc.specs.declared.VersionPayload.{VersionPayload}
use Rattle.mvcc.specs.declared.VersionPayload.TheVariants as payload
use Rattle.mvcc.specs.declared.MvccLogRecord.{MvccLogRecord}
use Rattle.mvcc.specs.declared.DecodeReport.{DecodeReport}
use Rattle.mvcc.proofs.Laws.{ends, then-ends, records-read, batch-refused, batch-good, batch-bad}
use Rattle.mvcc.proofs.Items.{items-4098}
use Rattle.mvcc.specs.declared.MvccCommitBatch.{MvccCommitBatch}

-- ---- one behind the other

then-then : {A B C : Type 0} (x : Answer A) (f : A → ℕ → Answer B) (g : B → ℕ → Answer C) → then (then x f) g ≡ then x (λ a next. then (f a next) g)
then-then (taken a next) f g = refl
then-then (refused k) f g = refl

then_same : {A B : Type 0} (x : Answer A) {f g : A → ℕ → Answer B} → ((a : A) (next : ℕ) → f a next ≡ g a next) → then x f ≡ then x g
then_same (taken a next) h = h a next
then_same (refused k) h = refl

taken_then : {A B : Type 0} (x : Answer A) (f : A → ℕ → Answer B) (g : B → ℕ → ℕ) → if_taken (then x f) g ≡ if_taken x (λ a next. if_taken (f a next) g)
taken_then (taken a next) f g = refl
taken_then (refused k) f g = refl

taken-same : {A : Type 0} (x : Answer A) {f g : A → ℕ → ℕ} → ((a : A) (next : ℕ) → f a next ≡ g a next) → if_taken x f ≡ if_taken x g
taken-same (taken a next) h = h a next
taken-same (refused k) h = refl

-- ---- what follows

module _ (s : List ℕ) (at : ℕ) {n first : ℕ} (e : num_at 2 s at ≡ taken n first) where
  past : columns_at s at ≡ then (ends (many (column_at s) n first)) (λ u end. taken (payload.Present n first) end)
  unfolding columns_at
  past = rw e (then-ends (many (column_at s) n first) (λ end. taken (payload.Present n first) end))

  pub present-good : {next : ℕ} → ends (many (column_at s) n first) ≡ taken tt next → taken (payload.Present n first) next ≡ columns_at s at
  present-good f = rw (past, f)

  pub present-bad : {k : Refusal} → ends (many (column_at s) n first) ≡ refused k → refused k ≡ columns_at s at
  present-bad f = rw (past, f)

  -- its items where m of its columns were read
  pub present-items : {m : ℕ} → m ≡ many_items (column_at s) (column_items s) n first → m + 1 ≡ present_items s at
  unfolding present_items
  present-items f = rw (e, ← f) (omega arith)

-- ---- a record

module _ (s : List ℕ) where
  abbrev with : RowID → VersionPayload → ℕ → Answer MvccLogRecord
  with r p end = taken (record { row = r; payload = p }) end

  columns-by : (r : RowID) (count first : ℕ) (x : Answer (List Column))
      → then x (λ columns end. with r (payload.Present count first) end) ≡ then (then x (λ columns end. taken (payload.Present count first) end)) (with r)
  columns-by r count first (taken l end) = refl
  columns-by r count first (refused k) = refl

  present-by : (r : RowID) (at : ℕ) → present_at s r at ≡ then (columns_at s at) (with r)
  unfolding present_at columns_at
  present-by r at =
      then_same (num_at 2 s at) (λ count first. columns-by r count first (many (column_at s) count first))
      ∙ sym (then-then (num_at 2 s at) (λ count first. then (many (column_at s) count first) (λ columns end. taken (payload.Present count first) end)) (with r))

  judged-by : (a b : Bool) (r : RowID) (at : ℕ)
      → pick a (with r payload.Tombstone at) (pick b (present_at s r at) (refused Tag)) ≡ then (pick a (taken payload.Tombstone at) (pick b (columns_at s at) (refused Tag))) (with r)
  judged-by true b r at = refl
  judged-by false true r at = present-by r at
  judged-by false false r at = refl

  judged-parts : (op : ℕ) (r : RowID) (at : ℕ) → judged_at s op r at ≡ then (payload_at s op at) (with r)
  unfolding judged_at payload_at
  judged-parts op r at = judged-by (eqb op 0) (eqb op 1) r at

  abbrev row : ℕ → TextPlace → ℕ → ℕ → Answer (ℕ × RowID)
  row op t n rest = taken (op, record { table = t; rowid = signed n }) rest

  abbrev record_of : ℕ × RowID → ℕ → Answer MvccLogRecord
  record_of o rest = then (payload_at s o.0 rest) (with o.1)

  record-parts : (at : ℕ) → record_at s at ≡ then (row_at s at) record_of
  unfolding record_at row_at
  record-parts at =
      sym (then-then (num_at 1 s at) (λ op named. then (text_at 2 s named) (λ t next. then (num_at 8 s next) (row op t))) record_of
      ∙ then_same (num_at 1 s at) (λ op named.
      then-then (text_at 2 s named) (λ t next. then (num_at 8 s next) (row op t)) record_of
      ∙ then_same (text_at 2 s named) (λ t next.
      then-then (num_at 8 s next) (row op t) record_of
      ∙ then_same (num_at 8 s next) (λ n rest. sym (judged-parts op (record { table = t; rowid = signed n }) rest)))))

  abbrev items_of : ℕ × RowID → ℕ → ℕ
  items_of o rest = judged_items s o.0 rest

  items-parts : (at : ℕ) → record_items s at ≡ if_taken (row_at s at) items_of
  unfolding record_items row_at
  items-parts at =
      sym (taken_then (num_at 1 s at) (λ op named. then (text_at 2 s named) (λ t next. then (num_at 8 s next) (row op t))) items_of
      ∙ taken-same (num_at 1 s at) (λ op named.
      taken_then (text_at 2 s named) (λ t next. then (num_at 8 s next) (row op t)) items_of
      ∙ taken-same (text_at 2 s named) (λ t next. taken_then (num_at 8 s next) (row op t) items_of)))

  -- by what its parts came to
  module _ (at : ℕ) where
    pub row-bad : {k : Refusal} → row_at s at ≡ refused k → record_at s at ≡ refused k
    row-bad e = record-parts at ∙ rw e

    pub row-none : {k : Refusal} → row_at s at ≡ refused k → record_items s at ≡ 0
    row-none e = items-parts at ∙ rw e

    module _ {op rest : ℕ} {r : RowID} (e : row_at s at ≡ taken (op, r) rest) where
      pub payload-bad : {k : Refusal} → payload_at s op rest ≡ refused k → record_at s at ≡ refused k
      payload-bad f = record-parts at ∙ rw (e, f)

      pub payload-good : {p : VersionPayload} {next : ℕ} → payload_at s op rest ≡ taken p next → record_at s at ≡ taken (record { row = r; payload = p }) next
      payload-good f = record-parts at ∙ rw (e, f)

      pub payload-items : record_items s at ≡ judged_items s op rest
      payload-items = items-parts at ∙ rw e

-- ---- a body's report

abbrev report : Result MvccCommitBatch Refusal → ℕ → DecodeReport
report a n = record { answer = a; items = n }

same-report : {a b : Result MvccCommitBatch Refusal} {m n : ℕ} → a ≡ b → m ≡ n → report a m ≡ report b n
same-report e f = rw (e, f)

-- its answer alone
pub report-answer : (s : List ℕ) {r : DecodeReport} → r ≡ report_of s → r.answer ≡ batch_of s
report-answer s e = ap (λ (r : DecodeReport). r.answer) e

module _ (s : List ℕ) where
  -- what holds of every report
  pub reported : {r : DecodeReport} → r ≡ report_of s → (r ≡ report_of s) × (length s ≤ body_size → r.items ≤ body_items)
  reported e = (e, λ h. rw e (items-4098 s (omega (arith, h))))

  items-none : {k : Refusal} → heading_refusal s ≡ Some k → 0 ≡ batch_items s
  unfolding batch_items
  items-none e = rw e

  pub report-refused : {k : Refusal} → heading_refusal s ≡ Some k → refused_batch k 0 ≡ report_of s
  report-refused e = same-report (batch-refused s e) (items-none e)

  module _ {t n : ℕ} (h : heading_refusal s ≡ None) (e : t ≡ whole_field 8 8 s) (f : n ≡ whole_field 2 16 s) where
    items-read : {i : ℕ} → i ≡ many_items (record_at s) (record_items s) n 18 → i ≡ batch_items s
    unfolding batch_items
    items-read k = rw (h, ← records-read s h e f) k

    pub report-good : {at i : ℕ} → ends (many (record_at s) n 18) ≡ taken tt at → i ≡ many_items (record_at s) (record_items s) n 18
        → report (Ok (record { commit_ts = t; records = n; end = at })) i ≡ report_of s
    report-good g k = same-report (batch-good s h e f g) (items-read k)

    pub report-bad : {k : Refusal} {i : ℕ} → ends (many (record_at s) n 18) ≡ refused k → i ≡ many_items (record_at s) (record_items s) n 18
        → refused_batch k i ≡ report_of s
    report-bad g k = same-report (batch-bad s h e f g) (items-read k)
