-- Document 02, P14: "how many items it read: a record counts after its row id if a tombstone, after its column count if present; a column
-- after its value". Of refused bodies what was read before the refusal counts.
use Rattle.std.specs.Prelude.{List, [], ◌∷◌, ℕ, zero, suc, ◌+◌, ◌-◌, ◌/◌, ltb, eqb, length}
use Rattle.le.specs.Choice.{pick}
use Rattle.le.specs.Le.{field}
use Rattle.refusal.specs.Refusal.{accepts}
use Rattle.mvcc.specs.Answer.{Answer, taken, refused}
use Rattle.mvcc.specs.Decode.{num_at, text_at, column_at, record_at, heading_refusal, batch_of}
use Rattle.mvcc.specs.Batch.{heading_size, Rec, tombstone, present}
use Rattle.mvcc.specs.declared.DecodeReport.{DecodeReport}

-- what counts behind a field; nothing does where the field is refused
abbrev pub if_taken : {A : Type 0} → Answer A → (A → ℕ → ℕ) → ℕ
if_taken (taken a next) f = f a next
if_taken (refused k) f = 0

-- the items of k things, one after the other, where one thing at a cursor has those of n; one that is refused is the last
unfoldable pub many_items : {A : Type 0} → (ℕ → Answer A) → (ℕ → ℕ) → ℕ → ℕ → ℕ
many_items f n zero at = 0
many_items f n (suc k) at = n at + if_taken (f at) (λ a next. many_items f n k next)

-- "a column after its value"
unfoldable pub column_items : List ℕ → ℕ → ℕ
column_items s at = if_taken (column_at s at) (λ c end. 1)

-- "after its column count if present"; its columns follow
unfoldable pub present_items : List ℕ → ℕ → ℕ
present_items s at = if_taken (num_at 2 s at) (λ count first. 1 + many_items (column_at s) (column_items s) count first)

-- "after its row id if a tombstone"; an unknown op is no record
unfoldable pub judged_items : List ℕ → ℕ → ℕ → ℕ
judged_items s op at = pick (eqb op 0) 1 (pick (eqb op 1) (present_items s at) 0)

-- op, table and row id come first
unfoldable pub record_items : List ℕ → ℕ → ℕ
record_items s at =
    if_taken (num_at 1 s at) (λ op named.
    if_taken (text_at 2 s named) (λ t next.
    if_taken (num_at 8 s next) (λ n rest.
    judged_items s op rest)))

-- the items of a body; behind a heading that is refused nothing is read
unfoldable pub batch_items : List ℕ → ℕ
batch_items s = pick (accepts (heading_refusal s)) (many_items (record_at s) (record_items s) (field 2 16 s) heading_size) 0

-- "The decoding report shall include how many items it read"
abbrev pub report_of : List ℕ → DecodeReport
report_of s = record { answer = batch_of s; items = batch_items s }

-- ---- of plain records: each record is an item, and so is each of its columns

abbrev pub row_items : Rec → ℕ
row_items (tombstone t row) = 1
row_items (present t row cs) = 1 + length cs

unfoldable pub rows_items : List Rec → ℕ
rows_items [] = 0
rows_items (r ∷ rs) = row_items r + rows_items rs

-- ---- how many there can be

-- in n bytes of records: a tombstone has 11 bytes or more, a present record 13, a column 3, and a column needs a present record
abbrev pub most_items : ℕ → ℕ
most_items n = pick (ltb n 11) 0 (pick (ltb n 13) 1 (1 + (n - 13) / 3))

-- "no 4,096-byte body gives more than 1,356"
abbrev pub body_items : ℕ
body_items = 1356
