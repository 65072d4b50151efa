-- What each answer of the code says.
use Rattle.std.specs.Prelude.{ℕ, ◌+◌, Result, Ok, Err}
use Rattle.mvcc.specs.Answer.{Answer, taken, refused}
use Rattle.refusal.specs.declared.Refusal.{Refusal}
use Rattle.mvcc.specs.declared.TextPlace.{TextPlace}
use Rattle.mvcc.specs.declared.Value.{Value}
use Rattle.mvcc.specs.declared.Column.{Column}
use Rattle.mvcc.specs.declared.MvccLogRecord.{MvccLogRecord}
use Rattle.mvcc.specs.declared.RowID.{RowID}
use Rattle.mvcc.specs.declared.VersionPayload.{VersionPayload}
use Rattle.mvcc.specs.declared.VersionPayload.TheVariants as version
use Rattle.mvcc.specs.declared.DecodeReport.{DecodeReport}

-- a `Field`
abbrev pub field_answer : {A : Type 0} → Result (A × ℕ) Refusal → Answer A
field_answer (Ok x) = taken x.0 x.1
field_answer (Err k) = refused k

abbrev pub num_answer : Result (ℕ × ℕ) Refusal → Answer ℕ
num_answer r = field_answer r

abbrev pub text_answer : Result (TextPlace × ℕ) Refusal → Answer TextPlace
text_answer r = field_answer r

abbrev pub value_answer : Result (Value × ℕ) Refusal → Answer Value
value_answer r = field_answer r

abbrev pub column_answer : Result (Column × ℕ) Refusal → Answer Column
column_answer r = field_answer r

abbrev pub record_answer : Result (MvccLogRecord × ℕ) Refusal → Answer MvccLogRecord
record_answer r = field_answer r

-- an op with its row
abbrev pub row_answer : Result ((ℕ × RowID) × ℕ) Refusal → Answer (ℕ × RowID)
row_answer r = field_answer r

abbrev pub payload_answer : Result (VersionPayload × ℕ) (Refusal × ℕ) → Answer VersionPayload
payload_answer (Ok x) = taken x.0 x.1
payload_answer (Err e) = refused e.0

-- ---- items, "a record .. a column"

abbrev pub items_of : VersionPayload → ℕ
items_of version.Tombstone = 1
items_of (version.Present count first) = count + 1

-- those of a record that was read, or was begun
abbrev pub items_in : Result (VersionPayload × ℕ) (Refusal × ℕ) → ℕ
items_in (Ok x) = items_of x.0
items_in (Err e) = e.1

-- a body that is refused when n items are read
abbrev pub refused_batch : Refusal → ℕ → DecodeReport
refused_batch k n = record { answer = Err k; items = n }
