-- What the calls of batches answer, in numbers: 0 or document 01's number of the refusal, beside which all else is 0.
use Rattle.std.specs.Prelude.{Bool, ℕ, ◌%◌, eqb, ℤ, pos, Option, Some, None, Result, Ok, Err}
use Rattle.std.specs.Float.{binary64}
use Rattle.std.specs.Float.Ieee.{to_bits}
use Rattle.le.specs.Choice.{pick}
use Rattle.refusal.specs.Refusal.{number}
use Rattle.refusal.specs.declared.Refusal.{Refusal}
use Rattle.mvcc.specs.Answer.{Answer, taken, refused}
use Rattle.mvcc.specs.declared.TextPlace.{TextPlace}
use Rattle.mvcc.specs.declared.Value.{Value}
use Rattle.mvcc.specs.declared.Value.TheVariants as value
use Rattle.mvcc.specs.declared.Column.{Column}
use Rattle.mvcc.specs.declared.VersionPayload.{VersionPayload}
use Rattle.mvcc.specs.declared.VersionPayload.TheVariants as payload
use Rattle.mvcc.specs.declared.MvccLogRecord.{MvccLogRecord}
use Rattle.mvcc.specs.declared.DecodeReport.{DecodeReport}
use Rattle.mvcc.specs.declared.MvccCommitBatch.{MvccCommitBatch}
use Rattle.mvcc_build.specs.declared.BatchBuilder.{BatchBuilder}
use Rattle.mvcc_build.specs.declared.OpenRecord.{OpenRecord}
use Rattle.mvcc_build.specs.Build.{Added, taking}
use Rattle.capi.specs.declared.batch.BatchNumbers.{BatchNumbers}
use Rattle.capi.specs.declared.batch.RecordNumbers.{RecordNumbers}
use Rattle.capi.specs.declared.batch.ValueNumbers.{ValueNumbers}
use Rattle.capi.specs.declared.batch.ValueAnswer.{ValueAnswer}
use Rattle.capi.specs.declared.batch.ColumnNumbers.{ColumnNumbers}
use Rattle.capi.specs.declared.batch.ElementNumbers.{ElementNumbers}
use Rattle.capi.specs.declared.batch.Building.{Building}

-- ---- a batch and its records

abbrev pub no_batch : Refusal → ℕ → BatchNumbers
no_batch r n = record { refusal = number r; commit_ts = 0; records = 0; end = 0; items = n }

-- an answer, when so many items are read
abbrev pub answer_numbers : Result MvccCommitBatch Refusal → ℕ → BatchNumbers
answer_numbers (Ok b) n = record { refusal = 0; commit_ts = b.commit_ts; records = b.records; end = b.end; items = n }
answer_numbers (Err r) n = no_batch r n

-- what decoding a body reports, "refused bodies included up to the refusal"
abbrev pub batch_numbers : DecodeReport → BatchNumbers
batch_numbers d = answer_numbers d.answer d.items

-- "op (1: 0 tombstone, 1 present)"
abbrev pub op_number : VersionPayload → ℕ
op_number payload.Tombstone = 0
op_number (payload.Present count first) = 1

-- how many columns a record has; a tombstone none
abbrev pub count_number : VersionPayload → ℕ
count_number payload.Tombstone = 0
count_number (payload.Present count first) = count

-- where the first of them stands
abbrev pub first_number : VersionPayload → ℕ
first_number payload.Tombstone = 0
first_number (payload.Present count first) = first

abbrev pub no_place : TextPlace
no_place = record { start = 0; len = 0; chars = 0 }

-- what reading a record at a cursor answers
abbrev pub record_numbers : Answer MvccLogRecord → RecordNumbers
record_numbers (taken r at) =
    record {
      refusal = 0;
      op = op_number r.payload;
      next = at;
      table = r.row.table;
      rowid = r.row.rowid;
      count = count_number r.payload;
      first = first_number r.payload;
    }
record_numbers (refused k) =
    record { refusal = number k; op = 0; next = 0; table = no_place; rowid = pos 0; count = 0; first = 0 }

-- ---- values and columns

abbrev pub value_of : ℕ → ℕ → ℤ → ℕ → TextPlace → ValueNumbers
value_of t f n b p = record { tag = t; flag = f; integer = n; bits = b; place = p }

abbrev pub no_value : ValueNumbers
no_value = value_of 0 0 (pos 0) 0 no_place

-- 1 is true
abbrev pub flag_number : Bool → ℕ
flag_number b = pick b 1 0

-- "Value tag: 0 null; 1 integer; 2 real; 3 text; 4 bool; 5 vector"; a real is its bits, a vector's place has its count
abbrev pub value_numbers : Value → ValueNumbers
value_numbers value.Null = no_value
value_numbers (value.Integer n) = value_of 1 0 n 0 no_place
value_numbers (value.Real x) = value_of 2 0 (pos 0) (to_bits binary64 x) no_place
value_numbers (value.Nan b) = value_of 2 0 (pos 0) b no_place
value_numbers (value.Text p) = value_of 3 0 (pos 0) 0 p
value_numbers (value.Bool b) = value_of 4 (flag_number b) (pos 0) 0 no_place
value_numbers (value.Vector start count) = value_of 5 0 (pos 0) 0 (record { start = start; len = count; chars = 0 })

-- what reading a value at a cursor answers
abbrev pub value_reply : Answer Value → ValueAnswer
value_reply (taken v at) = record { refusal = 0; next = at; value = value_numbers v }
value_reply (refused k) = record { refusal = number k; next = 0; value = no_value }

-- what reading a column at a cursor answers
abbrev pub column_numbers : Answer Column → ColumnNumbers
column_numbers (taken c at) = record { refusal = 0; next = at; name = c.name; value = value_numbers c.value }
column_numbers (refused k) = record { refusal = number k; next = 0; name = no_place; value = no_value }

-- an element of a vector
abbrev pub element_numbers : Option ℕ → ElementNumbers
element_numbers (Some n) = record { found = 1; bits = n }
element_numbers None = record { found = 0; bits = 0 }

-- what writing a body's canonical form answers
abbrev pub canonical_as : Result Unit Refusal → ℕ
canonical_as (Ok u) = 0
canonical_as (Err r) = number r

-- ---- a batch being built

-- a column count never stands at 0: that is no present record
abbrev pub last_record_in : Building → Option OpenRecord
last_record_in b = pick (eqb b.counted 0) None (taking b.counted b.columns)

abbrev pub builder_in : Building → BatchBuilder
builder_in b = record { at = b.at; records = b.records; last = last_record_in b }

abbrev pub counted_of : Option OpenRecord → ℕ
counted_of None = 0
counted_of (Some r) = r.counted % 4294967296

abbrev pub columns_of : Option OpenRecord → ℕ
columns_of None = 0
columns_of (Some r) = r.columns

abbrev pub building_of : BatchBuilder → Building
building_of b = record { refusal = 0; at = b.at % 4294967296; counted = counted_of b.last; records = b.records; columns = columns_of b.last }

abbrev pub refused_building : Refusal → Building
refused_building r = record { refusal = number r; at = 0; counted = 0; records = 0; columns = 0 }

-- what an addition answers: the batch after it, or the number alone, and the caller goes on with the batch before it
abbrev pub added_numbers : Added → Building
added_numbers (Ok b) = building_of b
added_numbers (Err r) = refused_building r
