-- Reading a batch's body s from a cursor on, by document 01's line on `mvcc/log.rs`.
use Rattle.std.specs.Prelude.{Option, None, Bool, not, List, [], ◌∷◌, ℕ, ◌+◌, ◌-◌, ◌*◌, leb, ltb, eqb, length, take, drop, ℤ, pos, negsuc, Result, Ok, Err}
use Rattle.std.specs.Float.{binary64}
use Rattle.std.specs.Float.Ieee.{nan_bits, of_bits}
use Rattle.mvcc.specs.Batch.{heading_size}
use Rattle.le.specs.Choice.{pick}
use Rattle.le.specs.Le.{le_of, field}
use Rattle.text.specs.Utf8.{well_formed, chars}
use Rattle.refusal.specs.Refusal.{unless, answered}
use Rattle.refusal.specs.declared.Refusal.{Refusal}
use Rattle.refusal.specs.declared.Refusal.TheVariants.{Short, Magic, Truncated, Tag, Text}
use Rattle.mvcc.specs.Answer.{Answer, taken, refused, then, many}
use Rattle.mvcc.specs.declared.TextPlace.{TextPlace}
use Rattle.mvcc.specs.declared.Value.{Value}
use Rattle.mvcc.specs.declared.Value.TheVariants as value
use Rattle.mvcc.specs.declared.Column.{Column}
use Rattle.mvcc.specs.declared.RowID.{RowID}
use Rattle.mvcc.specs.declared.VersionPayload.TheVariants as payload
use Rattle.mvcc.specs.declared.MvccLogRecord.{MvccLogRecord}
use Rattle.mvcc.specs.declared.MvccCommitBatch.{MvccCommitBatch}

-- n bytes from `at` on lie in s
abbrev pub fits_in : List ℕ → ℕ → ℕ → Bool
fits_in s at n = leb (at + n) (length s)

-- a number of k bytes
unfoldable pub num_at : ℕ → List ℕ → ℕ → Answer ℕ
num_at k s at = pick (fits_in s at k) (taken (field k at s) (at + k)) (refused Truncated)

-- where n bytes of text stand, with "the number of Unicode scalar values" (document 02): "batch names and texts carry it along"
abbrev pub place_of : List ℕ → ℕ → ℕ → TextPlace
place_of s at n = record { start = at; len = n; chars = chars (take n (drop at s)) }

-- n bytes of text
unfoldable pub text_of : List ℕ → ℕ → ℕ → Answer TextPlace
text_of s at n =
    pick (fits_in s at n)
    (pick (well_formed (take n (drop at s))) (taken (place_of s at n) (at + n)) (refused Text))
    (refused Truncated)

-- "Text: length (2), UTF-8"; a value's text has a length of 4 bytes
unfoldable pub text_at : ℕ → List ℕ → ℕ → Answer TextPlace
text_at k s at = then (num_at k s at) (λ n next. text_of s next n)

-- the signed number whose 64 bits are n
unfoldable pub signed : ℕ → ℤ
signed n = pick (ltb n 0x8000_0000_0000_0000) (pos n) (negsuc (0xffff_ffff_ffff_ffff - n))

-- "A float is its bits": those of a NaN as they are, any others as the float that has them
unfoldable pub real_of : ℕ → Value
real_of n = pick (nan_bits binary64 n) (value.Nan n) (value.Real (of_bits binary64 n))

-- "1 integer (8, signed)"
unfoldable pub integer_at : List ℕ → ℕ → Answer Value
integer_at s at = then (num_at 8 s at) (λ n next. taken (value.Integer (signed n)) next)

-- "2 real (8)"
unfoldable pub real_at : List ℕ → ℕ → Answer Value
real_at s at = then (num_at 8 s at) (λ n next. taken (real_of n) next)

-- "3 text with a 4-byte length"
unfoldable pub text_value_at : List ℕ → ℕ → Answer Value
text_value_at s at = then (text_at 4 s at) (λ place next. taken (value.Text place) next)

-- "4 bool (1, nonzero is true)"
unfoldable pub bool_at : List ℕ → ℕ → Answer Value
bool_at s at = then (num_at 1 s at) (λ n next. taken (value.Bool (not (eqb n 0))) next)

-- "5 vector, count (4) and f32s"
unfoldable pub vector_at : List ℕ → ℕ → Answer Value
vector_at s at =
    then (num_at 4 s at) (λ n start.
    pick (fits_in s start (n * 4)) (taken (value.Vector start n) (start + n * 4)) (refused Truncated))

-- "Value tag: 0 null; 1 integer; 2 real; 3 text; 4 bool; 5 vector"
unfoldable pub tagged_at : List ℕ → ℕ → ℕ → Answer Value
tagged_at s tag at =
    pick (eqb tag 0) (taken value.Null at)
    (pick (eqb tag 1) (integer_at s at)
    (pick (eqb tag 2) (real_at s at)
    (pick (eqb tag 3) (text_value_at s at)
    (pick (eqb tag 4) (bool_at s at)
    (pick (eqb tag 5) (vector_at s at)
    (refused Tag))))))

unfoldable pub value_at : List ℕ → ℕ → Answer Value
value_at s at = then (num_at 1 s at) (λ tag next. tagged_at s tag next)

-- "columns, each a name text and a value"
unfoldable pub column_at : List ℕ → ℕ → Answer Column
column_at s at =
    then (text_at 2 s at) (λ n next.
    then (value_at s next) (λ v end.
    taken (record { name = n; value = v }) end))

-- "if present a column count (2) and columns"
unfoldable pub present_at : List ℕ → RowID → ℕ → Answer MvccLogRecord
present_at s r at =
    then (num_at 2 s at) (λ count first.
    then (many (column_at s) count first) (λ columns end.
    taken (record { row = r; payload = payload.Present count first }) end))

-- "op (1: 0 tombstone, 1 present)"
unfoldable pub judged_at : List ℕ → ℕ → RowID → ℕ → Answer MvccLogRecord
judged_at s op r at =
    pick (eqb op 0) (taken (record { row = r; payload = payload.Tombstone }) at)
    (pick (eqb op 1) (present_at s r at) (refused Tag))

-- "op, table text, row id (8, signed)"; "An op is judged after table and row id are read"
unfoldable pub record_at : List ℕ → ℕ → Answer MvccLogRecord
record_at s at =
    then (num_at 1 s at) (λ op named.
    then (text_at 2 s named) (λ t next.
    then (num_at 8 s next) (λ n rest.
    judged_at s op (record { table = t; rowid = signed n }) rest)))

-- "`MVCC0001`" as a number of 8 bytes
unfoldable pub batch_magic : ℕ
batch_magic = le_of (0x4d ∷ 0x56 ∷ 0x43 ∷ 0x43 ∷ 0x30 ∷ 0x30 ∷ 0x30 ∷ 0x31 ∷ [])

-- the records of a body: "record count (2), records"
unfoldable pub records_at : List ℕ → Answer (List MvccLogRecord)
records_at s = many (record_at s) (field 2 16 s) heading_size

abbrev pub batch_end : ℕ → ℕ → Answer (List MvccLogRecord) → Result MvccCommitBatch Refusal
batch_end t n (taken rs at) = Ok (record { commit_ts = t; records = n; end = at })
batch_end t n (refused k) = Err k

-- what the heading alone is refused for: "batch body under 18", "wrong leading bytes"
unfoldable pub heading_refusal : List ℕ → Option Refusal
heading_refusal s = unless (leb heading_size (length s)) Short (unless (eqb (field 8 0 s) batch_magic) Magic None)

-- "Body: `MVCC0001`, commit time (8), record count (2), records"; "Bytes after the last record are ignored on reading"
unfoldable pub batch_of : List ℕ → Result MvccCommitBatch Refusal
batch_of s = answered Err (batch_end (field 8 8 s) (field 2 16 s) (records_at s)) (heading_refusal s)
