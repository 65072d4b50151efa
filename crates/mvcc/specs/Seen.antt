-- What a body says: contents in place of offsets, and what crates above cite of a body.
use Rattle.std.specs.Prelude.{Option, None, Some, Bool, List, [], ◌∷◌, map, ℕ, zero, suc, ◌+◌, take, drop, Result, Ok, Err}
use Rattle.std.specs.Float.{binary64}
use Rattle.std.specs.Float.Ieee.{to_bits}
use Rattle.le.specs.Le.{field}
use Rattle.refusal.specs.Refusal.{accepts, number_of, answered}
use Rattle.refusal.specs.declared.Refusal.{Refusal}
use Rattle.mvcc.specs.Answer.{many, items}
use Rattle.mvcc.specs.Decode.{column_at, records_at, batch_of}
unfoldable pub use Rattle.mvcc.specs.Decode.{heading_refusal}
use Rattle.mvcc.specs.Batch.{Val, null, integer, real, text, bool, vector, Col, Rec, tombstone, present, encode_body}
use Rattle.mvcc.specs.declared.TextPlace.{TextPlace}
use Rattle.mvcc.specs.declared.Value.{Value}
use Rattle.mvcc.specs.declared.Value.TheVariants as value
use Rattle.mvcc.specs.declared.Column.{Column}
use Rattle.mvcc.specs.declared.RowID.{RowID}
use Rattle.mvcc.specs.declared.VersionPayload.{VersionPayload}
use Rattle.mvcc.specs.declared.VersionPayload.TheVariants as payload
use Rattle.mvcc.specs.declared.MvccLogRecord.{MvccLogRecord}
use Rattle.mvcc.specs.declared.MvccCommitBatch.{MvccCommitBatch}

-- the bytes of a text
abbrev pub bytes_of : List ℕ → TextPlace → List ℕ
bytes_of s p = take p.len (drop p.start s)

-- n numbers of four bytes
unfoldable pub words : List ℕ → ℕ → ℕ → List ℕ
words s zero at = []
words s (suc n) at = field 4 at s ∷ words s n (at + 4)

unfoldable pub seen : List ℕ → Value → Val
seen s value.Null = null
seen s (value.Integer z) = integer z
seen s (value.Real x) = real (to_bits binary64 x)
seen s (value.Nan n) = real n
seen s (value.Text p) = text (bytes_of s p)
seen s (value.Bool b) = bool b
seen s (value.Vector start n) = vector (words s n start)

unfoldable pub seen_column : List ℕ → Column → Col
seen_column s c = record { name = bytes_of s c.name; val = seen s c.value }

unfoldable pub seen_row : List ℕ → RowID → VersionPayload → Rec
seen_row s r payload.Tombstone = tombstone (bytes_of s r.table) r.rowid
seen_row s r (payload.Present count first) =
    present (bytes_of s r.table) r.rowid (map (seen_column s) (items (many (column_at s) count first)))

unfoldable pub seen_record : List ℕ → MvccLogRecord → Rec
seen_record s r = seen_row s r.row r.payload

-- ---- of a body, for crates above

-- what its heading alone comes to
abbrev pub heading_judged : List ℕ → Result Unit Refusal
heading_judged s = answered Err (Ok tt) (heading_refusal s)

-- the refusal in an answer
abbrev pub refusal_in : Result MvccCommitBatch Refusal → Option Refusal
refusal_in (Ok b) = None
refusal_in (Err r) = Some r

-- its refusal; none where it decodes
unfoldable pub decode_refusal : List ℕ → Option Refusal
decode_refusal s = refusal_in (batch_of s)

-- document 01's number of that; 0 where it decodes
unfoldable pub refusal_of : List ℕ → ℕ
refusal_of s = number_of (decode_refusal s)

-- the body decodes
unfoldable pub decodes : List ℕ → Bool
decodes s = accepts (decode_refusal s)

-- "commit time (8)"
unfoldable pub commit_ts_of : List ℕ → ℕ
commit_ts_of s = field 8 8 s

-- its records
unfoldable pub records : List ℕ → List Rec
records s = map (seen_record s) (items (records_at s))

-- the body that `encode` writes for what the body says: bools 0 or 1, zeros behind
unfoldable pub canonical : List ℕ → List ℕ
canonical s = encode_body (commit_ts_of s) (records s)
