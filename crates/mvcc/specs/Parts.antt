-- The parts that a record is read in: what functions inside the crate promise each other. `record-parts` of proofs/Parts.antt puts them together.
use Rattle.std.specs.Prelude.{List, ℕ, eqb}
use Rattle.le.specs.Choice.{pick}
use Rattle.refusal.specs.declared.Refusal.TheVariants.{Tag}
use Rattle.mvcc.specs.Answer.{Answer, taken, refused, then, many}
use Rattle.mvcc.specs.Decode.{num_at, text_at, signed, column_at}
use Rattle.mvcc.specs.declared.RowID.{RowID}
use Rattle.mvcc.specs.declared.VersionPayload.{VersionPayload}
use Rattle.mvcc.specs.declared.VersionPayload.TheVariants.{Tombstone, Present}

-- "op, table text, row id (8, signed)"
unfoldable pub row_at : List ℕ → ℕ → Answer (ℕ × RowID)
row_at s at =
    then (num_at 1 s at) (λ op named.
    then (text_at 2 s named) (λ t next.
    then (num_at 8 s next) (λ n rest.
    taken (op, record { table = t; rowid = signed n }) rest)))

-- "if present a column count (2) and columns"
unfoldable pub columns_at : List ℕ → ℕ → Answer VersionPayload
columns_at s at =
    then (num_at 2 s at) (λ count first.
    then (many (column_at s) count first) (λ columns end.
    taken (Present count first) end))

-- "op (1: 0 tombstone, 1 present)"
unfoldable pub payload_at : List ℕ → ℕ → ℕ → Answer VersionPayload
payload_at s op at = pick (eqb op 0) (taken Tombstone at) (pick (eqb op 1) (columns_at s at) (refused Tag))
