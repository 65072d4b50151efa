-- What each addition to a batch answers, and the body's later bytes, for every builder and body.
use Rattle.std.specs.Prelude.{Bool, true, false, List, [], ◌∷◌, ◌++◌, ℕ, ◌+◌, ◌/◌, ◌%◌, leb, eqb, length, replicate, ℤ, Option, Some, None, Result, Ok, Err}
use Rattle.std.proofs.Common.{of_z}
use Rattle.std.specs.Int.{w64}
use Rattle.le.specs.Choice.{pick, both}
use Rattle.le.specs.Le.{le_bytes, put, store}
use Rattle.text.specs.Utf8.{well_formed}
use Rattle.mvcc.specs.Batch.{body_size, heading_size, Val, null, integer, real, text, bool, vector, Col, Rec, tombstone, present, encode_text, encode_column, encode_record, encode_body}
use Rattle.mvcc.specs.Seen.{words}
use Rattle.mvcc_build.specs.declared.BatchBuilder.{BatchBuilder}
use Rattle.mvcc_build.specs.declared.OpenRecord.{OpenRecord}
use Rattle.refusal.specs.declared.Refusal.TheVariants.{Area, Truncated, Text, Fit, NoRecord}
use Rattle.refusal.specs.declared.Refusal.{Refusal}

-- what an addition answers: the builder to go on with, or its refusal
abbrev pub Added : Type 0
Added = Result BatchBuilder Refusal

-- the last record takes columns: its column count stands at `counted`
abbrev pub taking : ℕ → ℕ → Option OpenRecord
taking counted columns = Some (record { counted = counted; columns = columns })

-- ---- starting

unfoldable pub started : List ℕ → Added
started body = pick (eqb (length body) body_size) (Ok (record { at = heading_size; records = 0; last = None })) (Err Area)

unfoldable pub started_bytes : ℕ → List ℕ → List ℕ
started_bytes t body = pick (eqb (length body) body_size) (encode_body t []) body

-- ---- what every addition has in common

-- the refusals 1, 19 and 20 of an addition to a body of length n, in order; `texts`: its texts are UTF-8; `end`: where it ends
unfoldable pub judged : ℕ → Bool → ℕ → Result Unit Refusal
judged n texts end = pick (eqb n body_size) (pick texts (pick (leb end body_size) (Ok tt) (Err Fit)) (Err Text)) (Err Area)

abbrev pub behind : Result Unit Refusal → Added → Added
behind (Ok tt) more = more
behind (Err r) more = Err r

-- an addition with the bytes bs: these refusals, then what is behind them
unfoldable pub addition_judged : BatchBuilder → List ℕ → Bool → List ℕ → Added → Added
addition_judged b body texts bs more =
    behind (judged (length body) texts (b.at + length bs)) more

-- the later bytes: those added, with the count that goes with them; after a refusal the body is as it was
unfoldable pub body_after : (BatchBuilder → List ℕ → List ℕ) → BatchBuilder → List ℕ → List ℕ → Added → List ℕ
body_after count b body bs (Ok next) = count next (put body b.at bs)
body_after count b body bs (Err r) = body

-- ---- records

-- one record more, of n bytes, with `end` the last one now
unfoldable pub record_in : BatchBuilder → ℕ → Option OpenRecord → Added
record_in b n end = pick (eqb b.records 0xffff) (Err Fit) (Ok (record { at = b.at + n; records = b.records + 1; last = end }))

-- the record count, stored anew
unfoldable pub record_count : BatchBuilder → List ℕ → List ℕ
record_count next l = store l 16 (le_bytes 2 next.records)

abbrev pub record_table : Rec → List ℕ
record_table (tombstone t row) = t
record_table (present t row cs) = t

-- the last record, written at `at`: a present one has its column count behind op, table and row id
abbrev pub last_at : ℕ → Rec → Option OpenRecord
last_at at (tombstone t row) = None
last_at at (present t row cs) = taking (at + (11 + length t)) (length cs)

-- a record added: refused where the body's length is wrong (1), its table is not UTF-8 (19) or it does not fit (20)
unfoldable pub record_added : BatchBuilder → List ℕ → Rec → Added
record_added b body r = addition_judged b body (well_formed (record_table r)) (encode_record r) (record_in b (length (encode_record r)) (last_at b.at r))

unfoldable pub record_bytes : BatchBuilder → List ℕ → Rec → List ℕ
record_bytes b body r = body_after record_count b body (encode_record r) (record_added b body r)

-- op, table, row id and z zeros: a tombstone, or a present record that has no columns yet
unfoldable pub head_bytes : ℕ → List ℕ → ℤ → ℕ → List ℕ
head_bytes op t row z = op ∷ (encode_text 2 t ++ (le_bytes 8 (of_z w64 row) ++ replicate z 0))

abbrev pub last_of : ℕ → ℕ → Option OpenRecord
last_of op counted = pick (eqb op 0) None (taking counted 0)

-- what such a record answers; `texts`: its table is UTF-8
unfoldable pub head_result : BatchBuilder → List ℕ → Bool → ℕ → List ℕ → ℤ → ℕ → Added
head_result b body texts op t row z =
    addition_judged b body texts (head_bytes op t row z) (record_in b (length (head_bytes op t row z)) (last_of op (b.at + (11 + length t))))

-- ---- columns

-- the last record has as many columns as its count can say; only a builder that was made up has one
abbrev pub is_full : Option OpenRecord → Bool
is_full None = false
is_full (Some r) = eqb r.columns 0xffff

-- the last record takes a column of n bytes, if it is a present one
unfoldable pub column_in : BatchBuilder → ℕ → Option OpenRecord → Added
column_in b n None = Err NoRecord
column_in b n (Some r) =
    pick (is_full (Some r)) (Err Fit) (Ok (record { at = b.at + n; records = b.records; last = taking r.counted (r.columns + 1) }))

-- what a column with the bytes bs answers; `texts`: its texts are UTF-8
unfoldable pub column_result : BatchBuilder → List ℕ → Bool → List ℕ → Added
column_result b body texts bs = addition_judged b body texts bs (column_in b (length bs) b.last)

-- the column count of a present record, stored anew
unfoldable pub columns_recounted : Option OpenRecord → List ℕ → List ℕ
columns_recounted None l = l
columns_recounted (Some r) l = store l r.counted (le_bytes 2 r.columns)

unfoldable pub column_count : BatchBuilder → List ℕ → List ℕ
column_count next l = columns_recounted next.last l

abbrev pub column : List ℕ → Val → Col
column n v = record { name = n; val = v }

-- a text value's own UTF-8
abbrev pub texted : Val → Bool
texted null = true
texted (integer z) = true
texted (real n) = true
texted (text t) = well_formed t
texted (bool x) = true
texted (vector ws) = true

-- a column added: refused where the body's length is wrong (1), its name or text is not UTF-8 (19), it does not fit (20)
-- or no present record is last (21)
unfoldable pub column_added : BatchBuilder → List ℕ → Col → Added
column_added b body c = column_result b body (both (texted c.val) (well_formed c.name)) (encode_column c)

unfoldable pub column_bytes : BatchBuilder → List ℕ → Col → List ℕ
column_bytes b body c = body_after column_count b body (encode_column c) (column_added b body c)

-- a vector's elements, from their little-endian bytes
unfoldable pub elements : List ℕ → List ℕ
elements bs = words bs (length bs / 4) 0

-- a vector column: refused, after 1, where its last element is cut (17)
unfoldable pub vector_added : BatchBuilder → List ℕ → List ℕ → List ℕ → Added
vector_added b body n bs =
    pick (eqb (length body) body_size)
    (pick (eqb (length bs % 4) 0) (column_added b body (column n (vector (elements bs)))) (Err Truncated))
    (Err Area)

unfoldable pub vector_bytes : BatchBuilder → List ℕ → List ℕ → List ℕ → List ℕ
vector_bytes b body n bs = body_after column_count b body (encode_column (column n (vector (elements bs)))) (vector_added b body n bs)

-- a column by its name and its value's tag, number of k bytes, and bytes
unfoldable pub tagged : List ℕ → ℕ → ℕ → ℕ → List ℕ → List ℕ
tagged n tag k v bs = encode_text 2 n ++ (tag ∷ (le_bytes k v ++ bs))
