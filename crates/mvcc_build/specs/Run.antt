-- A run of additions, as the caller makes them and as records: whoever is refused keeps the builder and the body.
use Rattle.std.specs.Prelude.{List, [], ◌∷◌, ◌++◌, ℕ, ◌+◌, ◌%◌, leb, eqb, length, Ok, Err}
use Rattle.le.specs.Choice.{pick, both}
use Rattle.le.specs.Le.{Bytes}
use Rattle.text.specs.Utf8.{well_formed}
use Rattle.mvcc.specs.Batch.{body_size, vector, Col, Rec, encode_column, encode_batch}
use Rattle.mvcc_build.specs.declared.BatchBuilder.{BatchBuilder}
use Rattle.mvcc_build.specs.Build.{Added, record_table, record_added, record_bytes, column, texted, column_added, column_bytes, elements, vector_added, vector_bytes}
use Rattle.mvcc_build.specs.Built.{ends_present, with_column, Held, HeldValue}

pub data Addition : Type 0 where
  record-call : Rec → Addition
  column-call : Col → Addition
  -- a vector's name and bytes, whole elements or not
  vector-call : List ℕ → List ℕ → Addition

-- what the machine's types say of a call
unfoldable pub HeldCall : Addition → Type 0
HeldCall (record-call r) = Held r
HeldCall (column-call c) = HeldValue c.val
HeldCall (vector-call n bs) = Bytes bs

-- the builder that the caller goes on with
abbrev pub onward : Added → BatchBuilder → BatchBuilder
onward (Ok next) b = next
onward (Err r) b = b

unfoldable pub next_builder : Addition → BatchBuilder → List ℕ → BatchBuilder
next_builder (record-call r) b body = onward (record_added b body r) b
next_builder (column-call c) b body = onward (column_added b body c) b
next_builder (vector-call n bs) b body = onward (vector_added b body n bs) b

unfoldable pub next_body : Addition → BatchBuilder → List ℕ → List ℕ
next_body (record-call r) b body = record_bytes b body r
next_body (column-call c) b body = column_bytes b body c
next_body (vector-call n bs) b body = vector_bytes b body n bs

-- the records of the batch after a column: it is refused where a text is not UTF-8, where the batch would pass 4,096 bytes, and
-- where no present record is last
unfoldable pub column_records : ℕ → Col → List Rec → List Rec
column_records t c rs =
    pick (both (texted c.val) (well_formed c.name))
    (pick (leb (length (encode_batch t rs) + length (encode_column c)) body_size) (pick (ends_present rs) (with_column rs c) rs) rs) rs

-- .. and after any call: a record is refused for its text or its size, a vector also where its last element is cut
unfoldable pub next_records : ℕ → Addition → List Rec → List Rec
next_records t (record-call r) rs =
    pick (well_formed (record_table r)) (pick (leb (length (encode_batch t (rs ++ (r ∷ [])))) body_size) (rs ++ (r ∷ [])) rs) rs
next_records t (column-call c) rs = column_records t c rs
next_records t (vector-call n bs) rs = pick (eqb (length bs % 4) 0) (column_records t (column n (vector (elements bs))) rs) rs

-- a list of calls
unfoldable pub run_builder : List Addition → BatchBuilder → List ℕ → BatchBuilder
run_builder [] b body = b
run_builder (k ∷ ks) b body = run_builder ks (next_builder k b body) (next_body k b body)

unfoldable pub run_body : List Addition → BatchBuilder → List ℕ → List ℕ
run_body [] b body = body
run_body (k ∷ ks) b body = run_body ks (next_builder k b body) (next_body k b body)

unfoldable pub run_records : ℕ → List Addition → List Rec → List Rec
run_records t [] rs = rs
run_records t (k ∷ ks) rs = run_records t ks (next_records t k rs)
