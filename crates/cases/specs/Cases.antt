-- Document 01's starred cases, one row each or more, in its order, and the batch that document 02's P14 asks for. `cases` of proofs/Cases.antt
-- proves them all.
use Rattle.std.specs.Prelude.{Some, true, ◌≡◌, List, [], ◌∷◌, ◌++◌, map, ℕ, ◌^◌, ◌≤◌, ◌<◌, ℤ, pos, length, get_or, replicate}
use Rattle.std.proofs.Common.{SFits}
use Rattle.std.specs.Int.{w64}
use Rattle.refusal.specs.declared.Refusal.TheVariants as refusal
use Rattle.text.specs.Utf8.{utf8_of, utf8_refusal as text_refusal}
use Rattle.frame.specs.Frame.{frame_sum}
use Rattle.mvcc.specs.Batch.{null, bool, Col, Rec, tombstone, present, encode_batch, Each}
use Rattle.mvcc.specs.Seen.{decode_refusal, decodes, records, canonical}
use Rattle.mvcc.specs.Items.{batch_items}
use Rattle.mvcc_build.specs.Build.{started_bytes, record_added, column, column_added}
use Rattle.mvcc_build.specs.Built.{builder_of, Built}
use Rattle.mvcc_build.specs.Run.{Addition, record-call, column-call, run_builder, run_body}
use Rattle.mvcc_build.specs.declared.BatchBuilder.{BatchBuilder}
use Rattle.std.specs.Prelude.{Ok, Err}
use Rattle.wal.specs.Recovery.{recovered, frame_count_of}

-- a page of zeros
abbrev zeros : List ℕ
zeros = replicate 4096 0

-- tombstones with empty table names and these row ids
abbrev pub tombstones : List ℤ → List Rec
tombstones rows = map (tombstone []) rows

-- the calls that add them
abbrev pub tombstone_calls : List ℤ → List Addition
tombstone_calls rows = map (λ (row : ℤ). record-call (tombstone [] row)) rows

-- one present record, with an empty table name and n null columns with empty names
abbrev pub nulls : ℕ → List Col
nulls n = replicate n (column [] null)

abbrev pub null_row : ℤ → ℕ → List Rec
null_row row n = present [] row (nulls n) ∷ []

abbrev pub null_calls : ℤ → ℕ → List Addition
null_calls row n = record-call (present [] row []) ∷ replicate n (column-call (column [] null))

-- the calls from a start in any body of a page's length leave a builder with these records
abbrev pub Builds : ℕ → List Addition → List Rec → Type 0
Builds t ks rs = (body : List ℕ) → length body ≡ 4096 → Built t rs (run_builder ks (builder_of t []) (started_bytes t body)) (run_body ks (builder_of t []) (started_bytes t body))

-- a body of one present record, with an empty table name, the row id 0 and one column with an empty name: a bool whose byte is 2
abbrev pub bool_two : List ℕ
bool_two =
    0x4d ∷ 0x56 ∷ 0x43 ∷ 0x43 ∷ 0x30 ∷ 0x30 ∷ 0x30 ∷ 0x31
    ∷ 0 ∷ 0 ∷ 0 ∷ 0 ∷ 0 ∷ 0 ∷ 0 ∷ 0 ∷ 1 ∷ 0
    ∷ 1 ∷ 0 ∷ 0 ∷ 0 ∷ 0 ∷ 0 ∷ 0 ∷ 0 ∷ 0 ∷ 0 ∷ 0 ∷ 1 ∷ 0
    ∷ 0 ∷ 0 ∷ 4 ∷ 2 ∷ []

-- a body of one record with op 9 and, behind it, these bytes
abbrev pub op_nine : List ℕ → List ℕ
op_nine bs =
    0x4d ∷ 0x56 ∷ 0x43 ∷ 0x43 ∷ 0x30 ∷ 0x30 ∷ 0x30 ∷ 0x31
    ∷ 0 ∷ 0 ∷ 0 ∷ 0 ∷ 0 ∷ 0 ∷ 0 ∷ 0 ∷ 1 ∷ 0
    ∷ 9 ∷ bs

pub record Cases : Type 0 where
  -- "Lengths 32 and 4,143: no frame; 4,144 and 8,255: at most one; 8,256: at most two"
  pub length-32 : (l : List ℕ) → length l ≡ 32 → frame_count_of (recovered l) ≤ 0
  pub length-4143 : (l : List ℕ) → length l ≡ 4143 → frame_count_of (recovered l) ≤ 0
  pub length-4144 : (l : List ℕ) → length l ≡ 4144 → frame_count_of (recovered l) ≤ 1
  pub length-8255 : (l : List ℕ) → length l ≡ 8255 → frame_count_of (recovered l) ≤ 1
  pub length-8256 : (l : List ℕ) → length l ≡ 8256 → frame_count_of (recovered l) ≤ 2
  -- "Salt 0, zero body: page 0, count 0 has checksum 0; page 1, count 0 has 2048; page 1, count 2 has 2304"
  pub sum-page-0-count-0 : frame_sum 0 0 0 zeros ≡ 0
  pub sum-page-1-count-0 : frame_sum 1 0 0 zeros ≡ 2048
  pub sum-page-1-count-2 : frame_sum 1 2 0 zeros ≡ 2304
  -- "370 tombstones with empty table names fit, 371 don't"
  pub tombstones-370 : (t : ℕ) (rows : List ℤ) → length rows ≡ 370 → length (encode_batch t (tombstones rows)) ≤ 4096
  pub tombstones-371 : (t : ℕ) (rows : List ℤ) → length rows ≡ 371 → 4096 < length (encode_batch t (tombstones rows))
  -- .. as many calls build them; the builder takes the 370th and refuses the 371st with 20
  pub tombstones-built : (t : ℕ) (rows : List ℤ) → t < 256 ^ 8 → Each (SFits w64) rows → length rows ≤ 370 → Builds t (tombstone_calls rows) (tombstones rows)
  pub tombstone-370th : (t : ℕ) (rows : List ℤ) (b : BatchBuilder) (body : List ℕ) → Built t (tombstones rows) b body → length rows ≡ 369
      → (row : ℤ) → record_added b body (tombstone [] row) ≡ Ok (builder_of t (tombstones rows ++ (tombstone [] row ∷ [])))
  pub tombstone-371st : (t : ℕ) (rows : List ℤ) (b : BatchBuilder) (body : List ℕ) → Built t (tombstones rows) b body → length rows ≡ 370
      → (row : ℤ) → record_added b body (tombstone [] row) ≡ Err refusal.Fit
  -- "One present record, empty table name, with 1,355 null columns with empty names fills 4,096; 1,356 don't"
  pub nulls-1355 : (t : ℕ) (row : ℤ) → length (encode_batch t (null_row row 1355)) ≡ 4096
  pub nulls-1356 : (t : ℕ) (row : ℤ) → 4096 < length (encode_batch t (null_row row 1356))
  -- .. as many calls build them; the builder takes the 1,355th, the batch then ends at 4,096, and it refuses the 1,356th with 20
  pub nulls-built : (t : ℕ) (row : ℤ) (n : ℕ) → t < 256 ^ 8 → SFits w64 row → n ≤ 1355 → Builds t (null_calls row n) (null_row row n)
  pub null-1355th : (t : ℕ) (row : ℤ) (b : BatchBuilder) (body : List ℕ) → Built t (null_row row 1354) b body
      → column_added b body (column [] null) ≡ Ok (builder_of t (null_row row 1355))
  pub null-1355th-end : (t : ℕ) (row : ℤ) → (builder_of t (null_row row 1355)).at ≡ 4096
  pub null-1356th : (t : ℕ) (row : ℤ) (b : BatchBuilder) (body : List ℕ) → Built t (null_row row 1355) b body
      → column_added b body (column [] null) ≡ Err refusal.Fit
  -- document 02, P14, "write one that gives exactly that": those 4,096 bytes give 1,356 items; the builder writes such a body
  pub items-1356 : (t : ℕ) (row : ℤ) → t < 256 ^ 8 → SFits w64 row → batch_items (encode_batch t (null_row row 1355)) ≡ 1356
  pub items-1356-built : (t : ℕ) (row : ℤ) (body : List ℕ) → t < 256 ^ 8 → SFits w64 row → length body ≡ 4096
      → batch_items (run_body (null_calls row 1355) (builder_of t []) (started_bytes t body)) ≡ 1356
  -- "Text C3 A9 and F4 8F BF BF good; C0 80, ED A0 80 and F4 90 80 80 bad (hexadecimal)": no refusal, and refusal 19
  pub text-c3-a9 : text_refusal (utf8_of (0xc3 ∷ 0xa9 ∷ [])) ≡ 0
  pub text-f4-8f-bf-bf : text_refusal (utf8_of (0xf4 ∷ 0x8f ∷ 0xbf ∷ 0xbf ∷ [])) ≡ 0
  pub text-c0-80 : text_refusal (utf8_of (0xc0 ∷ 0x80 ∷ [])) ≡ 19
  pub text-ed-a0-80 : text_refusal (utf8_of (0xed ∷ 0xa0 ∷ 0x80 ∷ [])) ≡ 19
  pub text-f4-90-80-80 : text_refusal (utf8_of (0xf4 ∷ 0x90 ∷ 0x80 ∷ 0x80 ∷ [])) ≡ 19
  -- "Bool byte 2 is true and is written back as 1": a body with one record and one column, whose bool's byte, 34, is 2
  pub bool-2-is-there : get_or bool_two 34 0 ≡ 2
  pub bool-2-decodes : decodes bool_two ≡ true
  pub bool-2-is-true : records bool_two ≡ present [] (pos 0) (record { name = []; val = bool true } ∷ []) ∷ []
  pub bool-2-written-1 : get_or (canonical bool_two) 34 0 ≡ 1
  -- "An op is judged after table and row id are read": op 9 is refused with 17 where its table text, of 5 bytes, is cut after
  -- one, and with 18 where an empty table and a row id are there
  pub op-9-cut : decode_refusal (op_nine (5 ∷ 0 ∷ 0x61 ∷ [])) ≡ Some refusal.Truncated
  pub op-9-whole : decode_refusal (op_nine (replicate 10 0)) ≡ Some refusal.Tag
