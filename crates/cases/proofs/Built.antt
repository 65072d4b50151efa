-- Document 01's cases of batches being built: how many records and columns fit, and how many items the fullest one has. Assumes nothing.
use mathlib.Core.Path.{◌≡◌, refl, ap, ◌∙◌}
use mathlib.Core.Bool.{true}
use mathlib.Core.List.{List, [], ◌∷◌, ◌++◌, append-nil, append_assoc}
use Prim.Native.Nat.{ℕ, zero, suc, ◌+◌, ◌*◌, ◌^◌, ◌≤◌, ◌<◌}
use native.Mathlib.Nat.{add-zero}
use native.Mathlib.Omega.{arith}
use borrow.Author.Tests.{le-leb, lt-leb}
use lib.ListN.{length, replicate, length-append, length-replicate}
use lib.IntN.{ℤ}
use mir.Val.{SFits}
use mir.Syntax.{w64}
use Rattle.std.specs.Prelude.{Ok, Err}
use Rattle.le.specs.Le.{le_bytes}
use Rattle.le.proofs.Fields.{length-le_bytes}
use Rattle.refusal.specs.declared.Refusal.TheVariants as refusal
use Rattle.text.specs.Utf8.{well_formed, formed_behind}
use Rattle.mvcc.specs.Batch.{null, Col, Rec, tombstone, present, all, encode_text, encode_value, encode_column, encode_record, encode_batch, Each}
use Rattle.mvcc.specs.Items.{batch_items, rows_items}
use Rattle.mvcc.proofs.Counted.{decoded-items, encoded-items}
use Rattle.mvcc_build.specs.Build.{started_bytes, record_added, column_added, column}
use Rattle.mvcc_build.specs.Built.{Built, builder_of, ends_present, with_in, with_column, Held, HeldValue}
use Rattle.mvcc_build.specs.Run.{record-call, column-call, HeldCall, column_records, next_records, run_body, run_records}
use Rattle.mvcc_build.specs.declared.BatchBuilder.{BatchBuilder}
use Rattle.mvcc_build.proofs.Grow.{batch-size, record-size}
use Rattle.mvcc_build.proofs.Built.{start-built, record-answer, column-answer, built-decodes, built-records}
use Rattle.mvcc_build.proofs.Run.{run-built}
use Rattle.cases.specs.Cases.{tombstones, tombstone_calls, nulls, null_row, null_calls, Builds}

-- ---- tombstones with empty table names

tombstone-size : (row : ℤ) → length (encode_record (tombstone [] row)) ≡ 11
unfolding encode_record encode_text le_bytes
tombstone-size row = refl

tombstones-all : (rows : List ℤ) → length (all encode_record (tombstones rows)) ≡ 11 * length rows
unfolding all
tombstones-all [] = refl
tombstones-all (row ∷ rows) = rw (length-append, tombstone-size, tombstones-all rows) (omega arith)

pub tombstones-size : (t : ℕ) (rows : List ℤ) → length (encode_batch t (tombstones rows)) ≡ 18 + 11 * length rows
tombstones-size t rows = rw (batch-size, tombstones-all)

-- "370 tombstones with empty table names fit, 371 don't"
pub tombstones-370 : (t : ℕ) (rows : List ℤ) → length rows ≡ 370 → length (encode_batch t (tombstones rows)) ≤ 4096
tombstones-370 t rows h = rw (tombstones-size, h) (omega arith)

pub tombstones-371 : (t : ℕ) (rows : List ℤ) → length rows ≡ 371 → 4096 < length (encode_batch t (tombstones rows))
tombstones-371 t rows h = rw (tombstones-size, h) (omega arith)

empty-text : well_formed [] ≡ true
unfolding well_formed formed_behind
empty-text = refl

module _ (t : ℕ) (rows : List ℤ) (b : BatchBuilder) (body : List ℕ) (h : Built t (tombstones rows) b body) where
  -- the 370th is added, and the 371st is refused with 20
  pub tombstone-370th : length rows ≡ 369 → (row : ℤ) → record_added b body (tombstone [] row) ≡ Ok (builder_of t (tombstones rows ++ (tombstone [] row ∷ [])))
  tombstone-370th e row =
      let k : length (encode_batch t (tombstones rows)) + 11 ≤ 4096 = rw (tombstones-size, e) (omega arith) in
      rw (record-answer h (tombstone [] row), empty-text, record-size, tombstone-size, le-leb _ _ k)

  pub tombstone-371st : length rows ≡ 370 → (row : ℤ) → record_added b body (tombstone [] row) ≡ Err refusal.Fit
  tombstone-371st e row =
      let k : 4096 < length (encode_batch t (tombstones rows)) + 11 = rw (tombstones-size, e) (omega arith) in
      rw (record-answer h (tombstone [] row), empty-text, record-size, tombstone-size, lt-leb _ _ k)

-- .. and as many calls build them
tombstones-more : (rows : List ℤ) (row : ℤ) → tombstones rows ++ (tombstone [] row ∷ []) ≡ tombstones (rows ++ (row ∷ []))
tombstones-more [] row = refl
tombstones-more (r ∷ rows) row = ap (λ (rs : List Rec). tombstone [] r ∷ rs) (tombstones-more rows row)

tombstone-next : (t : ℕ) (done : List ℤ) (row : ℤ) → length done + 1 ≤ 370
    → next_records t (record-call (tombstone [] row)) (tombstones done) ≡ tombstones (done ++ (row ∷ []))
unfolding next_records
tombstone-next t done row h =
    let k : length (encode_batch t (tombstones (done ++ (row ∷ [])))) ≤ 4096 = rw (tombstones-size, length-append) (omega arith) in
    rw (empty-text, tombstones-more, le-leb _ _ k)

tombstones-run : (t : ℕ) (rows done : List ℤ) → length done + length rows ≤ 370
    → run_records t (tombstone_calls rows) (tombstones done) ≡ tombstones (done ++ rows)
unfolding run_records
tombstones-run t [] done h = rw append-nil
tombstones-run t (row ∷ rows) done h =
    let n : length (done ++ (row ∷ [])) ≡ length done + 1 = length-append done (row ∷ []) in
    let e : (done ++ (row ∷ [])) ++ rows ≡ done ++ (row ∷ rows) = rw append_assoc in
    ap (run_records t (tombstone_calls rows)) (tombstone-next t done row (omega arith))
    ∙ tombstones-run t rows (done ++ (row ∷ [])) (omega arith)
    ∙ ap tombstones e

tombstones-held : (rows : List ℤ) → Each (SFits w64) rows → Each HeldCall (tombstone_calls rows)
unfolding Each HeldCall Held
tombstones-held [] g = tt
tombstones-held (row ∷ rows) g = (g.0, tombstones-held rows g.1)

pub tombstones-built : (t : ℕ) (rows : List ℤ) → t < 256 ^ 8 → Each (SFits w64) rows → length rows ≤ 370 → Builds t (tombstone_calls rows) (tombstones rows)
tombstones-built t rows k g h body n =
    rw (← tombstones-run t rows [] (omega arith)) (run-built (tombstone_calls rows) (start-built t body n k) (tombstones-held rows g))

-- ---- one present record with an empty table name and null columns with empty names

pub null_size : length (encode_column (column [] null)) ≡ 3
unfolding encode_column encode_text encode_value le_bytes
null_size = refl

nulls-all : (n : ℕ) → length (all encode_column (nulls n)) ≡ 3 * n
unfolding all
nulls-all zero = refl
nulls-all (suc n) = rw (length-append, null_size, nulls-all n) (omega arith)

pub nulls-size : (t : ℕ) (row : ℤ) (n : ℕ) → length (encode_batch t (null_row row n)) ≡ 31 + 3 * n
unfolding all encode_record encode_text
nulls-size t row n = rw batch-size (simp (length-append, length-le_bytes, nulls-all) (omega arith))

-- "with 1,355 null columns with empty names fills 4,096; 1,356 don't"
pub nulls-1355 : (t : ℕ) (row : ℤ) → length (encode_batch t (null_row row 1355)) ≡ 4096
nulls-1355 t row = nulls-size t row 1355

pub nulls-1356 : (t : ℕ) (row : ℤ) → 4096 < length (encode_batch t (null_row row 1356))
nulls-1356 t row = rw (nulls-size t row 1356) (omega arith)

-- one null column more
nulls-more : (n : ℕ) → nulls n ++ (column [] null ∷ []) ≡ nulls (suc n)
nulls-more zero = refl
nulls-more (suc n) = ap (λ (cs : List Col). column [] null ∷ cs) (nulls-more n)

-- the 1,355th is added, the batch then ends at 4,096, and the 1,356th is refused with 20
pub null-1355th : (t : ℕ) (row : ℤ) (b : BatchBuilder) (body : List ℕ) → Built t (null_row row 1354) b body
    → column_added b body (column [] null) ≡ Ok (builder_of t (null_row row 1355))
unfolding ends_present with_column with_in
null-1355th t row b body h =
    let k : length (encode_batch t (null_row row 1354)) + 3 ≤ 4096 = rw nulls-size (omega arith) in
    rw (column-answer h (column [] null), empty-text, null_size, le-leb _ _ k, nulls-more 1354)

pub null-1355th-end : (t : ℕ) (row : ℤ) → (builder_of t (null_row row 1355)).at ≡ 4096
unfolding builder_of
null-1355th-end t row = nulls-1355 t row

pub null-1356th : (t : ℕ) (row : ℤ) (b : BatchBuilder) (body : List ℕ) → Built t (null_row row 1355) b body
    → column_added b body (column [] null) ≡ Err refusal.Fit
null-1356th t row b body h =
    let k : 4096 < length (encode_batch t (null_row row 1355)) + 3 = rw nulls-1355 (omega arith) in
    rw (column-answer h (column [] null), empty-text, null_size, lt-leb _ _ k)

-- .. and as many calls build them
null-next : (t : ℕ) (row : ℤ) (m : ℕ) → m < 1355 → next_records t (column-call (column [] null)) (null_row row m) ≡ null_row row (suc m)
unfolding next_records column_records ends_present with_column with_in
null-next t row m h =
    let k : length (encode_batch t (null_row row m)) + 3 ≤ 4096 = rw nulls-size (omega arith) in
    rw (empty-text, null_size, le-leb _ _ k, nulls-more m)

nulls-run : (t : ℕ) (row : ℤ) (n m : ℕ) → m + n ≤ 1355 → run_records t (replicate n (column-call (column [] null))) (null_row row m) ≡ null_row row (m + n)
unfolding run_records
nulls-run t row zero m h = rw add-zero
nulls-run t row (suc n) m h =
    let e : suc m + n ≡ m + suc n = omega arith in
    ap (run_records t (replicate n (column-call (column [] null)))) (null-next t row m (omega arith))
    ∙ nulls-run t row n (suc m) (omega arith)
    ∙ ap (null_row row) e

row_next : (t : ℕ) (row : ℤ) → next_records t (record-call (present [] row [])) [] ≡ null_row row 0
unfolding next_records
row_next t row =
    let k : length (encode_batch t (null_row row 0)) ≤ 4096 = rw nulls-size (omega arith) in
    rw (empty-text, le-leb _ _ k)

nulls-held : (n : ℕ) → Each HeldCall (replicate n (column-call (column [] null)))
unfolding Each HeldCall HeldValue
nulls-held zero = tt
nulls-held (suc n) = (tt, nulls-held n)

pub nulls-built : (t : ℕ) (row : ℤ) (n : ℕ) → t < 256 ^ 8 → SFits w64 row → n ≤ 1355 → Builds t (null_calls row n) (null_row row n)
unfolding run_records Each HeldCall Held
nulls-built t row n k f h body l =
    let z : 0 + n ≡ n = omega arith in
    let e : run_records t (null_calls row n) [] ≡ null_row row n =
    ap (run_records t (replicate n (column-call (column [] null)))) (row_next t row) ∙ nulls-run t row n 0 (omega arith) ∙ ap (null_row row) z in
    rw (← e) (run-built (null_calls row n) (start-built t body l k) ((f, refl), nulls-held n))

-- ---- the items of 1,355 null columns and their record

pub nulls-rows : (row : ℤ) (n : ℕ) → rows_items (null_row row n) ≡ n + 1
unfolding rows_items
nulls-rows row n = rw length-replicate (omega arith)

module _ (t : ℕ) (row : ℤ) (k : t < 256 ^ 8) (f : SFits w64 row) where
  pub items-1356-built : (body : List ℕ) → length body ≡ 4096 → batch_items (run_body (null_calls row 1355) (builder_of t []) (started_bytes t body)) ≡ 1356
  items-1356-built body l =
      let b = nulls-built t row 1355 k f (omega arith) body l in
      decoded-items _ (built-decodes b) ∙ ap rows_items (built-records b) ∙ nulls-rows row 1355

  pub items-1356 : batch_items (encode_batch t (null_row row 1355)) ≡ 1356
  items-1356 =
      let b = nulls-built t row 1355 k f (omega arith) (replicate 4096 0) (length-replicate {A = ℕ} 4096 0) in
      rw append-nil at (encoded-items t (null_row row 1355) [] b.good) ∙ nulls-rows row 1355
