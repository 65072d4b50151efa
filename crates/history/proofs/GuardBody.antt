-- A body that decodes: the deletion of one row. Assumes nothing.
use mathlib.Core.Path.{◌≡◌, refl}
use mathlib.Core.List.{List, [], ◌∷◌, ◌++◌}
use Prim.Native.Nat.{ℕ, ◌-◌, ◌^◌, ◌<◌}
use native.Mathlib.Omega.{arith}
use lib.ListN.{length, replicate, length-append}
use lib.IntN.{ℤ}
use mir.Val.{of_z, SFits}
use mir.Syntax.{w64}
use Rattle.le.specs.Le.{le_bytes, Bytes}
use Rattle.le.proofs.Fields.{length-le_bytes}
use Rattle.text.specs.Utf8.{well_formed}
use Rattle.page.specs.Page.{page_size}
use Rattle.mvcc.specs.Batch.{Rec, tombstone, all, encode_text, encode_record, encode_batch, padded, encode_body, Each, GoodRecord, GoodBatch}
use Rattle.mvcc.proofs.Bytes.{bytes-none, bytes-cons, bytes-append, bytes-le_bytes, bytes-zeros}
use Rattle.mvcc.proofs.Whole.{batch-length, batch-bytes}
use Rattle.mvcc.proofs.Canonical.{body-length, body-decodes, body-commit_ts_of, body-records}
use Rattle.history.specs.Model.{batch_in}
use Rattle.history.specs.Guards.{Body}

module _ (time : ℕ) (row : ℤ) (early : time < 2 ^ 64) (fits : SFits w64 row) where
  abbrev rows : List Rec
  rows = tombstone [] row ∷ []

  good : GoodBatch time rows
  unfolding Each GoodRecord well_formed Rattle.text.specs.Utf8.formed_behind
  good =
      record {
        time = early;
        few = omega arith;
        each = (record { table = record { small = omega arith; utf8 = refl }; rowid = fits }, tt);
      }

  record-bytes : Bytes (all encode_record rows)
  unfolding all encode_record encode_text
  record-bytes =
      let a = bytes-le_bytes 2 0 in
      let b = bytes-le_bytes 8 (of_z w64 row) in
      let c = bytes-append (le_bytes 2 0 ++ []) (le_bytes 8 (of_z w64 row)) (bytes-append (le_bytes 2 0) [] a bytes-none) b in
      let r : List ℕ = 0 ∷ (le_bytes 2 0 ++ [] ++ le_bytes 8 (of_z w64 row)) in
      bytes-append r [] (bytes-cons 0 (le_bytes 2 0 ++ [] ++ le_bytes 8 (of_z w64 row)) (omega arith) c) bytes-none

  record-length : length (all encode_record rows) ≡ 11
  unfolding all encode_record encode_text
  record-length = simp (length-append, length-le_bytes)

  body_bytes : Bytes (encode_body time rows)
  unfolding encode_body padded
  body_bytes =
      bytes-append (encode_batch time rows) (replicate (page_size - length (encode_batch time rows)) 0) (batch-bytes time rows record-bytes)
      (bytes-zeros (page_size - length (encode_batch time rows)))

  pub body : Body time row (encode_body time rows)
  unfolding batch_in
  body =
      record {
        long = body-length time rows (omega (arith, batch-length time rows, record-length));
        bytes = body_bytes;
        decoded = body-decodes time rows good;
        says = rw (body-commit_ts_of time rows good, body-records time rows good);
      }
