-- What crates above cite of a batch's body: they never see how its records are found. Assumes nothing.
use mathlib.Core.Path.{◌≡◌, sym, ap, ◌∙◌}
use mathlib.Core.Bool.{true}
use mathlib.Core.List.{List, ◌++◌}
use Prim.Native.Nat.{ℕ, ◌-◌, ◌≤◌}
use native.Mathlib.Omega.{arith}
use lib.ListN.{length, replicate, length-append, length-replicate}
use Rattle.std.specs.Prelude.{Ok}
use Rattle.std.specs.Prelude.{None}
use Rattle.le.specs.Le.{Bytes}
use Rattle.refusal.specs.Refusal.{accepts, number_of}
use Rattle.refusal.proofs.Rows.{accepted}
use Rattle.refusal.proofs.Judged.{accepts-none}
use Rattle.mvcc.specs.Decode.{batch_of}
use Rattle.mvcc.specs.Batch.{Rec, encode_batch, padded, encode_body, GoodBatch}
use Rattle.mvcc.specs.Seen.{decode_refusal, refusal_of, decodes, commit_ts_of, records, canonical}
use Rattle.mvcc.proofs.Bytes.{bytes-append, bytes-zeros}
use Rattle.mvcc.proofs.Whole.{time-read, encoded-decodes, encoded-records, encoded-batch, held-good, held-size, held_bytes, held-batch}

-- ---- decoding what was encoded, with anything behind it

module _ (t : ℕ) (rs : List Rec) (pad : List ℕ) (g : GoodBatch t rs) where
  -- it decodes
  pub decodes-encode : decodes (encode_batch t rs ++ pad) ≡ true
  decodes-encode = encoded-decodes t rs pad g

  -- its commit time and its records come back
  pub commit_ts_of-encode : commit_ts_of (encode_batch t rs ++ pad) ≡ t
  unfolding commit_ts_of
  commit_ts_of-encode = time-read t rs pad g

  pub records-encode : records (encode_batch t rs ++ pad) ≡ rs
  records-encode = encoded-records t rs pad g

  -- decoding ends behind its bytes
  pub batch_of-encode : batch_of (encode_batch t rs ++ pad) ≡ Ok (record { commit_ts = t; records = length rs; end = length (encode_batch t rs) })
  batch_of-encode = encoded-batch t rs pad g

-- ---- the body that `encode` writes

-- it has 4,096 bytes
pub body-length : (t : ℕ) (rs : List Rec) → length (encode_batch t rs) ≤ 4096 → length (encode_body t rs) ≡ 4096
unfolding encode_body padded
body-length t rs h = simp (length-append, length-replicate) (omega arith)

module _ (t : ℕ) (rs : List Rec) (g : GoodBatch t rs) where
  pub body-decodes : decodes (encode_body t rs) ≡ true
  unfolding encode_body padded
  body-decodes = decodes-encode t rs (replicate (4096 - length (encode_batch t rs)) 0) g

  pub body-commit_ts_of : commit_ts_of (encode_body t rs) ≡ t
  unfolding encode_body padded
  body-commit_ts_of = commit_ts_of-encode t rs (replicate (4096 - length (encode_batch t rs)) 0) g

  pub body-records : records (encode_body t rs) ≡ rs
  unfolding encode_body padded
  body-records = records-encode t rs (replicate (4096 - length (encode_batch t rs)) 0) g

  -- it is its own canonical form
  pub body-canonical : canonical (encode_body t rs) ≡ encode_body t rs
  unfolding canonical
  body-canonical = rw (body-commit_ts_of, body-records)

-- ---- a body that decodes

-- it has no refusal, and no number
module _ (s : List ℕ) where
  pub decodes-none : decodes s ≡ true → decode_refusal s ≡ None
  unfolding decodes
  decodes-none d = accepts-none (decode_refusal s) d

  pub none-decodes : decode_refusal s ≡ None → decodes s ≡ true
  unfolding decodes
  none-decodes e = ap accepts e

  pub decodes-zero : decodes s ≡ true → refusal_of s ≡ 0
  unfolding refusal_of
  decodes-zero d = ap number_of (decodes-none d)

  pub zero-decodes : refusal_of s ≡ 0 → decodes s ≡ true
  unfolding refusal_of
  zero-decodes z = none-decodes (accepted (decode_refusal s) z)

module _ (s : List ℕ) (sb : Bytes s) (d : decodes s ≡ true) where
  -- its fields fit their widths, and its texts are UTF-8
  pub records-good : GoodBatch (commit_ts_of s) (records s)
  records-good = held-good s sb d

  -- its encoding is no longer than itself, and ends where decoding ended
  pub encode-length : length (encode_batch (commit_ts_of s) (records s)) ≤ length s
  encode-length = held-size s sb d

  pub batch_of-is : batch_of s
      ≡ Ok (record { commit_ts = commit_ts_of s; records = length (records s); end = length (encode_batch (commit_ts_of s) (records s)) })
  batch_of-is = held-batch s sb d

  -- its canonical form decodes, to the same commit time and the same records
  pub canonical-decodes : decodes (canonical s) ≡ true
  unfolding canonical
  canonical-decodes = body-decodes (commit_ts_of s) (records s) records-good

  pub canonical-commit_ts_of : commit_ts_of (canonical s) ≡ commit_ts_of s
  unfolding canonical
  canonical-commit_ts_of = body-commit_ts_of (commit_ts_of s) (records s) records-good

  pub canonical-records : records (canonical s) ≡ records s
  unfolding canonical
  canonical-records = body-records (commit_ts_of s) (records s) records-good

  -- it is its own canonical form
  pub canonical-again : canonical (canonical s) ≡ canonical s
  unfolding canonical
  canonical-again = body-canonical (commit_ts_of s) (records s) records-good

  -- its elements are bytes
  pub canonical-bytes : Bytes (canonical s)
  unfolding canonical encode_body padded
  canonical-bytes =
      bytes-append (encode_batch (commit_ts_of s) (records s)) (replicate (4096 - length (encode_batch (commit_ts_of s) (records s))) 0)
      (held_bytes s sb d) (bytes-zeros (4096 - length (encode_batch (commit_ts_of s) (records s))))

  -- and it has 4,096 of them
  pub canonical-length : length s ≤ 4096 → length (canonical s) ≡ 4096
  unfolding canonical
  canonical-length h = body-length (commit_ts_of s) (records s) (omega (arith, encode-length))

-- ---- two bodies with one canonical form

module _ (s r : List ℕ) (sb : Bytes s) (rb : Bytes r) (sd : decodes s ≡ true) (rd : decodes r ≡ true) (e : canonical s ≡ canonical r) where
  -- say the same
  pub same-commit_ts_of : commit_ts_of s ≡ commit_ts_of r
  same-commit_ts_of = sym (canonical-commit_ts_of s sb sd) ∙ ap commit_ts_of e ∙ canonical-commit_ts_of r rb rd

  pub same-records : records s ≡ records r
  same-records = sym (canonical-records s sb sd) ∙ ap records e ∙ canonical-records r rb rd
