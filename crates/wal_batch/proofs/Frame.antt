-- The frame of an appended batch: good, uncommitted, and saying what the body said. Assumes nothing.
use mathlib.Core.Path.{◌≡◌, ap, ◌∙◌}
use mathlib.Core.Bool.{true, false}
use mathlib.Core.List.{List, [], ◌∷◌, ◌++◌}
use Prim.Native.Nat.{ℕ, ◌+◌, ◌*◌, ◌^◌, ◌≤◌, ◌<◌}
use native.Mathlib.Omega.{arith}
use lib.ListN.{length}
use Rattle.le.specs.Le.{Bytes}
use Rattle.frame.specs.Frame.{encode_frame, body_of}
use Rattle.frame.proofs.Stores.{length-encode_frame}
use Rattle.frame.proofs.RoundTrip.{body_back}
use Rattle.mvcc.specs.Seen.{decodes, commit_ts_of, records, canonical}
use Rattle.mvcc.proofs.Canonical.{canonical-decodes, canonical-commit_ts_of, canonical-records, canonical-length}
use Rattle.wal.specs.Header.{wal_header_in}
use Rattle.wal.specs.Recovery.{chunks, is_commit_frame, is_batch, good, batches_in, Recovered, recovered, committed_frames, wal_of}
use Rattle.wal.specs.Write.{with_frame}
use Rattle.wal.specs.declared.Wal.{Wal}
use Rattle.wal.proofs.Frames.{page-encoded, count-encoded, good-batch, committed-snoc, batches_in-append}
use Rattle.wal.proofs.Recovered.{extended}
use Rattle.wal.proofs.Writing.{longer-recovered, longer-good, longer-known}

-- a body that is appended
pub record Body (s : List ℕ) : Type 0 where
  pub bytes : Bytes s
  pub small : length s ≤ 4096
  pub decoded : decodes s ≡ true

abbrev pub batch_frame : ℕ → List ℕ → List ℕ
batch_frame salt s = encode_frame 4294967295 0 salt (canonical s)

pub canonical-page : (s : List ℕ) → Body s → length (canonical s) ≡ 4096
canonical-page s b = canonical-length s b.bytes b.decoded b.small

module _ (s : List ℕ) (b : Body s) (salt : ℕ) where
  pub frame-length : length (batch_frame salt s) ≡ 4112
  frame-length = length-encode_frame 4294967295 0 salt (canonical s) (canonical-page s b)

  -- it is a batch's, and uncommitted
  pub frame-batch : is_batch (batch_frame salt s) ≡ true
  frame-batch = rw (page-encoded 4294967295 0 salt (canonical s) (omega arith))

  pub frame-open : is_commit_frame (batch_frame salt s) ≡ false
  frame-open = rw (count-encoded 4294967295 0 salt (canonical s) (omega arith))

  -- its body decodes to the same commit time and the same records
  pub frame-body : body_of (batch_frame salt s) ≡ canonical s
  frame-body = body_back 4294967295 0 salt (canonical s)

  pub frame-commit_ts_of : commit_ts_of (body_of (batch_frame salt s)) ≡ commit_ts_of s
  frame-commit_ts_of = rw frame-body (canonical-commit_ts_of s b.bytes b.decoded)

  pub frame-records : records (body_of (batch_frame salt s)) ≡ records s
  frame-records = rw frame-body (canonical-records s b.bytes b.decoded)

  pub frame-good : salt < 2 ^ 32 → good salt (batch_frame salt s) ≡ true
  frame-good h = good-batch 0 salt (canonical s) h ∙ canonical-decodes s b.bytes b.decoded

-- ---- behind good frames

module _ (n : ℕ) (l : List ℕ) (e : length l ≡ 32 + 4112 * n) (a : (recovered l).frames ≡ chunks l) (s : List ℕ) (b : Body s) (h : (wal_header_in l).salt < 2 ^ 32) where
  abbrev added : List ℕ
  added = batch_frame (wal_header_in l).salt s

  -- what is read afterwards is what was, and the batch behind it
  pub batch-recovered : recovered (l ++ added) ≡ extended (recovered l) added
  batch-recovered = longer-recovered n l e a 4294967295 0 (canonical s) (canonical-page s b) (frame-good s b (wal_header_in l).salt h)

  -- again all chunks are good frames
  pub batch-chunks : (recovered (l ++ added)).frames ≡ chunks (l ++ added)
  batch-chunks = longer-good n l e a 4294967295 0 (canonical s) (canonical-page s b) (frame-good s b (wal_header_in l).salt h)

  -- nothing more is committed
  pub batch-committed : committed_frames (recovered (l ++ added)) ≡ committed_frames (recovered l)
  batch-committed = ap committed_frames batch-recovered ∙ committed-snoc (recovered l).frames added ∙ rw (frame-open s b (wal_header_in l).salt)

  -- the batch is the last
  pub batch-last : batches_in (recovered (l ++ added)).frames ≡ batches_in (recovered l).frames ++ (added ∷ [])
  unfolding batches_in
  batch-last =
      ap (λ (r : Recovered). batches_in r.frames) batch-recovered ∙ batches_in-append (recovered l).frames (added ∷ []) ∙ rw (frame-batch s b (wal_header_in l).salt)

  -- the log's numbers are those that an opening finds
  pub batch-known : {w : Wal} → n + 1 < 2 ^ 64 → w ≡ wal_of (length l) (recovered l) → wal_of (length l + 4112) (recovered (l ++ added)) ≡ with_frame w 0
  batch-known small k = longer-known n l e a 4294967295 0 (canonical s) (canonical-page s b) (frame-good s b (wal_header_in l).salt h) small (omega arith) k
