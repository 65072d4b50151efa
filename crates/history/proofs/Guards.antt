-- The guards of specs/Guards.antt, proved. Assumes nothing.
use mathlib.Core.Path.{◌≡◌, refl}
use Prim.Native.Nat.{ℕ}
use native.Mathlib.Omega.{arith}
use lib.ListN.{length, length-replicate}
use Rattle.le.specs.Le.{Bytes}
use Rattle.page.specs.Page.{page_size}
use Rattle.mvcc.proofs.Bytes.{bytes-zeros}
use Rattle.wal.specs.Recovery.{wal_area}
use Rattle.pager_state.specs.Opening.{first_header}
use Rattle.pager_state.specs.World.{main_area_size, staging_area, page_limit}
use Rattle.history.specs.Run.{start}
use Rattle.history.specs.Guards.{zeros, zero_areas, Met, LogFullGuard, BegunGuard, BatchFullGuard, CommitGuard, CommitEndsGuard, EmptyCommitGuard, CheckpointGuard, SoundGuard, TableGuard, OpeningGuard, HeaderGuard, PageGuard, NewPageGuard, BatchGuard, NewBatchGuard, FilledGuard, BodyGuard}
use Rattle.history.proofs.Demand3Holds.{demand3}
use Rattle.history.proofs.GuardRefusals.{full-told, told-full, begun-none, none-begun, begun-told, told-begun, batch-full-told, batch-told-full}
use Rattle.history.proofs.GuardCheckpoint.{start-begins, checkpoint-leaves, checkpointed-answer}
use Rattle.history.proofs.GuardCommit.{commit-ends}
use Rattle.history.proofs.GuardNew.{made-framed, new-made, new-begun, committed-alone}
use Rattle.history.proofs.GuardHistories.{made-history}
use Rattle.history.proofs.GuardTable.{table_taken}
use Rattle.history.proofs.GuardReached.{reached-after, opening-taken}
use Rattle.history.proofs.GuardPages.{header-back, reads-back}
use Rattle.history.proofs.GuardFirst.{keeps}
use Rattle.history.proofs.GuardBatches.{returned, recovers, fills}
use Rattle.history.proofs.GuardBody.{body}
use Rattle.history.specs.Demand3.{Sized}
use Rattle.history.proofs.Opening.{sized-fine}

-- ---- what they ask can be met

length-zeros : (n : ℕ) → length (zeros n) ≡ n
unfolding zeros
length-zeros n = length-replicate n 0

bytes-of-zeros : (n : ℕ) → Bytes (zeros n)
unfolding zeros
bytes-of-zeros n = bytes-zeros n

zeros-sized : Sized zero_areas
unfolding zero_areas
zeros-sized = record { table = length-zeros page_limit; staging = length-zeros staging_area; log = length-zeros wal_area; main = length-zeros main_area_size }

pub met : Met
unfolding zero_areas first_header
met =
    record {
      areas = sized-fine zero_areas 0 0 zeros-sized (omega arith) (omega arith);
      lent = zeros-sized;
      good = record { low = omega arith; high = omega arith; oldest = omega arith; newest = omega arith };
      words = record { count = omega arith; root = omega arith; version = omega arith; freelist = omega arith };
      two = refl;
      long = length-zeros page_size;
      bytes = bytes-of-zeros page_size;
      row = record { sfits = omega arith };
    }

-- ---- of the definitions alone

pub log-full : LogFullGuard
unfolding LogFullGuard
log-full g w h = (full-told g w h, told-full g w h)

pub begun : BegunGuard
unfolding BegunGuard
begun g w h = (begun-told g w h, told-begun g w h)

pub batch-full : BatchFullGuard
unfolding BatchFullGuard
batch-full p l body = (batch-full-told p l body, batch-told-full p l body)

pub new-commit : CommitGuard
unfolding CommitGuard
new-commit t l m g salt f s z h k j staging e = none-begun _ _ h (new-begun t l m g salt f s z h k j staging e)

pub commit-end : CommitEndsGuard
unfolding CommitEndsGuard
commit-end g w h salt z few b = commit-ends g w h salt z few (begun-none g w h b)

pub empty-commit : EmptyCommitGuard
unfolding EmptyCommitGuard
empty-commit t l m g salt f h k c next = committed-alone t l m g salt f h k c next

pub checkpoint : CheckpointGuard
unfolding CheckpointGuard
checkpoint g w salt z i b = let e = start-begins g w b in (checkpointed-answer g w salt z i e, checkpoint-leaves g w salt z i e)

pub filled : FilledGuard
unfolding FilledGuard
filled t l m g salt f small body h n page bytes decoded k c e = fills t l m g salt f h k c body (record { page = page; bytes = bytes; decoded = decoded }) n e

pub framed : SoundGuard
unfolding SoundGuard
framed t l m g salt f small es typed = made-framed _ (made-history es (start t l m g salt) (new-made t l m g salt f))

pub table : TableGuard
unfolding TableGuard
table t l m g salt f small es typed h = table_taken _ _ h (made-history es (start t l m g salt) (new-made t l m g salt f))

-- ---- by demand 3

pub opening : OpeningGuard
unfolding OpeningGuard
opening t l m g salt f small es typed lent z = opening-taken demand3 t l m g salt f small (reached-after (start t l m g salt) es typed) lent z

pub header : HeaderGuard
unfolding HeaderGuard
header t l m g salt f small es typed h next v s c = header-back demand3 t l m g salt f small (reached-after (start t l m g salt) es typed) h next v s c

pub page : PageGuard
unfolding PageGuard
page t l m g salt f small es typed n bytes h next b v s e c a z =
    reads-back demand3 t l m g salt f small (reached-after (start t l m g salt) es typed) n bytes h next b v s e c a z

pub new-page : NewPageGuard
unfolding NewPageGuard
new-page t l m g salt f small bytes h next long b v k two s = keeps t l m g salt f bytes long h next k two demand3 small b v s

pub batch : BatchGuard
unfolding BatchGuard
batch t l m g salt f small es typed body h next b v s a c few =
    returned demand3 t l m g salt f small (reached-after (start t l m g salt) es typed) body h next b v s a c few

pub new-batch : NewBatchGuard
unfolding NewBatchGuard
new-batch t l m g salt f small body h next page bytes decoded v k c s =
    recovers t l m g salt f h k c demand3 small body (record { page = page; bytes = bytes; decoded = decoded }) next v s

pub deletion : BodyGuard
unfolding BodyGuard
deletion time row early fits = body time row early fits
