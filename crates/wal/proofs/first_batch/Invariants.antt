use Rattle.std.proofs.Common.{◌≡◌, drop}
use Rattle.wal.specs.Recovery.{chunks}
use Rattle.wal.specs.Read.{batch_from}
use Rattle.wal.proofs.first_batch.Given as goal

abbrev pub invariant-loop-i : goal.invariant-loop-i
invariant-loop-i l = batch_from l.i (drop l.i (chunks l.file)) ≡ batch_from l.index (drop l.index (chunks l.file))
