use Rattle.std.proofs.Common.{◌≡◌, take}
use Rattle.wal.specs.Recovery.{chunks}
use Rattle.pager_open.proofs.Clock.{greatest_in}
use Rattle.pager_open.proofs.greatest_commit_ts.Given as goal

abbrev pub invariant-loop-index : goal.invariant-loop-index
invariant-loop-index l = l.greatest ≡ greatest_in (take l.index (chunks l.file))
