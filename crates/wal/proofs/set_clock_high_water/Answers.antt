use Rattle.std.proofs.Common.{le-leb}
use borrow.Author.Tests.{lt-leb}
use Rattle.wal.specs.Write.{with_clock, clock_answer}
use Rattle.wal.proofs.set_clock_high_water.Goals as goal

pub returns-then-value-wal : goal.returns-then-value-wal
unfolding clock_answer
returns-then-value-wal c = rw (lt-leb _ _ c.if-value-wal.true)

pub returns : goal.returns
unfolding clock_answer with_clock
returns c = rw (le-leb _ _ c.if-value-wal.false)
