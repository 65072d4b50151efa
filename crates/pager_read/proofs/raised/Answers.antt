use Rattle.pager_read.proofs.Clock.{kept}
use Rattle.pager_read.proofs.raised.Goals as goal

pub returns : goal.returns
returns c = rw (c.unwrap_or.ensures, c.set_clock_high_water.ensures, kept c.args.wal c.args.value)
