use Rattle.pager_checkpoint.proofs.Areas.{grow-none, grow-more}
use Rattle.pager_checkpoint.proofs.grow.Goals as goal

pub returns-then-to-len : goal.returns-then-to-len
returns-then-to-len c = grow-none c.args.area.now c.args.len c.args.to c.if-to-len.true

pub returns : goal.returns
returns c = grow-more c.args.area.now c.args.len c.args.to c.if-to-len.false c.requires c.write_zeros.ensures.1
