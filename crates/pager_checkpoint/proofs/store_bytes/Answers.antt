use Rattle.pager_checkpoint.proofs.Areas.{bytes-stored}
use Rattle.pager_checkpoint.proofs.store_bytes.Goals as goal

pub returns : goal.returns
returns c = bytes-stored c.args.area.now c.args.len c.args.at c.args.bytes.now c.requires c.grow.ensures c.write_bytes.ensures.1 c.max.ensures
