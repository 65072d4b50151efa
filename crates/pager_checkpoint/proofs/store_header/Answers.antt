use Rattle.pager_checkpoint.proofs.Areas.{header-stored}
use Rattle.pager_checkpoint.proofs.store_header.Goals as goal

pub returns : goal.returns
returns c = header-stored c.args.main.now c.args.len c.args.header c.requires c.encode_header.ensures.1 c.max.ensures
