-- `mvcc_build::put_text` meets its contract. Assumes nothing.
use Rattle.mvcc_build.proofs.Laws.{text-stored}
use Rattle.mvcc_build.proofs.put_text.Goals as goal

pub returns : goal.returns
returns c = text-stored c.args.body.now c.args.at c.requires.0 c.args.t.now c.requires.1 c.write_u16.ensures.1 c.put_bytes.ensures
