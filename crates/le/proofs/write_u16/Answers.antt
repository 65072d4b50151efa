use Rattle.le.proofs.Stores.{stored-bytes}
use Rattle.le.proofs.write_u16.Goals as goal

pub returns : goal.returns
returns c =
    let a = c.args in
    stored-bytes a.buf.now a.at 2 a.v c.to_le_bytes.ensures c.write_bytes.ensures.0 c.write_bytes.ensures.1
