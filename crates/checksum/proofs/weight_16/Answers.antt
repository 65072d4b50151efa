use Rattle.std.proofs.Common.{rules}
use Rattle.checksum.proofs.Words.{weight-words}
use Rattle.checksum.proofs.weight_16.Goals as goal

pub returns : goal.returns
returns c =
    weight-words c.args.bytes.now (search rules) (search rules) c.read_u64.ensures c.read_u64-2.ensures c.weight_8.ensures.0 c.weight_8-2.ensures.0
