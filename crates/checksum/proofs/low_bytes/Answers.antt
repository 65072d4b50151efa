use Rattle.std.proofs.Common.{refl}
use lib.Bits.{and_le_r}
use Rattle.checksum.proofs.low_bytes.Goals as goal

pub returns : goal.returns
returns c = (refl, and_le_r c.args.w 71777214294589695)
