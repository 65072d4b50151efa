use Rattle.std.proofs.Common.{rules}
use Rattle.le.proofs.Fields.{from_bytes}
use Rattle.le.proofs.read_u64.Goals as goal

pub returns : goal.returns
returns c = let h = c.bytes_at.type_inv in from_bytes 7 c.bytes_at.result (search rules) c.from_le_bytes.ensures c.bytes_at.ensures
