use Rattle.std.proofs.Common.{refl}
use Rattle.wal.specs.Write.{empty_wal}
use Rattle.wal.proofs.Wal.empty.Goals as goal

pub returns : goal.returns
unfolding empty_wal
returns c = refl
