use mathlib.Core.Path.{refl}
use Rattle.pager_open.specs.Judging.{committed_wal}
use Rattle.pager_open.proofs.committed_wal.Goals as goal

pub returns : goal.returns
unfolding committed_wal
returns c = refl
