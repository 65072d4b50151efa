use Rattle.wal.specs.Write.{empty_wal, created_header}
use Rattle.pager_open.specs.Judging.{committed_wal}
use Rattle.pager_open.proofs.empty_wal.Goals as goal

pub returns : goal.returns
unfolding committed_wal empty_wal created_header
returns c = c.committed_wal.ensures
