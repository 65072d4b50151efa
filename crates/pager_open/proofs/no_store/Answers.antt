use Rattle.wal.specs.Write.{empty_wal}
use Rattle.pager_state.specs.Opening.{no_pager}
use Rattle.pager_open.proofs.no_store.Goals as goal

pub returns : goal.returns
unfolding no_pager empty_wal
returns c = rw c.empty_wal.ensures at c.open_store.ensures
