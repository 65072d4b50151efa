use Rattle.wal.specs.Read.{next_batch}
use Rattle.wal.proofs.next_batch.Goals as goal

pub returns : goal.returns
unfolding next_batch
returns c = rw c.part.ensures at c.first_batch.ensures
