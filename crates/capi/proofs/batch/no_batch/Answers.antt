use Rattle.capi.proofs.batch.no_batch.Goals as goal

pub returns : goal.returns
returns c = rw c.number.ensures
