use Rattle.capi.proofs.batch.refused.Goals as goal

pub returns : goal.returns
returns c = rw c.number.ensures
