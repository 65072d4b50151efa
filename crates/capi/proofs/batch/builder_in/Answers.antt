use Rattle.capi.proofs.batch.builder_in.Goals as goal

pub returns : goal.returns
returns c = rw c.last_in.ensures
