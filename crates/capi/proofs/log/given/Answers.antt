use Rattle.capi.proofs.log.given.Goals as goal

pub returns : goal.returns
returns c = rw c.from.ensures
