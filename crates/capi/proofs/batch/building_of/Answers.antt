use Rattle.capi.proofs.batch.building_of.Goals as goal

pub returns : goal.returns
returns c = rw (c.columns_of.ensures, c.counted_of.ensures)
