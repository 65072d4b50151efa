use Rattle.capi.proofs.batch.no_value.Goals as goal

pub returns : goal.returns
returns c = rw (c.value_numbers.ensures, c.no_place.ensures)
