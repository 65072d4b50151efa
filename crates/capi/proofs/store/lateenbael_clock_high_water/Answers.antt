use Rattle.capi_answers.specs.Answers.{clock_as}
use Rattle.capi.proofs.Calls.{by}
use Rattle.pager_state.specs.Queries.{clock_high_water_of}
use Rattle.capi.proofs.store.lateenbael_clock_high_water.Goals as goal

pub returns : goal.returns
returns c = by clock_as clock_high_water_of c.from.ensures c.clock_high_water.ensures c.clock_as.ensures
