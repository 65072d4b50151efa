use Rattle.capi_answers.specs.Answers.{mode_as}
use Rattle.capi.proofs.Calls.{by}
use Rattle.pager_state.specs.Queries.{access_mode}
use Rattle.capi.proofs.store.lateenbael_access_mode.Goals as goal

pub returns : goal.returns
returns c = by mode_as access_mode c.from.ensures c.access_mode.ensures c.mode_as.ensures
