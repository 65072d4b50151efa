use Rattle.capi_answers.specs.Answers.{header_as}
use Rattle.capi.proofs.Calls.{by}
use Rattle.pager_state.specs.Queries.{header}
use Rattle.capi.proofs.store.lateenbael_header.Goals as goal

pub returns : goal.returns
returns c = by header_as header c.from.ensures c.header.ensures c.header_as.ensures
