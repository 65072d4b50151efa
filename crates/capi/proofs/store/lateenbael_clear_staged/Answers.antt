use Rattle.capi_answers.specs.Answers.{done_as}
use Rattle.capi.proofs.Calls.{by}
use Rattle.pager_state.specs.Staging.{clear_staged}
use Rattle.pager_state.specs.declared.Outcome.{Outcome}
use Rattle.capi.proofs.store.lateenbael_clear_staged.Goals as goal

pub returns : goal.returns
returns c = by (λ (x : Outcome (Unit {0})). done_as x.answer x.pager) clear_staged c.from.ensures c.clear_staged.ensures c.done_as.ensures
