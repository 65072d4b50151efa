use Rattle.pager_state.specs.declared.Pager.{Pager}
use Rattle.capi_answers.specs.Answers.{done_as}
use Rattle.capi.proofs.Calls.{by}
use Rattle.pager_state.specs.Queries.{observe_clock}
use Rattle.pager_state.specs.declared.Outcome.{Outcome}
use Rattle.capi.proofs.store.lateenbael_observe_clock_high_water.Goals as goal

pub returns : goal.returns
returns c =
    let a = c.args in
    by (λ (x : Outcome (Unit {0})). done_as x.answer x.pager) (λ (p : Pager). observe_clock p a.value) c.from.ensures c.observe_clock_high_water.ensures c.done_as.ensures
