use Rattle.pager_state.specs.declared.Pager.{Pager}
use Rattle.capi_answers.specs.Answers.{done_as}
use Rattle.capi.proofs.Calls.{by-with}
use Rattle.pager_state.specs.Batches.{append_batch, append_after}
use Rattle.pager_state.specs.declared.Outcome.{Outcome}
use Rattle.capi.proofs.store.lateenbael_append_mvcc_batch.Goals as goal

pub returns : goal.returns
returns c =
    let a = c.args in
    let both = by-with (λ (x : Outcome (Unit {0})). done_as x.answer x.pager) (λ (p : Pager). append_batch p a.log.now a.body.now) (λ (p : Pager). append_after p a.log.now a.body.now) c.from.ensures (c.append_mvcc_batch.ensures.value, c.append_mvcc_batch.ensures.log_after) c.done_as.ensures in
    record { result_value = both.0; log_after = both.1 }
