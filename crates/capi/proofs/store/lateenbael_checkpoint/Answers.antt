use Rattle.capi_answers.specs.declared.Answered.{Answered}
use Rattle.capi_answers.specs.Answers.{counted_as}
use Rattle.pager_state.specs.Steps.{checkpoint_answer, checkpoint_world}
use Rattle.capi.proofs.Calls.{by-world}
use Rattle.capi_answers.proofs.Agree.{checkpoint-store}
use Rattle.capi.proofs.store.lateenbael_checkpoint.Goals as goal

pub returns : goal.returns
returns c =
    let a = c.args in
    let both = by-world counted_as (λ (r : Answered). r.store) (checkpoint_answer a.staging.now) (λ w. checkpoint_world a.staging.now w a.salt) (checkpoint-store c.checkpoint.result.answer c.checkpoint.result.pager) c.from.ensures (c.checkpoint.ensures.answer_value, c.checkpoint.ensures.later_after) c.counted_as.ensures in
    record { result_value = both.0; main_after = both.1 }
