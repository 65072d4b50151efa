use Rattle.capi_answers.specs.declared.StepAnswered.{StepAnswered}
use Rattle.capi_answers.specs.Answers.{stepped_as}
use Rattle.pager_state.specs.Steps.{step_answer, stepped}
use Rattle.capi_answers.proofs.Agree.{step-store}
use Rattle.capi.proofs.Calls.{by-world}
use Rattle.capi.proofs.store.lateenbael_next_step.Goals as goal

pub returns : goal.returns
returns c =
    let a = c.args in
    let both = by-world stepped_as (λ (r : StepAnswered). r.store) (step_answer a.staging.now) (stepped a.staging.now) (step-store c.next_step.result.answer c.next_step.result.pager) c.from.ensures (c.next_step.ensures.answer_value, c.next_step.ensures.later_after) c.stepped_as.ensures in
    record { result_value = both.0; main_after = both.1 }
