use Rattle.capi_answers.specs.declared.Answered.{Answered}
use Rattle.capi_answers.specs.Answers.{counted_as}
use Rattle.pager_state.specs.Steps.{commit_answer, commit_world}
use Rattle.capi.proofs.Calls.{by-world}
use Rattle.capi_answers.proofs.Agree.{commit-store}
use Rattle.capi.proofs.store.lateenbael_commit.Goals as goal

pub returns : goal.returns
returns c =
    let a = c.args in
    let both = by-world counted_as (λ (r : Answered). r.store) (λ w. commit_answer a.staging.now w a.new_header) (λ w. commit_world a.staging.now w a.new_header a.salt) (commit-store c.commit.result.answer c.commit.result.pager) c.from.ensures (c.commit.ensures.answer_value, c.commit.ensures.later_after) c.counted_as.ensures in
    record { result_value = both.0; main_after = both.1 }
