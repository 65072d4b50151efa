use Rattle.pager_state.specs.declared.Pager.{Pager}
use Rattle.capi_answers.specs.Answers.{done_as}
use Rattle.capi.proofs.Calls.{by-with}
use Rattle.pager_state.specs.Staging.{stage_page, stage_after}
use Rattle.pager_state.specs.declared.Outcome.{Outcome}
use Rattle.capi.proofs.store.lateenbael_stage_page.Goals as goal

pub returns : goal.returns
returns c =
    let a = c.args in
    let both = by-with (λ (x : Outcome (Unit {0})). done_as x.answer x.pager) (λ (p : Pager). stage_page p a.staging.now a.page_num a.bytes.now) (λ (p : Pager). stage_after p a.staging.now a.page_num a.bytes.now) c.from.ensures (c.stage_page.ensures.value, c.stage_page.ensures.staging_after) c.done_as.ensures in
    record { result_value = both.0; staging_after = both.1 }
