use mathlib.Core.Path.{ap, ◌∙◌}
use mathlib.Core.Bool.{not}
use lib.Dec.{eqb}
use Rattle.pager_state.specs.Overlay.{slots}
use Rattle.pager_state.specs.Staging.{stage_refusal}
use Rattle.capi_answers.specs.Answers.{refusal_number}
use Rattle.capi.proofs.Calls.{number-told}
use Rattle.capi.proofs.store.lateenbael_stage_in.Goals as goal

pub returns : goal.returns
returns c =
    let a = c.args in
    let s = c.stage_in-done.ensures in
    let v = stage_refusal (not (eqb a.job 0)) (slots a.staged_count a.staged.now) a.staging.now a.page_num a.bytes.now in
    record { refusal_value = c.refusal_number.ensures ∙ ap refusal_number s.answer_value ∙ number-told v; staged_after = s.staged_after; staging_after = s.staging_after }
