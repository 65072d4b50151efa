use mathlib.Core.Path.{ap, ◌∙◌}
use Rattle.capi_answers.specs.Answers.{refusal_number}
use Rattle.capi.proofs.store.lateenbael_may_read.Goals as goal

pub returns : goal.returns
returns c = c.refusal_number.ensures ∙ ap refusal_number c.may_read.ensures
