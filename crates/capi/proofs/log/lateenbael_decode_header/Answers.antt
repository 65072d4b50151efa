use mathlib.Core.Path.{ap, ◌∙◌}
use Rattle.capi_answers.specs.Answers.{header_as}
use Rattle.capi.proofs.log.lateenbael_decode_header.Goals as goal

pub returns : goal.returns
returns c = c.header_as.ensures ∙ ap header_as c.decode_header.ensures
