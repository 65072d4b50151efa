use mathlib.Core.Path.{ap, ◌∙◌}
use Rattle.capi_answers.specs.Answers.{refusal_number}
use Rattle.capi.proofs.log.lateenbael_encode_wal_header.Goals as goal

pub returns : goal.returns
returns c = let h = c.encode_wal_header.ensures in record { value = c.refusal_number.ensures ∙ ap refusal_number h.0; log_after = h.1 }
