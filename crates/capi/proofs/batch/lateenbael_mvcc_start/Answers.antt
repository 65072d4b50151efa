use mathlib.Core.Path.{ap, ◌∙◌}
use Rattle.capi.specs.Batch.{added_numbers}
use Rattle.capi.proofs.batch.lateenbael_mvcc_start.Goals as goal

pub returns : goal.returns
returns c = record { value = c.added_numbers.ensures ∙ ap added_numbers c.start.ensures.value; body_after = c.start.ensures.body_after }
