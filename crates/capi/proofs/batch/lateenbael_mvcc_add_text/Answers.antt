use mathlib.Core.Path.{ap, ◌∙◌}
use Rattle.capi.specs.Batch.{added_numbers}
use Rattle.capi.proofs.batch.lateenbael_mvcc_add_text.Goals as goal

pub returns : goal.returns
returns c =
    let h = rw c.builder_in.ensures at c.add_text.ensures in
    record { value = c.added_numbers.ensures ∙ ap added_numbers h.value; body_after = h.body_after }
