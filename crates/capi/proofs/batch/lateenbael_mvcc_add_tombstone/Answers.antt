use mir.ValLaws.{to_z-of_z}
use mir.Syntax.{w64}
use mathlib.Core.Path.{ap, ◌∙◌}
use Rattle.capi.specs.Batch.{added_numbers}
use Rattle.capi.proofs.batch.lateenbael_mvcc_add_tombstone.Goals as goal

pub returns : goal.returns
returns c =
    let f = to_z-of_z w64 c.args.rowid c.ranges.rowid in
    let h = rw (c.builder_in.ensures, f) at c.add_tombstone.ensures in
    record { value = c.added_numbers.ensures ∙ ap added_numbers h.value; body_after = h.body_after }
