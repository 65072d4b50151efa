-- `mvcc_build::add_integer` meets its contract. Assumes nothing.
use mathlib.Core.List.{[]}
use Rattle.mvcc_build.proofs.Laws.{column-way, integer-bytes}
use Rattle.mvcc.specs.Batch.{integer}
use mir.ValLaws.{to_z-of_z}
use mir.Syntax.{w64}
use Rattle.mvcc_build.proofs.add_integer.Goals as goal

pub returns : goal.returns
returns c =
    let a = c.args in
    let both = column-way a.b a.body.now a.name.now 1 8 c.cast_unsigned.result [] (integer a.value) (integer-bytes a.value (rw (to_z-of_z w64 a.value c.ranges.value) at c.cast_unsigned.ensures)) c.is_text.ensures c.add_column.ensures.value c.add_column.ensures.body_after in
    record { value = both.0; body_after = both.1 }
