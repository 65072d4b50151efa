-- `mvcc_build::begin_present` meets its contract. Assumes nothing.
use Rattle.mvcc_build.proofs.Laws.{present-way}
use mir.ValLaws.{to_z-of_z}
use mir.Syntax.{w64}
use Rattle.mvcc_build.proofs.begin_present.Goals as goal

pub returns : goal.returns
returns c =
    let a = c.args in
    let f = to_z-of_z w64 a.rowid c.ranges.rowid in
    let both = present-way a.b a.body.now a.table.now a.rowid c.is_text.ensures (rw f at c.add_record.ensures.value) (rw f at c.add_record.ensures.body_after) in
    record { value = both.0; body_after = both.1 }
