-- `mvcc_build::put_record` meets its contract. Assumes nothing.
use Rattle.mvcc_build.proofs.Laws.{head-stored}
use mir.ValLaws.{to_z-of_z}
use mir.Syntax.{w64}
use Rattle.mvcc_build.proofs.put_record.Goals as goal

pub returns : goal.returns
returns c =
    let a = c.args in
    head-stored a.body.now a.at c.requires.0 a.op a.table.now a.rowid a.zeros c.requires.1 c.put_text.ensures (rw (c.cast_unsigned.ensures, to_z-of_z w64 a.rowid c.ranges.rowid) at c.write_u64.ensures.1) c.write_zeros.ensures.1
