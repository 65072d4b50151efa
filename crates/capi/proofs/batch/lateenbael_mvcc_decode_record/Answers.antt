use mir.ValLaws.{to_z-of_z}
use mir.Syntax.{w64}
use mathlib.Core.Path.{sym, ap, ◌∙◌}
use Rattle.capi.specs.Batch.{record_numbers}
use Rattle.mvcc.specs.Fields.{record_answer}
use Rattle.capi.proofs.batch.lateenbael_mvcc_decode_record.Goals as goal

pub returns-in-Ok : goal.returns-in-Ok
returns-in-Ok c =
    rw
    (to_z-of_z w64 c.in-Ok.record.row.rowid (record { sfits = c.struct_told-1.given.1.0.1 }), c.op_of.ensures, c.count_of.ensures, c.first_of.ensures)
    (ap record_numbers (ap record_answer (sym c.in-Ok.is) ∙ c.decode_record.ensures))

pub returns-in-Err : goal.returns-in-Err
returns-in-Err c = rw (c.no_place.ensures, c.number.ensures) (ap record_numbers (ap record_answer (sym c.in-Err.is) ∙ c.decode_record.ensures))
