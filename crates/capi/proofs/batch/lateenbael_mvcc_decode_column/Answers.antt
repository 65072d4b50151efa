use mathlib.Core.Path.{sym, ap, ◌∙◌}
use Rattle.capi.specs.Batch.{column_numbers}
use Rattle.mvcc.specs.Fields.{column_answer}
use Rattle.capi.proofs.batch.lateenbael_mvcc_decode_column.Goals as goal

pub returns-in-Ok : goal.returns-in-Ok
returns-in-Ok c = rw c.numbers_of.ensures (ap column_numbers (ap column_answer (sym c.in-Ok.is) ∙ c.decode_column.ensures))

pub returns-in-Err : goal.returns-in-Err
returns-in-Err c = rw (c.no_value.ensures, c.no_place.ensures, c.number.ensures) (ap column_numbers (ap column_answer (sym c.in-Err.is) ∙ c.decode_column.ensures))
