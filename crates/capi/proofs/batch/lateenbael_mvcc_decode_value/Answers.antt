use mathlib.Core.Path.{sym, ap, ◌∙◌}
use Rattle.capi.specs.Batch.{value_reply}
use Rattle.mvcc.specs.Fields.{value_answer}
use Rattle.capi.proofs.batch.lateenbael_mvcc_decode_value.Goals as goal

pub returns-in-Ok : goal.returns-in-Ok
returns-in-Ok c = rw c.numbers_of.ensures (ap value_reply (ap value_answer (sym c.in-Ok.is) ∙ c.decode_value.ensures))

pub returns-in-Err : goal.returns-in-Err
returns-in-Err c = rw (c.no_value.ensures, c.number.ensures) (ap value_reply (ap value_answer (sym c.in-Err.is) ∙ c.decode_value.ensures))
