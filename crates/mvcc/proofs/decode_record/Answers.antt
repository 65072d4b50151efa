use mathlib.Core.Path.{sym}
use Rattle.std.proofs.lemmas.Result.{err_from_is_err_and}
use Rattle.mvcc.proofs.Parts.{row-bad, payload-bad, payload-good}
use Rattle.mvcc.proofs.decode_record.Goals as goal

pub returns-in_err-op : goal.returns-in_err-op
returns-in_err-op c =
    let p = err_from_is_err_and c.from_residual.result c.from_residual.ensures.1 in
    rw (p.1, p.2) (sym (row-bad _ _ (sym c.in_err-op.ensures)))

pub returns-in-Ok : goal.returns-in-Ok
returns-in-Ok c =
    sym (payload-good _ _ (sym c.in_ok-op.ensures) (sym c.in-Ok.ensures.result_value))

pub returns-in-Err : goal.returns-in-Err
returns-in-Err c =
    sym (payload-bad _ _ (sym c.in_ok-op.ensures) (sym c.in-Err.ensures.result_value))
