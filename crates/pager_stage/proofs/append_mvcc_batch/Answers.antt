use mathlib.Core.Path.{sym, ap, ◌∙◌}
use Rattle.std.specs.Prelude.{Err}
use Rattle.pager_stage.proofs.Appending.{way-busy, way-read-only, way-refused, way-done}
use Rattle.pager_stage.proofs.append_mvcc_batch.Goals as goal

pub returns-then-is_busy : goal.returns-then-is_busy
returns-then-is_busy c =
    let A = c.args in
    let both = way-busy A.pager A.log.now A.body.now (sym c.is_busy.ensures ∙ c.if-is_busy.true)
    (c.not_appended.ensures.0 ∙ ap Err c.lowest.ensures) c.not_appended.ensures.1 in
    record { value = both.0; log_after = both.1 }

pub returns-then-is_read_only : goal.returns-then-is_read_only
returns-then-is_read_only c =
    let A = c.args in
    let both = way-read-only A.pager A.log.now A.body.now (sym c.is_busy.ensures ∙ c.if-is_busy.false)
    (sym c.is_read_only.ensures ∙ c.if-is_read_only.true)
    (c.not_appended-then-is_read_only.ensures.0 ∙ ap Err c.lowest-then-is_read_only.ensures) c.not_appended-then-is_read_only.ensures.1 in
    record { value = both.0; log_after = both.1 }

pub returns-in-Err : goal.returns-in-Err
returns-in-Err c =
    let A = c.args in
    let both = way-refused A.pager A.log.now A.body.now (sym c.is_busy.ensures ∙ c.if-is_busy.false)
    (sym c.is_read_only.ensures ∙ c.if-is_read_only.false)
    _ (sym c.append_mvcc_batch.ensures.value ∙ c.in-Err.is) c.append_mvcc_batch.ensures.log_after
    c.not_appended-in-Err.ensures.0 c.not_appended-in-Err.ensures.1 in
    record { value = both.0; log_after = both.1 }

pub returns-in-Ok : goal.returns-in-Ok
returns-in-Ok c =
    let A = c.args in
    let both = way-done A.pager A.log.now A.body.now (sym c.is_busy.ensures ∙ c.if-is_busy.false)
    (sym c.is_read_only.ensures ∙ c.if-is_read_only.false)
    _ (sym c.append_mvcc_batch.ensures.value ∙ c.in-Ok.is) c.append_mvcc_batch.ensures.log_after
    c.appended.ensures.0 c.appended.ensures.1 in
    record { value = both.0; log_after = both.1 }
