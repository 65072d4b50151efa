use mathlib.Core.Path.{sym, ap, ◌∙◌}
use Rattle.std.specs.Prelude.{Result}
use Rattle.refusal.specs.declared.Refusal.{Refusal}
use Rattle.mvcc.specs.declared.MvccCommitBatch.{MvccCommitBatch}
use Rattle.capi.specs.Batch.{answer_numbers, batch_numbers}
use Rattle.capi.proofs.batch.lateenbael_mvcc_decode.Goals as goal

pub returns-in-Ok : goal.returns-in-Ok
returns-in-Ok c =
    let d = c.decode-report in
    ap (λ (a : Result MvccCommitBatch Refusal). answer_numbers a d.result.items) (sym c.in-Ok.is) ∙ ap batch_numbers d.ensures.value

pub returns-in-Err : goal.returns-in-Err
returns-in-Err c =
    let d = c.decode-report in
    c.no_batch.ensures ∙ ap (λ (a : Result MvccCommitBatch Refusal). answer_numbers a d.result.items) (sym c.in-Err.is) ∙ ap batch_numbers d.ensures.value
