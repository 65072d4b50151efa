use Rattle.std.proofs.Common.{sym, ap, ◌∙◌}
use Rattle.std.specs.Prelude.{Result}
use Rattle.refusal.specs.Refusal.{accepts}
use Rattle.refusal.specs.declared.Refusal.{Refusal}
use Rattle.mvcc.specs.Seen.{refusal_in, decode_refusal, decodes}
use Rattle.mvcc.proofs.Parts.{report-answer}
use Rattle.mvcc.specs.declared.MvccCommitBatch.{MvccCommitBatch}
use Rattle.batchlist.proofs.print.print_batch.Goals as goal

pub returns-in-Ok : goal.returns-in-Ok
unfolding decodes decode_refusal
returns-in-Ok g c =
    ap (λ (d : Result MvccCommitBatch Refusal). accepts (refusal_in d)) (sym c.in-Ok.is ∙ report-answer _ c.decode-answer.ensures.value)

pub returns-in-Err : goal.returns-in-Err
unfolding decodes decode_refusal
returns-in-Err g c =
    ap (λ (d : Result MvccCommitBatch Refusal). accepts (refusal_in d)) (sym c.in-Err.is ∙ report-answer _ c.decode-answer.ensures.value)
