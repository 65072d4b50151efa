use Rattle.std.proofs.Common.{get_or, below_more, arith}
use Rattle.std.proofs.lemmas.Nat.{le_or_l, le_or_r}
use Rattle.pager_checkpoint.proofs.bits.Goals as goal

pub loop-entry-preserved : goal.loop-entry-preserved
loop-entry-preserved c =
    let l = c.loop-entry in
    let x = get_or c.args.entries.now l.entry-index 0 in
    below_more _ _ (λ k h. omega (arith, l.invariant k h, le_or_l l.bits x)) (le_or_r l.bits x)
