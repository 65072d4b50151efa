use Rattle.std.proofs.Common.{arith}
use Rattle.pager_checkpoint.proofs.mark.Goals as goal
use Rattle.pager_checkpoint.proofs.Table.{marked, no-entries}

pub returns-then-table-gt0 : goal.returns-then-table-gt0
returns-then-table-gt0 c =
    let l = c.loop-entry in
    marked c.args.table.now l.table l.auto.table (λ k h. l.invariant.0 k (omega arith)) c.if-table-gt0.true

pub returns-else-table-gt0 : goal.returns-else-table-gt0
returns-else-table-gt0 c = no-entries c.args.table.now c.loop-entry.table c.loop-entry.auto.table c.if-table-gt0.false
