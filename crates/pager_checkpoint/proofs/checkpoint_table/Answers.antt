use Rattle.pager_checkpoint.proofs.Table.{table-checkpointed}
use Rattle.pager_checkpoint.proofs.checkpoint_table.Goals as goal

pub returns : goal.returns
returns c =
    let p = c.split_at_mut-front.ensures in
    table-checkpointed c.args.count c.args.table.now c.min-end.ensures (rw p.front at c.mark.ensures) (rw p.back at (c.fill.ensures.after (λ y h. h)))
