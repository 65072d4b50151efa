use Rattle.std.proofs.Common.{◌∙◌, arith}
use Rattle.pager_open.proofs.Table.{table_empty}
use Rattle.pager_open.proofs.clear_table.Goals as goal

pub returns : goal.returns
returns c = table_empty c.args.main_header c.loop-n.table (c.loop-n.auto.table ∙ c.requires) (λ n h. c.loop-n.invariant n (omega (arith, h)))
