use Rattle.pager_open.proofs.Table.{entered-as}
use Rattle.pager_open.proofs.enter_frame.Goals as goal

pub returns-then-n-table : goal.returns-then-n-table
returns-then-n-table c = entered-as c.args.table.now c.args.page_num c.args.at
