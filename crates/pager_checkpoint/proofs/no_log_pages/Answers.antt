use Rattle.pager_checkpoint.proofs.Table.{no-log-by}
use Rattle.pager_checkpoint.proofs.no_log_pages.Goals as goal

pub returns : goal.returns
returns c = no-log-by c.args.table.now c.first_in_log.result c.is_none.result c.is_none.ensures c.first_in_log.ensures
