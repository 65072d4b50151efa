use Rattle.std.proofs.Common.{sym, ◌∙◌}
use Rattle.pager_differing.proofs.Committed.{body-of-page, main-of-page, no-page}
use Rattle.pager_differing.proofs.committed_page.Goals as goal

pub returns-then-at-ne0 : goal.returns-then-at-ne0
returns-then-at-ne0 c = body-of-page c.args.areas.table.now c.args.areas.log.now c.args.areas.main.now c.args.page c.frame_of-at.ensures c.if-at-ne0.true c.frame_body.ensures

pub returns-then-on_main : goal.returns-then-on_main
returns-then-on_main c = main-of-page c.args.areas.table.now c.args.areas.log.now c.args.areas.main.now c.args.page c.frame_of-at.ensures c.if-at-ne0.false (sym c.on_main.ensures ∙ c.if-on_main.true) c.page_from.ensures

pub returns : goal.returns
returns c = no-page c.args.areas.table.now c.args.areas.log.now c.args.areas.main.now c.args.page c.frame_of-at.ensures c.if-at-ne0.false (sym c.on_main.ensures ∙ c.if-on_main.false)
