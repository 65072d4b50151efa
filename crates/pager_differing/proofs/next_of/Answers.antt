use Rattle.std.proofs.Common.{take, ap}
use Rattle.pager_state.specs.Pages.{first_of}
use Rattle.pager_state.proofs.Searches.{pages-end}
use Rattle.pager_state.proofs.Walks.{none_found}
use Rattle.pager_differing.specs.Differing.{is_in}
use Rattle.pager_differing.proofs.next_of.Goals as goal

pub returns-then-page-ge-PAGES-clause-none : goal.returns-then-page-ge-PAGES-clause-none
returns-then-page-ge-PAGES-clause-none c = let a = c.args in ap first_of (pages-end (is_in (take a.n a.s.now)) a.page c.if-page-ge-PAGES.true)

pub returns-then-found-ge-PAGES-clause-none : goal.returns-then-found-ge-PAGES-clause-none
returns-then-found-ge-PAGES-clause-none c =
    let a = c.args in
    ap first_of (none_found (is_in (take a.n a.s.now)) a.page c.lowest-found.result c.lowest-found.ensures c.if-found-ge-PAGES.true)
