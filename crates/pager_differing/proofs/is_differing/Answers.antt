use Rattle.std.proofs.Common.{sym, ◌∙◌}
use borrow.Author.Tests.{not-true}
use Rattle.le.proofs.Compare.{differ-part}
use Rattle.pager_differing.specs.Differing.{slot_differs}
use Rattle.pager_differing.proofs.is_differing.Goals as goal

pub returns-then-part_differs : goal.returns-then-part_differs
unfolding slot_differs
returns-then-part_differs c =
    let e = differ-part 64 0 c.page_from-new.result.now c.committed_page-old.result.now (not-true _ (sym c.part_differs.ensures ∙ c.if-part_differs.true)) in
    rw (rw (c.page_from-new.ensures, c.committed_page-old.ensures) at e)

pub returns-then-part_differs-2 : goal.returns-then-part_differs-2
unfolding slot_differs
returns-then-part_differs-2 c =
    let e = differ-part 64 4032 c.page_from-new.result.now c.committed_page-old.result.now (not-true _ (sym c.part_differs-2.ensures ∙ c.if-part_differs-2.true)) in
    rw (rw (c.page_from-new.ensures, c.committed_page-old.ensures) at e)

pub returns : goal.returns
unfolding slot_differs
returns c = rw (c.same.ensures, c.page_from-new.ensures, c.committed_page-old.ensures)
