use mathlib.Core.Path.{◌≡◌, sym, ap, ◌∙◌}
use lib.ListN.{length}
use borrow.Author.Tests.{eq-eqb, ne_eqb}
use Rattle.page.specs.Page.{empty_table_page}
use Rattle.page.proofs.Written.{page-written, length-empty_table_page}
use Rattle.page.proofs.TablePage.empty.Goals as goal

pub returns-then-page-ne-PAGE_SIZE : goal.returns-then-page-ne-PAGE_SIZE
returns-then-page-ne-PAGE_SIZE c = (simp (ne_eqb _ _ c.if-page-ne-PAGE_SIZE.true), simp (ne_eqb _ _ c.if-page-ne-PAGE_SIZE.true))

pub shape_of-page : goal.shape_of-page
shape_of-page c =
    let written : c.write_zeros.new.buf ≡ empty_table_page =
    page-written c.args.page.now c.if-page-ne-PAGE_SIZE.false c.write_u32.ensures.1 c.write_u16.ensures.1
    c.write_u16-2.ensures.1 c.write_u16-3.ensures.1 c.write_zeros.ensures.1 in
    ap length (written) ∙ length-empty_table_page ∙ sym c.if-page-ne-PAGE_SIZE.false

pub returns : goal.returns
returns c =
    let written : c.write_zeros.new.buf ≡ empty_table_page =
    page-written c.args.page.now c.if-page-ne-PAGE_SIZE.false c.write_u32.ensures.1 c.write_u16.ensures.1
    c.write_u16-2.ensures.1 c.write_u16-3.ensures.1 c.write_zeros.ensures.1 in
    (simp (eq-eqb _ _ c.if-page-ne-PAGE_SIZE.false), simp (eq-eqb _ _ c.if-page-ne-PAGE_SIZE.false) (written))
