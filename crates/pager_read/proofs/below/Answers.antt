use mathlib.Core.Path.{sym, ◌∙◌}
use native.Mathlib.Omega.{arith}
use borrow.Author.Tests.{le-leb, lt-leb, eq-eqb, ne_eqb}
use Rattle.pager_state.specs.Overlay.{below, frame_of, in_log}
use Rattle.pager_read.proofs.below.Goals as goal

pub returns-then-count-page_num : goal.returns-then-count-page_num
unfolding below
returns-then-count-page_num c = rw (le-leb _ _ c.if-count-page_num.true)

pub overflow_add-result : goal.overflow_add-result
unfolding frame_of
overflow_add-result c =
    let b = c.type_inv.table c.args.page_num in
    let e = c.frame_of-frame.ensures in
    omega arith

pub returns-then-frame-ne0 : goal.returns-then-frame-ne0
unfolding below in_log
returns-then-frame-ne0 c =
    let e = c.frame_of-frame.ensures in
    rw (lt-leb _ _ c.if-count-page_num.false, ne_eqb _ _ (λ q. c.if-frame-ne0.true (e ∙ q)), e)

pub returns-then-on_main : goal.returns-then-on_main
unfolding below in_log
returns-then-on_main c = rw (lt-leb _ _ c.if-count-page_num.false, eq-eqb _ _ (sym c.frame_of-frame.ensures ∙ c.if-frame-ne0.false), sym c.on_main.ensures ∙ c.if-on_main.true)

pub returns : goal.returns
unfolding below in_log
returns c = rw (lt-leb _ _ c.if-count-page_num.false, eq-eqb _ _ (sym c.frame_of-frame.ensures ∙ c.if-frame-ne0.false), sym c.on_main.ensures ∙ c.if-on_main.false)
