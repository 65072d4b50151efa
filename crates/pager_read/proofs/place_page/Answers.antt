use native.Mathlib.Omega.{arith}
use mathlib.Core.Logic.{⊎_elim}
use Rattle.pager_read.proofs.Place.{placed, not-placed}
use Rattle.pager_read.proofs.place_page.Goals as goal

pub returns-then-staged_count-slot : goal.returns-then-staged_count-slot
returns-then-staged_count-slot c =
    let a = c.args in
    let b = c.then-staged_count-slot.either in
    not-placed a.page_count a.page_num a.staged_count a.staged.now a.table.now c.find_in-slot.ensures.s_len c.find_in-slot.ensures.value
    (⊎_elim (λ h. omega (arith, h)) (λ h. omega (arith, h)) b) c.below.ensures

pub returns : goal.returns
returns c =
    let a = c.args in
    placed a.page_count a.page_num a.staged_count a.staged.now a.table.now c.find_in-slot.ensures.s_len c.find_in-slot.ensures.value (omega (arith, c.if-staged_count-slot.false)) (omega (arith, c.if-slot-ge-STAGED_PAGES.false))
