use mathlib.Core.Path.{sym, ◌∙◌}
use Prim.Native.Nat.{◌+◌, ◌≤◌}
use native.Mathlib.Omega.{arith}
use lib.ListN.{length}
use borrow.Author.Tests.{leb-true, ne_eqb}
use Rattle.frame.specs.Frame.{frame_after}
use Rattle.frame.proofs.Stores.{frame-stored, frame_refused}
use Rattle.frame.proofs.write_frame.Goals as goal

pub returns-then-body-ne-PAGE_SIZE : goal.returns-then-body-ne-PAGE_SIZE
unfolding frame_after
returns-then-body-ne-PAGE_SIZE c = record { value = simp (ne_eqb _ _ c.if-body-ne-PAGE_SIZE.true); log_after = simp (ne_eqb _ _ c.if-body-ne-PAGE_SIZE.true) }

pub returns-then-not-fits_in : goal.returns-then-not-fits_in
returns-then-not-fits_in c =
    let a = c.args in
    let both = frame_refused a.log.now a.at a.start.page_num a.start.commit_page_count a.start.salt a.body.now c.if-body-ne-PAGE_SIZE.false
    (sym c.fits_in.ensures ∙ c.if-not-fits_in.true) in
    record { value = both.0; log_after = both.1 }

pub overflow_add-at : goal.overflow_add-at
overflow_add-at c =
    let a = c.args in
    let inside : a.at + 4112 ≤ length a.log.now = leb-true _ _ (sym c.fits_in.ensures ∙ c.if-not-fits_in.false) in
    omega arith

pub returns : goal.returns
returns c =
    let a = c.args in
    let both = frame-stored a.log.now a.at a.start.page_num a.start.commit_page_count a.start.salt a.body.now c.if-body-ne-PAGE_SIZE.false
    (sym c.fits_in.ensures ∙ c.if-not-fits_in.false) c.write_bytes.ensures.1
    c.write_frame_header.ensures.value c.write_frame_header.ensures.log_after in
    record { value = both.0; log_after = both.1 }
