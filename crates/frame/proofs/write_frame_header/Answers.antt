use mathlib.Core.Path.{sym, ◌∙◌}
use Prim.Native.Nat.{◌+◌, ◌≤◌}
use native.Mathlib.Omega.{arith}
use lib.ListN.{length}
use borrow.Author.Tests.{leb-true}
use Rattle.frame.specs.Frame.{heading_after}
use Rattle.frame.proofs.Stores.{frame-headed}
use Rattle.frame.proofs.write_frame_header.Goals as goal

pub returns-then-not-fits_in : goal.returns-then-not-fits_in
unfolding heading_after
returns-then-not-fits_in c =
    let t = sym c.fits_in.ensures ∙ c.if-not-fits_in.true in
    record { value = rw t; log_after = rw t }

pub put_heading-requires : goal.put_heading-requires
put_heading-requires c =
    let inside : c.args.at + 4112 ≤ length c.args.log.now =
    leb-true _ _ (sym c.fits_in.ensures ∙ c.if-not-fits_in.false) in
    omega (arith, inside)

pub overflow_add-at : goal.overflow_add-at
overflow_add-at c =
    let inside : c.args.at + 4112 ≤ length c.args.log.now =
    leb-true _ _ (sym c.fits_in.ensures ∙ c.if-not-fits_in.false) in
    omega (arith, inside)

pub returns : goal.returns
unfolding heading_after
returns c =
    let inside : c.args.at + 4112 ≤ length c.args.log.now =
    leb-true _ _ (sym c.fits_in.ensures ∙ c.if-not-fits_in.false) in
    let a = c.args in
    let t = sym c.fits_in.ensures ∙ c.if-not-fits_in.false in
    let e = frame-headed a.log.now a.at a.start.page_num a.start.commit_page_count a.start.salt (inside) c.put_heading.ensures
    c.compute_checksum-sum.ensures c.write_u32.ensures.1 in
    record { value = rw t; log_after = rw t e }
