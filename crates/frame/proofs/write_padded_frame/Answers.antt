use mathlib.Core.Path.{sym, ◌∙◌}
use Prim.Native.Nat.{◌+◌, ◌≤◌}
use native.Mathlib.Omega.{arith}
use lib.ListN.{length}
use borrow.Author.Tests.{leb-true}
use Rattle.frame.proofs.Stores.{frame_refused, length-padded, padded-refused, padded-stored}
use Rattle.frame.proofs.write_padded_frame.Goals as goal

pub returns-then-front-ne32 : goal.returns-then-front-ne32
returns-then-front-ne32 c =
    let a = c.args in
    let both = padded-refused a.log.now a.at a.start.page_num a.start.commit_page_count a.start.salt a.front.now c.if-front-ne32.true in
    record { value = both.0; log_after = both.1 }

pub returns-then-not-fits_in : goal.returns-then-not-fits_in
returns-then-not-fits_in c =
    let a = c.args in
    let both = frame_refused a.log.now a.at a.start.page_num a.start.commit_page_count a.start.salt _ (length-padded a.front.now c.if-front-ne32.false)
    (sym c.fits_in.ensures ∙ c.if-not-fits_in.true) in
    record { value = both.0; log_after = both.1 }

pub overflow_add-at : goal.overflow_add-at
overflow_add-at c =
    let inside : c.args.at + 4112 ≤ length c.args.log.now =
    leb-true _ _ (sym c.fits_in.ensures ∙ c.if-not-fits_in.false) in
    omega (arith, inside)

pub overflow_add-at-2 : goal.overflow_add-at-2
overflow_add-at-2 c =
    let inside : c.args.at + 4112 ≤ length c.args.log.now =
    leb-true _ _ (sym c.fits_in.ensures ∙ c.if-not-fits_in.false) in
    omega (arith, inside)

pub overflow_add-at-3 : goal.overflow_add-at-3
overflow_add-at-3 c =
    let inside : c.args.at + 4112 ≤ length c.args.log.now =
    leb-true _ _ (sym c.fits_in.ensures ∙ c.if-not-fits_in.false) in
    omega (arith, inside)

pub put_heading-requires : goal.put_heading-requires
put_heading-requires c =
    let inside : c.args.at + 4112 ≤ length c.args.log.now =
    leb-true _ _ (sym c.fits_in.ensures ∙ c.if-not-fits_in.false) in
    omega (arith, inside)

pub overflow_add-at-4 : goal.overflow_add-at-4
overflow_add-at-4 c =
    let inside : c.args.at + 4112 ≤ length c.args.log.now =
    leb-true _ _ (sym c.fits_in.ensures ∙ c.if-not-fits_in.false) in
    omega (arith, inside)

pub returns : goal.returns
returns c =
    let a = c.args in
    let both = padded-stored a.log.now a.at a.start.page_num a.start.commit_page_count a.start.salt a.front.now c.if-front-ne32.false
    (sym c.fits_in.ensures ∙ c.if-not-fits_in.false) c.write_bytes.ensures.1 c.write_zeros.ensures.1
    c.put_heading.ensures (rw c.part.ensures at c.sum_over-heading_sum.ensures) c.sum_over.ensures c.write_u32.ensures.1 in
    record { value = both.0; log_after = both.1 }
