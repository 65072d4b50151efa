use mathlib.Core.Path.{sym, ap, ◌∙◌}
use native.Mathlib.Omega.{arith}
use borrow.Author.Tests.{leb-true}
use Rattle.frame.specs.Frame.{frame_header}
use Rattle.frame.specs.declared.FrameHeader.{FrameHeader}
use Rattle.frame.proofs.Places.{field-inside, outside, other-salt, by-sum}
use Rattle.frame.proofs.is_intact.Goals as goal

pub returns-then-not-fits_in : goal.returns-then-not-fits_in
returns-then-not-fits_in c =
    let a = c.args in
    outside a.log.now a.at a.salt (sym c.fits_in.ensures ∙ c.if-not-fits_in.true)

pub returns-then-header-salt : goal.returns-then-header-salt
unfolding frame_header
returns-then-header-salt c =
    let a = c.args in
    let t = sym c.fits_in.ensures ∙ c.if-not-fits_in.false in
    let e = ap (λ (r : FrameHeader). r.salt) c.read_frame_header-header.ensures ∙ field-inside a.at a.log.now 8 (omega arith) (leb-true _ _ t) in
    other-salt a.log.now a.at a.salt t (λ s. c.if-header-salt.true (e ∙ s))

pub returns : goal.returns
unfolding frame_header
returns c =
    let a = c.args in
    let t = sym c.fits_in.ensures ∙ c.if-not-fits_in.false in
    let inside = field-inside a.at a.log.now in
    let e = ap (λ (r : FrameHeader). r.salt) c.read_frame_header-header.ensures ∙ inside 8 (omega arith) (leb-true _ _ t) in
    rw (c.read_frame_header-header.ensures, c.compute_checksum.ensures, inside 12 (omega arith) (leb-true _ _ t))
    (by-sum a.log.now a.at a.salt t (sym e ∙ c.if-header-salt.false))
