use Rattle.std.proofs.Common.{sym, ap, ◌∙◌, refl, arith, length, leb-true}
use lib.ListN.{length-set}
use lib.Seq.{take_all}
use Rattle.le.specs.Le.{put}
use Rattle.le.proofs.Stores.{stored, refused, put-none, put_copy}
use Rattle.le.proofs.write_bytes.Goals as goal

pub loop-i-init : goal.loop-i-init
loop-i-init c = (sym (put-none c.args.buf.now c.args.at), refl)

pub loop-i-preserved : goal.loop-i-preserved
loop-i-preserved c =
    let a = c.args in
    let l = c.loop-i in
    let h = leb-true _ _ (sym c.fits_in.ensures ∙ c.if-fits_in.true) in (
      rw l.invariant.0 (put_copy a.buf.now a.at a.src.now l.i h (omega arith)),
      simp length-set l.invariant.1,
    )

pub returns-then-fits_in : goal.returns-then-fits_in
returns-then-fits_in c =
    let a = c.args in
    let l = c.loop-i in
    stored a.buf.now a.at (length a.src.now) a.src.now refl (sym c.fits_in.ensures ∙ c.if-fits_in.true)
    (l.invariant.0 ∙ ap (put a.buf.now a.at) (take_all l.i a.src.now (omega arith)))

pub returns : goal.returns
returns c =
    let a = c.args in
    refused a.buf.now a.at (length a.src.now) a.src.now refl (sym c.fits_in.ensures ∙ c.if-fits_in.false)
