use Rattle.std.proofs.Common.{◌≡◌, ◌+◌, ◌≤◌, true, false, sym, ◌∙◌, arith, leb-true}
use Rattle.wal.specs.Write.{has_room}
use Rattle.wal.proofs.Wal.longer.Goals as goal

pub returns-then-not-fits_in : goal.returns-then-not-fits_in
returns-then-not-fits_in c =
    let o : has_room c.args.self ≡ false = sym c.fits_in.ensures ∙ c.if-not-fits_in.true in
    rw o

pub with_frame-requires : goal.with_frame-requires
with_frame-requires c =
    let o : has_room c.args.self ≡ true = sym c.fits_in.ensures ∙ c.if-not-fits_in.false in
    let h : c.args.self.len + 4112 ≤ 4210720 = leb-true _ _ o in
    omega (arith, h)

pub returns : goal.returns
returns c =
    let o : has_room c.args.self ≡ true = sym c.fits_in.ensures ∙ c.if-not-fits_in.false in
    rw o c.with_frame.ensures
