use Rattle.std.proofs.Common.{sym, ◌∙◌, leb-true, leb-false}
use Rattle.le.proofs.Fields.{whole_field-there, whole_field-zeros}
use Rattle.le.proofs.bytes_at.Goals as goal

pub returns-then-not-fits_in : goal.returns-then-not-fits_in
returns-then-not-fits_in g c =
    whole_field-zeros g.row.N c.args.at c.args.buf.now (leb-false _ _ (sym c.fits_in.ensures ∙ c.if-not-fits_in.true))

pub returns-in-Some : goal.returns-in-Some
returns-in-Some g c =
    whole_field-there g.row.N c.args.at c.args.buf.now (leb-true _ _ (sym c.fits_in.ensures ∙ c.if-not-fits_in.false))
    c.in-Some.ensures.cases.same
