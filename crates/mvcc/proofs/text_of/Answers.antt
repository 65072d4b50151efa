use mathlib.Core.Path.{sym, ◌∙◌}
use Rattle.mvcc.proofs.Laws.{text-good, text-bad, text-none, text-short}
use Rattle.mvcc.proofs.text_of.Goals as goal

pub returns-then-not-fits_in : goal.returns-then-not-fits_in
returns-then-not-fits_in c =
    let a = c.args in text-short a.body.now a.at a.n (sym c.fits_in.ensures ∙ c.if-not-fits_in.true)

pub returns-then-n-eq0 : goal.returns-then-n-eq0
returns-then-n-eq0 c =
    let a = c.args in
    let t = sym c.fits_in.ensures ∙ c.if-not-fits_in.false in
    text-none a.body.now a.at a.n t c.if-n-eq0.true

pub returns-then-chars-eq0 : goal.returns-then-chars-eq0
returns-then-chars-eq0 c =
    let a = c.args in
    text-bad a.body.now a.at a.n (sym c.fits_in.ensures ∙ c.if-not-fits_in.false) c.if-n-eq0.false c.part.ensures c.count-chars.ensures c.if-chars-eq0.true

pub returns : goal.returns
returns c =
    let a = c.args in
    let t = sym c.fits_in.ensures ∙ c.if-not-fits_in.false in
    text-good a.body.now a.at a.n t c.part.ensures c.count-chars.ensures c.if-chars-eq0.false
