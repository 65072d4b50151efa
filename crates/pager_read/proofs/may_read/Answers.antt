use mathlib.Core.Path.{sym, ◌∙◌}
use borrow.Author.Tests.{eq-eqb, ne_eqb}
use Rattle.pager_read.specs.Reading.{may_read}
use Rattle.pager_read.proofs.may_read.Goals as goal

pub returns-then-not-is_inside : goal.returns-then-not-is_inside
unfolding may_read
returns-then-not-is_inside c = rw (sym c.is_inside.ensures ∙ c.if-not-is_inside.true)

pub returns-then-areas-ne-STAGING_AREA : goal.returns-then-areas-ne-STAGING_AREA
unfolding may_read
returns-then-areas-ne-STAGING_AREA c = rw (sym c.is_inside.ensures ∙ c.if-not-is_inside.false, ne_eqb _ _ c.if-areas-ne-STAGING_AREA.true)

pub returns-then-job-ne0 : goal.returns-then-job-ne0
unfolding may_read
returns-then-job-ne0 c = rw (sym c.is_inside.ensures ∙ c.if-not-is_inside.false, eq-eqb _ _ c.if-areas-ne-STAGING_AREA.false, ne_eqb _ _ c.if-job-ne0.true)

pub returns : goal.returns
unfolding may_read
returns c = rw (sym c.is_inside.ensures ∙ c.if-not-is_inside.false, eq-eqb _ _ c.if-areas-ne-STAGING_AREA.false, eq-eqb _ _ c.if-job-ne0.false)
