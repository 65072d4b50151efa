use borrow.Author.Tests.{eq-eqb, ne_eqb}
use Rattle.text.proofs.highest.Goals as goal

pub returns-then-c-eq237 : goal.returns-then-c-eq237
returns-then-c-eq237 c = rw (eq-eqb _ _ c.if-c-eq237.true)

pub returns-then-c-eq244 : goal.returns-then-c-eq244
returns-then-c-eq244 c = rw (ne_eqb _ _ c.if-c-eq237.false, eq-eqb _ _ c.if-c-eq244.true)

pub returns-else-c-eq244 : goal.returns-else-c-eq244
returns-else-c-eq244 c = rw (ne_eqb _ _ c.if-c-eq237.false, ne_eqb _ _ c.if-c-eq244.false)
