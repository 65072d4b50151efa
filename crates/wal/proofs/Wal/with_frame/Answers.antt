use Rattle.std.proofs.Common.{inl, inr, eq-eqb, ne_eqb}
use Rattle.wal.specs.Write.{longer}
use Rattle.wal.proofs.Wal.with_frame.Goals as goal

pub returns-then-commits : goal.returns-then-commits
unfolding longer
returns-then-commits c = rw (c.if-good.true, eq-eqb _ _ c.if-self.true, c.counted.ensures, ne_eqb _ _ c.if-commits.true)

pub returns-else-commits : goal.returns-else-commits
unfolding longer
returns-else-commits c = rw (c.if-good.true, eq-eqb _ _ c.if-self.true, c.counted.ensures, eq-eqb _ _ c.if-commits.false)

pub returns-else-good : goal.returns-else-good
unfolding longer
returns-else-good c =
    elim c.else-good.either [ inl h ↦ rw (h.0, ne_eqb _ _ h.1, c.counted.ensures) | inr h ↦ rw (h, c.counted.ensures) ]
