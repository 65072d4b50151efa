use Rattle.mvcc.proofs.Laws.{is-nan32, no-nan32}
use Rattle.mvcc.specs.Vector.{float_of, element_at}
use Rattle.mvcc.proofs.vector_f32.Goals as goal

pub returns-then-bits-gt2139095040 : goal.returns-then-bits-gt2139095040
unfolding element_at float_of
returns-then-bits-gt2139095040 c = rw (← c.in_ok-bits.ensures, is-nan32 _ c.if-bits-gt2139095040.true)

pub float_from_bits-result : goal.float_from_bits-result
float_from_bits-result c = rw (no-nan32 _ c.if-bits-gt2139095040.false) tt

pub returns : goal.returns
unfolding element_at float_of
returns c = rw (← c.in_ok-bits.ensures, no-nan32 _ c.if-bits-gt2139095040.false)
