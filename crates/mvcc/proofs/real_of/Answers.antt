use Rattle.mvcc.proofs.Laws.{is-nan, no_nan}
use Rattle.mvcc.specs.Decode.{real_of}
use Rattle.mvcc.proofs.real_of.Goals as goal

pub float_from_bits-result : goal.float_from_bits-result
float_from_bits-result c = rw (no_nan c.args.n c.if-n-gt9218868437227405312.false) tt

pub returns-then-n-gt9218868437227405312 : goal.returns-then-n-gt9218868437227405312
unfolding real_of
returns-then-n-gt9218868437227405312 c = rw (is-nan c.args.n c.if-n-gt9218868437227405312.true)

pub returns-else-n-gt9218868437227405312 : goal.returns-else-n-gt9218868437227405312
unfolding real_of
returns-else-n-gt9218868437227405312 c = rw (no_nan c.args.n c.if-n-gt9218868437227405312.false)
