use Rattle.std.proofs.Common.{arith, rules}
use Rattle.text.proofs.Judging.{judges-on, judges-not}
use Rattle.text.proofs.blocks.Goals as goal

pub returns-in_err-begun : goal.returns-in_err-begun
returns-in_err-begun c =
    let v = c.loop-at in
    rw c.from_residual.ensures (judges-not c.args.s.now v.invariant v.at v.invariant.on (omega arith) c.in_err-begun.ensures)

pub loop-at-preserved : goal.loop-at-preserved
loop-at-preserved c =
    let v = c.loop-at in
    let q = c.in_ok-begun in
    rw c.from-chars.ensures (judges-on c.args.s.now q.begun v.at 128 v.invariant v.invariant.on (omega arith) (omega arith) (search rules) q.ensures.0 q.ensures.1)
