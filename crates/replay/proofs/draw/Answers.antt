use Rattle.std.proofs.Common.{refl, arith, rules, take_all}
use Rattle.replay.proofs.Bytes.{draw-next, draw-more}
use Rattle.replay.specs.Drawn.{number_after, drawn}
use Rattle.replay.proofs.draw.Goals as goal

pub loop-byte-init : goal.loop-byte-init
unfolding number_after drawn
loop-byte-init c = (refl, refl)

pub loop-byte-preserved : goal.loop-byte-preserved
loop-byte-preserved c =
    let x = draw-next c.args.seed c.loop-byte.byte-index c.loop-byte.invariant.0 c.next-x.ensures in
    (x, draw-more c.loop-byte.body c.args.kind c.args.seed c.loop-byte.byte-index (omega arith) x c.shape.ensures c.loop-byte.invariant.1)

pub returns : goal.returns
returns c = search (rules, take_all)
