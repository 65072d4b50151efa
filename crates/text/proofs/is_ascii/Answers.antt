use Rattle.std.proofs.Common.{arith, below_more}
use Rattle.text.proofs.Tops.{or-none}
use Rattle.text.proofs.is_ascii.Goals as goal

pub loop-b-preserved : goal.loop-b-preserved
loop-b-preserved c e =
    let l = c.loop-b in
    let z = or-none _ _ e in
    λ k p. below_more _ _ (λ i. l.invariant z.0 i (omega arith)) (omega arith) k
