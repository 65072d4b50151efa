use mathlib.Core.Path.{◌∙◌, ap}
use mathlib.Core.Bool.{Bool, not, ◌&&◌}
use lib.Dec.{eqb}
use lib.ListN.{get_or}
use Rattle.pager_state.proofs.Slots.{past}
use Rattle.pager_state.proofs.is_none_of.Goals as goal

pub loop-x-preserved : goal.loop-x-preserved
loop-x-preserved c =
    let a = c.args in
    let v = c.loop-x in
    ap (λ (b : Bool). b && not (eqb (get_or a.s.now v.x-index 0) a.p)) v.invariant ∙ past a.s.now a.p v.x-index c.loop-x-test.true
