use Prim.Native.Nat.{◌-◌, ◌≤◌}
use Rattle.text.specs.Walk.{Passes}
use Rattle.text.proofs.Judging.{OverFirst}
use Rattle.text.proofs.first.Given as goal

abbrev pub invariant-loop-at : goal.invariant-loop-at
invariant-loop-at l = (l.at ≤ 6) × (OverFirst l.s l.at × Passes l.s 0 l.at l.passed)

abbrev pub decreases-loop-at : goal.decreases-loop-at
decreases-loop-at l = 6 - l.at
