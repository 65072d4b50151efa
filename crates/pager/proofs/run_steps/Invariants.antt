use mathlib.Core.Path.{◌≡◌}
use Prim.Native.Nat.{◌-◌}
use Rattle.pager_state.specs.World.{world}
use Rattle.pager_state.specs.Steps.{steps, most_steps}
use Rattle.pager.proofs.run_steps.Given as goal

abbrev pub invariant-loop : goal.invariant-loop
invariant-loop l =
    steps l.staging (most_steps - l.done) (world l.initial.p l.initial.table l.initial.log l.initial.main) ≡ steps l.staging (most_steps - l.counter) (world l.p l.table l.log l.main)
