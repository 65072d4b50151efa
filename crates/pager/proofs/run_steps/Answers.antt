use native.Mathlib.Omega.{arith}
use mathlib.Core.Path.{◌≡◌, sym, ap, ◌∙◌}
use Prim.Native.Nat.{ℕ, ◌-◌}
use Rattle.pager_state.specs.World.{world}
use Rattle.pager_state.specs.Steps.{steps, most_steps}
use Rattle.pager.proofs.Steps.{one_more, at_rest}
use Rattle.pager.proofs.run_steps.Goals as goal

pub returns-then-not-is_busy : goal.returns-then-not-is_busy
returns-then-not-is_busy c =
    let l = c.loop in
    at_rest c.args.staging.now (most_steps - l.counter) (world l.p l.table l.log l.main) (sym c.is_busy.ensures ∙ c.if-not-is_busy.true) ∙ sym l.invariant

pub loop-preserved : goal.loop-preserved
loop-preserved c =
    let l = c.loop in
    l.invariant ∙ one_more c.args.staging.now l.counter (world l.p l.table l.log l.main) _ (omega arith) c.next_step.ensures.later_after

pub returns : goal.returns
unfolding steps
returns c =
    let l = c.loop in
    let z : most_steps - l.counter ≡ 0 = omega (arith, c.loop-test.false) in
    sym (l.invariant ∙ ap (λ (m : ℕ). steps c.args.staging.now m (world l.p l.table l.log l.main)) z)
