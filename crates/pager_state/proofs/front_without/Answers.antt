use native.Mathlib.Omega.{arith}
use mathlib.Core.Path.{◌≡◌, sym, ◌∙◌}
use Prim.Native.Nat.{◌*◌, ◌/◌, ◌≤◌, ◌<◌, ◌+◌}
use lib.ListN.{length, get_or, take, drop}
use mathlib.Core.List.{[]}
use Rattle.le.proofs.Compare.{no_test}
use Rattle.pager_state.proofs.Slots.{front-next, block_at}
use Rattle.pager_state.proofs.front_without.Goals as goal
use Rattle.pager_state.proofs.front_without.Goals.{then-clear, else-clear}

pub loop-i-preserved : goal.loop-i-preserved
loop-i-preserved c =
    let a = c.args in
    let v = c.loop-i in
    let n = length a.s.now / 8 in
    let i : v.i < n = omega (arith, c.loop-i-test.true, c.as_chunks.ensures.front_len) in
    let h : 8 * v.i + 8 ≤ length a.s.now = omega arith in
    let b : get_or c.as_chunks.result.0.now v.i [] ≡ take 8 (drop (8 * v.i) a.s.now) = rw c.as_chunks.ensures.front (block_at 8 n a.s.now v.i i) in
    let e : 8 * (v.i + 1) ≡ 8 * v.i + 8 = omega arith in
    let r = rw b at c.is_none_of-clear.ensures in
    rw e (elim c.if-clear.branch [
      | then-clear w ↦ front-next a.s.now a.p 8 (8 * v.i) v.front v.invariant h r (λ t. w.front-is ∙ e) (λ t. absurd (no_test (sym t ∙ w.if-clear.true)))
      | else-clear w ↦ front-next a.s.now a.p 8 (8 * v.i) v.front v.invariant h r (λ t. absurd (no_test (sym w.if-clear.false ∙ t))) (λ t. w.front-is)
    ])
