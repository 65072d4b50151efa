use Prim.Native.Nat.{◌*◌}
use Rattle.pager_state.proofs.Slots.{Front}
use Rattle.pager_state.proofs.front_without.Given as goal

abbrev pub invariant-loop-i : goal.invariant-loop-i
invariant-loop-i l = Front l.s l.p 8 (8 * l.i) l.front l.clear
