use Prim.Native.Nat.{◌≤◌}
use Rattle.mvcc_canonical.specs.Canonical.{BoolsTo}
use Rattle.mvcc_canonical.proofs.top_bool.Given as goal

abbrev pub invariant-loop-i : goal.invariant-loop-i
invariant-loop-i l = (1 ≤ l.i) × BoolsTo l.body l.i l.top
