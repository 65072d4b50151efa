use Rattle.std.proofs.Common.{◌≡◌, ◌+◌, ◌-◌}
use Rattle.le.specs.Le.{field}
use Rattle.mvcc.proofs.take.Given as goal

abbrev pub invariant-loop-i : goal.invariant-loop-i
invariant-loop-i g l = l.n ≡ field (g.row.SIZE - l.i) (l.at + l.i) l.body
