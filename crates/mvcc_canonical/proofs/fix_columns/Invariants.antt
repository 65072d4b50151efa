use mathlib.Core.Path.{◌≡◌}
use Prim.Native.Nat.{◌-◌}
use Rattle.mvcc.specs.Decode.{column_at}
use Rattle.mvcc.specs.Answer.{many}
use Rattle.mvcc_canonical.specs.Canonical.{answer_end, fix_all, column_step, Columns}
use Rattle.mvcc_canonical.proofs.fix_columns.Given as goal

abbrev pub invariant-loop : goal.invariant-loop
invariant-loop l = Columns l.body (l.n - l.counter) l.at
    × (answer_end (many (column_at l.body) (l.n - l.counter) l.at) ≡ answer_end (many (column_at l.body) l.n l.first))
    × (fix_all (column_at l.body) column_step (l.n - l.counter) l.at l.out ≡ fix_all (column_at l.body) column_step l.n l.first l.initial.out)
