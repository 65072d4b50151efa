use mathlib.Core.Path.{◌≡◌}
use Prim.Native.Nat.{◌+◌, ◌-◌}
use Rattle.mvcc.specs.Answer.{many}
use Rattle.mvcc.specs.Decode.{column_at}
use Rattle.mvcc.specs.Items.{many_items, column_items}
use Rattle.mvcc.proofs.Laws.{ends}
use Rattle.mvcc.proofs.present_at.Given as goal

abbrev pub invariant-loop-i : goal.invariant-loop-i
invariant-loop-i l = (ends (many (column_at l.body) (l.count - l.i) l.end) ≡ ends (many (column_at l.body) l.count l.first))
    × (l.i + many_items (column_at l.body) (column_items l.body) (l.count - l.i) l.end ≡ many_items (column_at l.body) (column_items l.body) l.count l.first)
