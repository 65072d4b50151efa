use mathlib.Core.Path.{◌≡◌}
use Prim.Native.Nat.{◌+◌, ◌-◌}
use Rattle.mvcc.specs.Answer.{many}
use Rattle.mvcc.specs.Decode.{record_at}
use Rattle.mvcc.specs.Items.{many_items, record_items}
use Rattle.mvcc.proofs.Laws.{ends}
use Rattle.mvcc.proofs.MvccCommitBatch.decode.Given as goal

abbrev pub invariant-loop : goal.invariant-loop
invariant-loop l = (ends (many (record_at l.body) (l.records - l.counter) l.end) ≡ ends (many (record_at l.body) l.records 18))
    × (l.items + many_items (record_at l.body) (record_items l.body) (l.records - l.counter) l.end ≡ many_items (record_at l.body) (record_items l.body) l.records 18)
