use mathlib.Core.Path.{◌≡◌}
use Prim.Native.Nat.{◌-◌}
use Rattle.mvcc.specs.Decode.{record_at}
use Rattle.mvcc_canonical.specs.Canonical.{fix_all, record_step, Walk}
use Rattle.mvcc_canonical.proofs.fix_records.Given as goal

abbrev pub invariant-loop : goal.invariant-loop
invariant-loop l = Walk l.body (l.n - l.counter) l.at
    × (fix_all (record_at l.body) (record_step l.body) (l.n - l.counter) l.at l.out ≡ fix_all (record_at l.body) (record_step l.body) l.n 18 l.initial.out)
