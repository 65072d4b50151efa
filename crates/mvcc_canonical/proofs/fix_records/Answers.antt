-- `mvcc_canonical::fix_records` meets its contract. Assumes nothing.
use native.Mathlib.Omega.{arith}
use mathlib.Core.Path.{◌≡◌, sym, ◌∙◌}
use Prim.Native.Nat.{◌+◌, ◌-◌, ◌<◌}
use Rattle.mvcc_canonical.proofs.Walk.{turn, fix-done}
use Rattle.mvcc.specs.Decode.{record_at}
use Rattle.mvcc_canonical.specs.Canonical.{record_step}
use Rattle.mvcc_canonical.proofs.fix_records.Goals as goal

pub fix_record-at-requires : goal.fix_record-at-requires
fix_record-at-requires c =
    let l = c.loop in
    (turn c.args.body.now (c.args.n - l.counter) l.at (omega arith) l.invariant.0).here

pub loop-preserved : goal.loop-preserved
loop-preserved c =
    let l = c.loop in
    let d = c.fix_record-at.ensures in
    let some : 0 < c.args.n - l.counter = omega arith in
    let less : c.args.n - (l.counter + 1) ≡ c.args.n - l.counter - 1 = omega arith in
    let t = turn c.args.body.now _ l.at some l.invariant.0 in (
      rw (less, d.value) t.on,
      rw (less, d.value, d.out_after) (sym (t.did l.out) ∙ l.invariant.1),
    )

pub returns : goal.returns
returns c =
    let l = c.loop in
    let s = c.args.body.now in
    sym (fix-done (record_at s) (record_step s) (c.args.n - l.counter) l.at l.out (omega arith)) ∙ l.invariant.1
