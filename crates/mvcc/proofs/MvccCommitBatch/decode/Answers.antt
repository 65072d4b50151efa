use mathlib.Core.Path.{◌≡◌, sym, ap, ◌∙◌}
use Prim.Native.Nat.{◌+◌, ◌-◌, ◌<◌}
use native.Mathlib.Omega.{arith}
use native.Mathlib.Nat.{zero-add}
use Rattle.mvcc.specs.Decode.{record_at}
use Rattle.mvcc.specs.Fields.{payload_answer}
use Rattle.mvcc.specs.Items.{record_items}
use Rattle.mvcc.specs.Seen.{commit_ts_of}
use Rattle.le.specs.Le.{whole_field}
use Rattle.mvcc.proofs.Laws.{many-on, many-off, many-done}
use Rattle.mvcc.proofs.Items.{items-on, items-off, items-done, items-room}
use Rattle.mvcc.proofs.Parts.{row-bad, row-none, payload-bad, payload-good, payload-items, reported, report-refused, report-good, report-bad}
use Rattle.mvcc.proofs.MvccCommitBatch.decode.Goals as goal
use Rattle.mvcc.proofs.Heading.{heading-told}

pub returns-in-Err : goal.returns-in-Err
returns-in-Err c =
    let s = c.args.body.now in
    let both = reported s (c.refused_batch.ensures ∙ report-refused s (heading-told s c.in-Err.ensures)) in
    record { value = both.0; result_le_body_items = both.1 }

pub loop-init : goal.loop-init
loop-init c =
    let n = c.from-records.result in
    let e : n - 0 ≡ n = omega arith in
    (rw e, rw (e, zero-add))

pub returns-in-Err-row_at : goal.returns-in-Err-row_at
unfolding whole_field commit_ts_of
returns-in-Err-row_at c =
    let l = c.loop in
    let s = c.args.body.now in
    let some : 0 < c.from-records.result - l.counter = omega arith in
    let r = sym c.in-Err-row_at.ensures in
    let bad = row-bad s l.end r in
    let n = items-off (record_at s) (record_items s) l.items _ l.end some bad l.invariant.1 in
    let both = reported s (c.refused_batch-in-Err-row_at.ensures
    ∙ report-bad s (heading-told s c.in_default.ensures) c.commit_ts-commit_ts.ensures (c.from-records.ensures ∙ c.read_u16.ensures)
    (many-off (record_at s) _ l.end some bad l.invariant.0) (omega (arith, row-none s l.end r, n))) in
    record { value = both.0; result_le_body_items = both.1 }

pub items_in-items-requires : goal.items_in-items-requires
items_in-items-requires c =
    let l = c.loop in
    let s = c.args.body.now in
    let n = c.from-records.result in
    omega (
      arith,
      items-room s n 18 l.items (n - l.counter) l.end (omega arith) l.invariant.1,
      payload-items s l.end (sym c.in-Ok.ensures),
      c.payload_at-p.ensures.result_value_2,
    )

pub overflow_add-items : goal.overflow_add-items
overflow_add-items c =
    let l = c.loop in
    let s = c.args.body.now in
    let n = c.from-records.result in
    omega (
      arith,
      items-room s n 18 l.items (n - l.counter) l.end (omega arith) l.invariant.1,
      payload-items s l.end (sym c.in-Ok.ensures),
      c.payload_at-p.ensures.result_value_2,
    )

pub returns-in-Err-p : goal.returns-in-Err-p
unfolding whole_field commit_ts_of
returns-in-Err-p c =
    let l = c.loop in
    let s = c.args.body.now in
    let some : 0 < c.from-records.result - l.counter = omega arith in
    let row = sym c.in-Ok.ensures in
    let p = c.payload_at-p.ensures in
    let bad = payload-bad s l.end row (sym p.result_value ∙ ap (λ q. payload_answer q) c.in-Err-p.is) in
    let n = items-off (record_at s) (record_items s) l.items _ l.end some bad l.invariant.1 in
    let both = reported s (c.refused_batch-in-Err-p.ensures
    ∙ report-bad s (heading-told s c.in_default.ensures) c.commit_ts-commit_ts.ensures (c.from-records.ensures ∙ c.read_u16.ensures)
    (many-off (record_at s) _ l.end some bad l.invariant.0)
    (rw (payload-items s l.end row, ← p.result_value_2, ← c.items_in-items.ensures) at n)) in
    record { value = both.0; result_le_body_items = both.1 }

pub loop-preserved : goal.loop-preserved
loop-preserved c =
    let l = c.loop in
    let s = c.args.body.now in
    let n = c.from-records.result in
    let some : 0 < n - l.counter = omega arith in
    let less : n - (l.counter + 1) ≡ n - l.counter - 1 = omega arith in
    let row = sym c.in-Ok.ensures in
    let p = c.payload_at-p.ensures in
    let good = payload-good s l.end row (sym p.result_value ∙ ap (λ q. payload_answer q) c.in-Ok-p.is) in
    let count = rw (payload-items s l.end row, ← p.result_value_2, ← c.items_in-items.ensures) at (items-on (record_at s) (record_items s) l.items _ l.end some good l.invariant.1) in
    (rw less (many-on (record_at s) _ l.end some good l.invariant.0), rw less count)

pub returns : goal.returns
unfolding whole_field commit_ts_of
returns c =
    let l = c.loop in
    let s = c.args.body.now in
    let both = reported s
    (report-good s (heading-told s c.in_default.ensures) c.commit_ts-commit_ts.ensures (c.from-records.ensures ∙ c.read_u16.ensures)
    (many-done (record_at s) (c.from-records.result - l.counter) l.end (omega arith) l.invariant.0)
    (items-done (record_at s) (record_items s) l.items (c.from-records.result - l.counter) l.end (omega arith) l.invariant.1)) in
    record { value = both.0; result_le_body_items = both.1 }
