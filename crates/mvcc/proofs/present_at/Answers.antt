use mathlib.Core.Path.{◌≡◌, sym}
use native.Mathlib.Omega.{arith}
use Prim.Native.Nat.{◌+◌, ◌-◌, ◌<◌}
use Rattle.mvcc.specs.Decode.{column_at}
use Rattle.mvcc.specs.Items.{column_items, present_items}
use Rattle.mvcc.specs.Parts.{columns_at}
use Rattle.mvcc.proofs.Laws.{many-on, many-off, many-done}
use Rattle.mvcc.proofs.Items.{columns-on, columns-off, items-done}
use Rattle.mvcc.proofs.Parts.{present-good, present-bad, present-items}
use Rattle.mvcc.proofs.present_at.Goals as goal

pub returns-in-Err-clause-result_value : goal.returns-in-Err-clause-result_value
unfolding columns_at
returns-in-Err-clause-result_value c = rw (← c.in-Err.ensures)

pub returns-in-Err-clause-result_value_2 : goal.returns-in-Err-clause-result_value_2
unfolding present_items
returns-in-Err-clause-result_value_2 c = rw (← c.in-Err.ensures)

pub returns-in-Err-decode_column-clause-result_value : goal.returns-in-Err-decode_column-clause-result_value
returns-in-Err-decode_column-clause-result_value c =
    let l = c.loop-i in
    let s = c.args.body.now in
    let left : 0 < c.in-Ok.counted.0 - l.i = omega arith in
    present-bad s c.args.at (sym c.in-Ok.ensures)
    (many-off (column_at s) _ l.end left (sym c.in-Err-decode_column.ensures) l.invariant.0)

pub returns-in-Err-decode_column-clause-result_value_2 : goal.returns-in-Err-decode_column-clause-result_value_2
returns-in-Err-decode_column-clause-result_value_2 c =
    let l = c.loop-i in
    let s = c.args.body.now in
    let left : 0 < c.in-Ok.counted.0 - l.i = omega arith in
    present-items s c.args.at (sym c.in-Ok.ensures)
    (columns-off s l.i _ l.end left l.invariant.1 (sym c.in-Err-decode_column.ensures))

pub loop-i-preserved : goal.loop-i-preserved
loop-i-preserved c =
    let l = c.loop-i in
    let s = c.args.body.now in
    let left : 0 < c.in-Ok.counted.0 - l.i = omega arith in
    let less : c.in-Ok.counted.0 - (l.i + 1) ≡ c.in-Ok.counted.0 - l.i - 1 = omega arith in
    let e = sym c.in-Ok-decode_column.ensures in (
      rw less (many-on (column_at s) _ l.end left e l.invariant.0),
      rw less (columns-on s l.i _ l.end left l.invariant.1 e),
    )

pub returns-clause-result_value : goal.returns-clause-result_value
returns-clause-result_value c =
    let l = c.loop-i in
    let s = c.args.body.now in
    present-good s c.args.at (sym c.in-Ok.ensures) (many-done (column_at s) _ l.end (omega arith) l.invariant.0)

pub returns-clause-result_value_2 : goal.returns-clause-result_value_2
returns-clause-result_value_2 c =
    let l = c.loop-i in
    let s = c.args.body.now in
    let n = present-items s c.args.at (sym c.in-Ok.ensures)
    (items-done (column_at s) (column_items s) l.i (c.in-Ok.counted.0 - l.i) l.end (omega arith) l.invariant.1) in
    omega (arith, n)
