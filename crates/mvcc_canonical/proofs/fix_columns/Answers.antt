-- `mvcc_canonical::fix_columns` meets its contract. Assumes nothing.
use native.Mathlib.Omega.{arith}
use mathlib.Core.Path.{◌≡◌, sym, ap, ◌∙◌}
use Prim.Native.Nat.{◌+◌, ◌-◌, ◌<◌}
use Rattle.mvcc_canonical.proofs.Walk.{column-ok, column-on, end_on, end-done, fix-on, fix-done, column-did}
use Rattle.mvcc.specs.Decode.{column_at}
use Rattle.mvcc.specs.Fields.{column_answer}
use Rattle.mvcc_canonical.specs.Canonical.{fix_all, column_step}
use Rattle.mvcc_canonical.proofs.fix_columns.Goals as goal

pub unwrap-next-requires : goal.unwrap-next-requires
unwrap-next-requires c =
    let l = c.loop in
    column-ok c.args.body.now (c.args.n - l.counter) l.at _ (omega arith) l.invariant.0 c.decode_column.ensures

pub loop-preserved : goal.loop-preserved
loop-preserved c =
    let l = c.loop in
    let s = c.args.body.now in
    let left = c.args.n - l.counter in
    let some : 0 < c.args.n - l.counter = omega arith in
    let less : c.args.n - (l.counter + 1) ≡ c.args.n - l.counter - 1 = omega arith in
    let r = c.unwrap-next.result in
    let e = sym c.decode_column.ensures ∙ ap (λ q. column_answer q) c.unwrap-next.ensures in (
      rw less (column-on s left l.at some l.invariant.0 e),
      rw less (sym (end_on (column_at s) column_step left l.at some e) ∙ l.invariant.1),
      rw less
          (ap (fix_all (column_at s) column_step (left - 1) r.1) (column-did r.0 r.1 l.out c.fix_value.ensures)
          ∙ sym (fix-on (column_at s) column_step left l.at l.out some e) ∙ l.invariant.2),
    )

pub returns : goal.returns
returns c =
    let l = c.loop in
    let f = column_at c.args.body.now in
    record {
      value = sym (end-done f column_step (c.args.n - l.counter) l.at (omega arith)) ∙ l.invariant.1;
      out_after = sym (fix-done f column_step (c.args.n - l.counter) l.at l.out (omega arith)) ∙ l.invariant.2;
    }
