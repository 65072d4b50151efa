-- `mvcc_build::add_record` meets its contract. Assumes nothing.
use native.Mathlib.Omega.{arith}
use mir.ValLaws.{to_z-of_z}
use mir.Syntax.{w64}
use mathlib.Core.Path.{sym}
use Rattle.std.proofs.lemmas.Result.{err_from_is_err_and}
use Rattle.mvcc_build.proofs.Laws.{judged-fine, head-refused, head-many, head_done}
use Rattle.mvcc_build.proofs.add_record.Goals as goal

pub returns-in_err-judge : goal.returns-in_err-judge
returns-in_err-judge c =
    let a = c.args in
    let p = err_from_is_err_and c.from_residual.result c.from_residual.ensures.1 in
    let both = head-refused a.b a.body.now a.texts a.op a.table.now a.rowid a.zeros (sym c.in_err-judge.ensures) in
    rw (p.1, p.2) (record { value = both.0; body_after = both.1 })

pub returns-then-records : goal.returns-then-records
returns-then-records c =
    let a = c.args in
    let both = head-many a.b a.body.now a.texts a.op a.table.now a.rowid a.zeros (sym c.in_ok-judge.ensures) c.if-records.true in
    record { value = both.0; body_after = both.1 }

pub put_record-requires : goal.put_record-requires
put_record-requires c = let f = judged-fine _ _ _ (sym c.in_ok-judge.ensures) in (f.0, omega (arith, f.2))

pub overflow_add-counted-2 : goal.overflow_add-counted-2
overflow_add-counted-2 c = omega (arith, (judged-fine _ _ _ (sym c.in_ok-judge.ensures)).2)

pub overflow_add-result : goal.overflow_add-result
overflow_add-result c = omega (arith, (judged-fine _ _ _ (sym c.in_ok-judge.ensures)).2)

pub returns : goal.returns
returns c =
    let a = c.args in
    let both = head_done a.b a.body.now a.texts a.op a.table.now a.rowid a.zeros (sym c.in_ok-judge.ensures) c.if-records.false c.last_of.ensures (rw (to_z-of_z w64 a.rowid c.ranges.rowid) at c.put_record.ensures) c.write_u16.ensures.1 in
    record { value = both.0; body_after = both.1 }
