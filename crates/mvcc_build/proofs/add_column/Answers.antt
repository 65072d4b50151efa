-- `mvcc_build::add_column` meets its contract. Assumes nothing.
use mathlib.Core.Path.{sym, ◌∙◌}
use native.Mathlib.Omega.{arith}
use Rattle.std.proofs.lemmas.Result.{err_from_is_err_and}
use Rattle.mvcc_build.proofs.Laws.{judged-fine, col-refused, col-none, col-many, col-done}
use Rattle.mvcc_build.proofs.add_column.Goals as goal

pub returns-in_err-judge : goal.returns-in_err-judge
returns-in_err-judge c =
    let a = c.args in
    let p = err_from_is_err_and c.from_residual.result c.from_residual.ensures.1 in
    let both = col-refused a.b a.body.now a.texts a.name.now a.tag a.k a.v a.bytes.now (sym c.in_err-judge.ensures) in
    rw (p.1, p.2) (record { value = both.0; body_after = both.1 })

pub returns-in_default : goal.returns-in_default
returns-in_default c =
    let a = c.args in
    let both = col-none a.b a.body.now a.texts a.name.now a.tag a.k a.v a.bytes.now (sym c.in_ok-judge.ensures) c.in_default.is in
    record { value = both.0; body_after = both.1 }

pub returns-then-is_full : goal.returns-then-is_full
returns-then-is_full c =
    let a = c.args in
    let both = col-many a.b a.body.now a.texts a.name.now a.tag a.k a.v a.bytes.now (sym c.in_ok-judge.ensures) (sym c.is_full.ensures ∙ c.if-is_full.true) in
    record { value = both.0; body_after = both.1 }

pub put_column-requires : goal.put_column-requires
put_column-requires c = let f = judged-fine _ _ _ (sym c.in_ok-judge.ensures) in (f.0, f.2)

pub overflow_add-result-3 : goal.overflow_add-result-3
overflow_add-result-3 c = omega (arith, (judged-fine _ _ _ (sym c.in_ok-judge.ensures)).2)

pub overflow_add-result-4 : goal.overflow_add-result-4
overflow_add-result-4 c = omega (arith, (judged-fine _ _ _ (sym c.in_ok-judge.ensures)).2)

pub returns : goal.returns
returns c =
    let a = c.args in
    let both = col-done a.b a.body.now a.texts a.name.now a.tag a.k a.v a.bytes.now (sym c.in_ok-judge.ensures) c.in-Some.is (sym c.is_full.ensures ∙ c.if-is_full.false) c.put_column.ensures c.write_u16.ensures.1 in
    record { value = both.0; body_after = both.1 }
