use mathlib.Core.Path.{◌≡◌, sym, ◌∙◌}
use Rattle.std.proofs.Common.{◌+◌, ◌-◌, length, leb-true, arith}
use Rattle.le.specs.Le.{le_of}
use Rattle.le.proofs.Fields.{field-whole}
use Rattle.mvcc.proofs.Bytes.{field-below, field-before}
use Rattle.mvcc.proofs.Laws.{num-taken, num-short}
use Rattle.mvcc.proofs.take.Goals as goal

pub returns-then-not-fits_in : goal.returns-then-not-fits_in
returns-then-not-fits_in g c =
    let a = c.args in num-short g.row.SIZE a.body.now a.at (sym c.fits_in.ensures ∙ c.if-not-fits_in.true)

pub loop-i-init : goal.loop-i-init
unfolding le_of
loop-i-init g c = let e : g.row.SIZE - g.row.SIZE ≡ 0 = omega arith in rw e

pub overflow_mul-n : goal.overflow_mul-n
overflow_mul-n g c =
    let a = c.args in
    let i = c.loop-i.i in
    let s = g.row.SIZE in
    omega (arith, field-below (s - i) 7 (a.at + i) a.body.now (omega arith) (λ j. (c.type_inv.body j).fits))

pub overflow_add-n : goal.overflow_add-n
overflow_add-n g c =
    let a = c.args in
    let i = c.loop-i.i in
    let s = g.row.SIZE in
    omega (arith, field-below (s - i) 7 (a.at + i) a.body.now (omega arith) (λ j. (c.type_inv.body j).fits), c.type_inv.body (a.at + (i - 1)))

pub loop-i-preserved : goal.loop-i-preserved
loop-i-preserved g c =
    let a = c.args in
    let i = c.loop-i.i in
    let s = g.row.SIZE in
    let h = leb-true (a.at + s) (length a.body.now) (sym c.fits_in.ensures ∙ c.if-not-fits_in.false) in
    rw (c.loop-i.invariant, c.from.ensures) (field-before s i a.at a.body.now (omega arith) (omega arith) h)

pub returns : goal.returns
returns g c =
    let a = c.args in
    let l = c.loop-i in
    let s = g.row.SIZE in
    let t = sym c.fits_in.ensures ∙ c.if-not-fits_in.false in
    let h = leb-true (a.at + s) (length a.body.now) t in
    let e : s - l.i ≡ s = omega arith in
    let k : a.at + l.i ≡ a.at = omega arith in
    num-taken s a.body.now a.at t (rw (e, k) at l.invariant ∙ sym (field-whole s a.at a.body.now h))
