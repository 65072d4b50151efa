use Rattle.std.proofs.Common.{◌≡◌, sym, ◌∙◌, ◌+◌, arith}
use mathlib.Core.Bool.{and-eq-true_iff}
use Rattle.text.proofs.Judging.{one-most, unless, judgement, begun_more, fit-more, fits-none}
use Rattle.text.proofs.judge_block.Goals as goal

pub loop-j-preserved : goal.loop-j-preserved
loop-j-preserved c =
    let a = c.args in
    let v = c.loop-j in
    let i = v.invariant in
    let s = a.s.now in
    let f = c.fits-all.ensures in
    let e : a.from + v.j + 3 ≡ a.from + 3 + v.j = omega arith in
    let g : a.from + 3 + v.j + 1 ≡ a.from + 3 + (v.j + 1) = omega arith in
    let m = rw (unless, c.continues.ensures, e) at c.from-begun.ensures in
    record {
      few = omega (arith, i.few, one-most _ m);
      fit = λ t.
          let q = simp and-eq-true_iff at t in
          fit-more s a.from v.j (i.fit q.0) (sym f ∙ q.1);
      ill = λ t. fits-none s a.from v.j v.all (omega arith) i.fit i.ill f t;
      counted = rw g at (begun_more s (a.from + 3) (a.from + 3 + v.j) v.begun i.counted (omega arith) m);
    }

pub returns : goal.returns
returns c =
    let v = c.loop-j in
    let i = v.invariant in
    let a = c.args in
    let e : v.j ≡ 128 = omega arith in
    let f : a.from + 3 + 128 ≡ a.from + 131 = omega arith in
    judgement v.all _ c.then_some.ensures i.ill (λ t. (rw e at (i.fit t), rw (e, f) at i.counted))
