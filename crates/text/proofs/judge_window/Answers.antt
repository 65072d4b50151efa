use Rattle.std.proofs.Common.{◌≡◌, sym, ◌∙◌, ◌+◌, ◌-◌, ◌*◌, ◌/◌, arith, rules}
use mathlib.Core.Bool.{and-eq-true_iff}
use Rattle.text.proofs.Judging.{one-most, unless, judgement, place_at, window_more, fit-more, fits-none}
use Rattle.text.proofs.judge_window.Goals as goal

pub loop-j-preserved : goal.loop-j-preserved
loop-j-preserved c =
    let a = c.args in
    let v = c.loop-j in
    let i = v.invariant in
    let s = a.s.now in
    let f = c.fits-all.ensures in
    let o = c.from.result in
    let h : (v.twice + 2 * o) / 2 ≡ v.twice / 2 + o = omega (arith, i.even) in
    let e : a.from + v.j + 3 ≡ a.from + 3 + v.j = omega arith in
    let m = rw (unless, c.continues.ensures, place_at v.j (search rules), e) at c.from.ensures in
    record {
      even = omega (arith, i.even);
      few = omega (arith, i.even, i.few, one-most _ m);
      fit = λ t.
          let q = simp and-eq-true_iff at t in
          fit-more s a.from v.j (i.fit q.0) (sym f ∙ q.1);
      ill = λ t. fits-none s a.from v.j v.all (omega arith) i.fit i.ill f t;
      counted = rw h (window_more s (a.from + 3) v.j a.skip (v.twice / 2) i.counted (omega arith) m);
    }

pub returns : goal.returns
returns c =
    let v = c.loop-j in
    let i = v.invariant in
    let a = c.args in
    let e : v.j ≡ 16 = omega arith in
    let f : a.from + 3 + a.skip + (16 - a.skip) ≡ a.from + 19 = omega arith in
    judgement v.all _ c.then_some.ensures i.ill (λ t. (rw e at (i.fit t), rw (e, f) at i.counted))
