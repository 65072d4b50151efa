use Rattle.std.proofs.Common.{◌≡◌, sym, ◌∙◌, true, false, ◌+◌, ◌-◌, arith, rules}
use Rattle.text.proofs.Judging.{judges-on, judges-not, judges-end}
use Rattle.text.proofs.windows.Goals as goal

pub returns-in_err-begun : goal.returns-in_err-begun
returns-in_err-begun c =
    let j = c.loop-at.invariant in
    let m = c.min-w in
    rw (c.from_residual.ensures, judges-not c.args.s.now j m.result (omega (arith, m.ensures, j.room, j.on)) (omega (arith, m.ensures)) c.in_err-begun.ensures)

pub loop-at-preserved : goal.loop-at-preserved
loop-at-preserved c =
    let v = c.loop-at in
    let j = v.invariant in
    let m = c.min-w in
    let w = m.result in
    let q = c.in_ok-begun in
    let e : w - 3 + 3 + (v.at - w) ≡ v.at = omega (arith, m.ensures, j.room, j.on) in
    let f : w - 3 + 19 ≡ w + 16 = omega (arith, m.ensures, j.room, j.on) in
    rw c.from-chars.ensures (judges-on c.args.s.now q.begun w 16 j (omega (arith, m.ensures, j.room, j.on)) (omega (arith, m.ensures))
    (omega (arith, m.ensures, j.inside)) (omega (arith, m.ensures, j.room)) q.ensures.0 (rw (e, f) at q.ensures.1))

pub returns-then-ends_open : goal.returns-then-ends_open
returns-then-ends_open c =
    judges-end c.args.s.now c.loop-at.invariant (search rules) true (sym c.ends_open.ensures ∙ c.if-ends_open.true)

pub returns-else-ends_open : goal.returns-else-ends_open
returns-else-ends_open c =
    judges-end c.args.s.now c.loop-at.invariant (search rules) false (sym c.ends_open.ensures ∙ c.if-ends_open.false)
