use Rattle.std.proofs.Common.{◌≡◌, ◌<◌, get_or, take, arith, ◌∙◌, length-take, get_or-take}
use Rattle.std.proofs.lemmas.List.{take_min}
use Rattle.pager_differing.proofs.Least.{least_step, least-page}
use Rattle.pager_differing.proofs.lowest.Goals as goal

pub loop-number-preserved : goal.loop-number-preserved
loop-number-preserved c =
    let a = c.args in
    let i = c.loop-number.number-index in
    let h : i < c.min.result = omega (arith, length-take c.min.result a.s.now, c.loop-number-test.true) in
    let x = get_or (take c.min.result a.s.now) i 0 in
    let b : x < 65536 = rw (get_or-take c.min.result a.s.now i 0 h) (c.type_inv.s i).fits in
    least_step _ a.page i c.loop-number.invariant _ (omega arith) c.requires (omega (arith, b, c.requires)) c.min-least.ensures

pub returns : goal.returns
returns c =
    let a = c.args in
    let e : take c.min.result a.s.now ≡ take a.n a.s.now = rw c.min.ensures (take_min a.n a.s.now) in
    c.min-2.ensures ∙ rw (c.from.ensures, ← e) (least-page (take c.min.result a.s.now) a.page (omega arith) c.requires c.loop-number.invariant)
