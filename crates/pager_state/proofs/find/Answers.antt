use mathlib.Core.Path.{◌≡◌, ◌∙◌}
use Prim.Native.Nat.{◌+◌, ◌≤◌, ◌<◌}
use native.Mathlib.Omega.{arith}
use lib.ListN.{length, drop}
use Rattle.pager_state.specs.Overlay.{find_in}
use Rattle.pager_state.proofs.Slots.{find-length, find-drop, find-rest, halved}
use Rattle.pager_state.proofs.find.Goals as goal

pub overflow_add-result : goal.overflow_add-result
overflow_add-result c =
    let rest : (let a = c.args in
    c.front_without-front.result + c.find_each-then-s-front-lt-BLOCK.result ≡ find_in a.s.now a.p) =
    let F = c.front_without-front in
    let a = c.args in
    let e : c.find_each-then-s-front-lt-BLOCK.result ≡ find_in (drop F.result a.s.now) a.p = c.find_each-then-s-front-lt-BLOCK.ensures ∙ find-rest a.s.now a.p F.result in
    omega (arith, e, find-drop a.s.now F.result a.p F.ensures.upper_bound.1) in
    omega (arith, rest, find-length c.args.s.now c.args.p, c.ranges)

pub returns-then-s-front-lt-BLOCK : goal.returns-then-s-front-lt-BLOCK
returns-then-s-front-lt-BLOCK c =
    let rest : (let a = c.args in
    c.front_without-front.result + c.find_each-then-s-front-lt-BLOCK.result ≡ find_in a.s.now a.p) =
    let F = c.front_without-front in
    let a = c.args in
    let e : c.find_each-then-s-front-lt-BLOCK.result ≡ find_in (drop F.result a.s.now) a.p = c.find_each-then-s-front-lt-BLOCK.ensures ∙ find-rest a.s.now a.p F.result in
    omega (arith, e, find-drop a.s.now F.result a.p F.ensures.upper_bound.1) in
    rest
