use Rattle.std.proofs.Common.{◌≡◌, ◌+◌, ◌-◌, arith}
use Rattle.text.proofs.Judging.{plain_fits, plain-begun}
use Rattle.text.proofs.judge.Goals as goal

pub returns-then-is_plain : goal.returns-then-is_plain
returns-then-is_plain c =
    let a = c.args in
    let p = c.is_plain.ensures c.if-is_plain.true in
    let e : a.at - 3 + 3 ≡ a.at = omega arith in
    (plain_fits a.s.now (a.at - 3) p.0 128 (rw e p.1), plain-begun a.s.now a.at 128 (omega arith) p.1)
