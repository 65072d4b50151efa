use native.Mathlib.Omega.{arith}
use borrow.Author.Rules.{rules}
use Rattle.text.proofs.Judging.{judges-ascii}
use Rattle.text.proofs.start.Goals as goal

pub returns-then-front-ge3 : goal.returns-then-front-ge3
returns-then-front-ge3 c =
    let a = c.args in
    judges-ascii a.s.now a.front c.requires.1 (search rules) (omega (arith, c.requires.0))
