use native.Mathlib.Omega.{arith}
use mathlib.Core.Logic.{⊎_elim}
use borrow.Author.Rules.{rules}
use Rattle.le.proofs.Tests.{le-or-lt}
use Rattle.text.proofs.front.Goals as goal

pub returns-then-s-lt8 : goal.returns-then-s-lt8
returns-then-s-lt8 c = (search rules, λ k l m. absurd (omega arith))

pub returns : goal.returns
returns c =
    let f = c.skip.ensures in
    let g = c.skip-2.ensures in
    let h = c.skip-3.ensures in
    (h.1.0, λ k l m. ⊎_elim (λ x. h.1.1 k x m) (λ x. ⊎_elim (λ y. g.1.1 k y x) (λ y. f.1.1 k l y) (le-or-lt c.skip.result k)) (le-or-lt c.skip-2.result k))
