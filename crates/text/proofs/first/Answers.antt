use native.Mathlib.Omega.{arith}
use mathlib.Core.Path.{sym, ◌∙◌}
use borrow.Author.Rules.{rules}
use lib.ListN.{drop}
use Rattle.text.proofs.Laws.{stay, then, over-sequence, no-sequence, size_few}
use Rattle.text.proofs.Judging.{first-over, first_next, first-shut, judges}
use Rattle.text.proofs.first.Goals as goal

pub loop-at-init : goal.loop-at-init
loop-at-init c = (omega arith, (first-over c.args.s.now, stay (search rules)))

pub returns-in_err-at : goal.returns-in_err-at
returns-in_err-at c =
    let s = c.args.s.now in
    let l = c.loop-at in
    rw c.from_residual.ensures (sym l.invariant.1.1.same ∙ no-sequence s l.at (search rules) c.in_err-at.ensures)

pub overflow_add-at : goal.overflow_add-at
overflow_add-at c = omega (arith, c.loop-at.invariant.0, c.in_ok-at.ensures.1, size_few (drop c.loop-at.at c.args.s.now))

pub loop-at-preserved : goal.loop-at-preserved
loop-at-preserved c =
    let s = c.args.s.now in
    let l = c.loop-at in
    let n = c.in_ok-at.ensures in
    let p = over-sequence s l.at c.in_ok-at.field-0 (search rules) n.0 n.1 in (
      omega (arith, n.1, size_few (drop l.at s)),
      (first_next s l.at c.in_ok-at.field-0 l.invariant.1.0 n.0 n.1, then l.invariant.1.1 p),
    )

pub returns : goal.returns
returns c =
    let s = c.args.s.now in
    let l = c.loop-at in
    let i = l.invariant in
    judges s l.at l.passed i.1.1 (search rules) (omega (arith, i.0)) (first-shut s l.at (search rules) i.1.0)
