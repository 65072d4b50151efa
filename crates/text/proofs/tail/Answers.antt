use native.Mathlib.Omega.{arith}
use mathlib.Core.Path.{refl, ◌∙◌}
use borrow.Author.Rules.{rules}
use Rattle.text.proofs.Laws.{stay, then, told, well, ill, over-sequence}
use Rattle.text.proofs.tail.Goals as goal

pub loop-at-init : goal.loop-at-init
loop-at-init c = (search rules, told (stay (search rules)) refl (omega arith))

pub returns-in_err-at : goal.returns-in_err-at
returns-in_err-at c = c.from_residual.ensures ∙ ill c.args.passed c.loop-at.invariant.1 (search rules) c.in_err-at.ensures

pub overflow_add-at : goal.overflow_add-at
overflow_add-at c =
    let n = c.in_ok-at.ensures in
    omega (arith, (over-sequence c.args.s.now c.loop-at.at c.in_ok-at.field-0 (search rules) n.0 n.1).inside)

pub loop-at-preserved : goal.loop-at-preserved
loop-at-preserved c =
    let l = c.loop-at in
    let n = c.in_ok-at.ensures in
    let p = over-sequence c.args.s.now l.at c.in_ok-at.field-0 (search rules) n.0 n.1 in
    (omega (arith, l.invariant.0), told (then l.invariant.1 p) refl (omega (arith, l.invariant.0)))

pub returns : goal.returns
returns c =
    let l = c.loop-at in
    well c.args.passed l.invariant.1 (search rules) (omega (arith, l.invariant.0))
