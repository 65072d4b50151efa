use mathlib.Core.Path.{sym, ◌∙◌}
use Rattle.std.proofs.Common.{◌+◌, ◌≤◌, ◌<◌, length, arith}
use borrow.Author.Tests.{le-leb, lt-leb}
use Rattle.le.proofs.Fields.{field-one, field-whole}
use Rattle.mvcc.proofs.Laws.{num-taken, num-short}
use Rattle.mvcc.proofs.take_byte.Goals as goal

pub returns-then-body-at : goal.returns-then-body-at
returns-then-body-at c =
    let a = c.args in
    let h : length a.body.now < a.at + 1 = omega arith in
    num-short 1 a.body.now a.at (lt-leb _ _ h)

pub returns : goal.returns
returns c =
    let a = c.args in
    let h : a.at + 1 ≤ length a.body.now = omega arith in
    num-taken 1 a.body.now a.at (le-leb _ _ h) (c.from.ensures ∙ sym (field-one a.at a.body.now c.if-body-at.false) ∙ sym (field-whole 1 a.at a.body.now h))
