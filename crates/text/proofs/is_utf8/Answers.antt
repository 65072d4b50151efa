use mathlib.Core.Path.{sym}
use borrow.Author.Rules.{rules}
use Rattle.text.proofs.Answers.{counted-tells, empty-text}
use Rattle.text.proofs.is_utf8.Goals as goal

pub returns-then-s-eq0 : goal.returns-then-s-eq0
returns-then-s-eq0 c = sym (empty-text c.args.s.now c.if-s-eq0.true).0

pub returns : goal.returns
returns c = counted-tells c.args.s.now (search rules) c.count.ensures
