use borrow.Author.Rules.{rules}
use Rattle.text.proofs.Answers.{counted-well, counted-ill, empty-text}
use Rattle.text.proofs.from_utf8.Goals as goal

pub returns-then-s-eq0 : goal.returns-then-s-eq0
returns-then-s-eq0 c =
    let e = empty-text c.args.s.now c.if-s-eq0.true in
    rw (e.0, e.1)

pub returns-then-n-eq0 : goal.returns-then-n-eq0
returns-then-n-eq0 c = rw (counted-ill c.args.s.now (search rules) c.count-n.ensures c.if-n-eq0.true)

pub returns : goal.returns
returns c =
    let e = counted-well c.args.s.now c.count-n.ensures c.if-n-eq0.false in
    rw (e.0, e.1)
