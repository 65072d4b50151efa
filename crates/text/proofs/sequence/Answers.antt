use Rattle.std.proofs.Common.{arith}
use Rattle.text.proofs.Laws.{cut, full, sized, size-one, size-two, size-three, size-four}
use borrow.Author.Rules.{rules}
use Rattle.text.proofs.sequence.Goals as goal

pub returns-then-a-lt128 : goal.returns-then-a-lt128
returns-then-a-lt128 c =
    let a = c.args in
    (omega arith, size-one a.s.now a.at (search rules) c.if-a-lt128.true)

pub returns-then-left-lt2 : goal.returns-then-left-lt2
returns-then-left-lt2 c =
    let a = c.args in
    size-two a.s.now a.at c.if-a-lt128.false c.if-a-lt224.true (cut 2 _ _ c.if-left-lt2.true)

pub returns-then-a-lt224 : goal.returns-then-a-lt224
returns-then-a-lt224 c =
    let a = c.args in
    sized _ (omega arith) c.then_some.ensures (size-two a.s.now a.at c.if-a-lt128.false c.if-a-lt224.true (full 2 _ c.if-left-lt2.false c.two.ensures))

pub returns-then-left-lt3 : goal.returns-then-left-lt3
returns-then-left-lt3 c =
    let a = c.args in
    size-three a.s.now a.at c.if-a-lt224.false c.if-a-lt240.true (cut 3 _ _ c.if-left-lt3.true)

pub returns-then-a-lt240 : goal.returns-then-a-lt240
returns-then-a-lt240 c =
    let a = c.args in
    sized _ (omega arith) c.then_some-then-a-lt240.ensures (size-three a.s.now a.at c.if-a-lt224.false c.if-a-lt240.true (full 3 _ c.if-left-lt3.false c.three.ensures))

pub returns-then-left-lt4 : goal.returns-then-left-lt4
returns-then-left-lt4 c =
    let a = c.args in
    size-four a.s.now a.at c.if-a-lt240.false (cut 4 _ _ c.if-left-lt4.true)

pub returns : goal.returns
returns c =
    let a = c.args in
    sized _ (omega arith) c.then_some-2.ensures (size-four a.s.now a.at c.if-a-lt240.false (full 4 _ c.if-left-lt4.false c.four.ensures))
