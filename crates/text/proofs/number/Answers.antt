use borrow.Author.Rules.{rules}
use native.Mathlib.Omega.{arith}
use mathlib.Core.Logic.{⊎_elim}
use mathlib.Core.Path.{refl, ◌∙◌}
use Rattle.le.proofs.Tests.{le-or-lt}
use Rattle.text.proofs.number.Goals as goal
use Rattle.text.proofs.Laws.{told, left, over-ascii, ascii-number}

pub returns-then-is_short_ascii : goal.returns-then-is_short_ascii
returns-then-is_short_ascii c = ascii-number c.args.s.now (c.is_short_ascii.ensures c.if-is_short_ascii.true)

pub returns-then-ends_ascii : goal.returns-then-ends_ascii
returns-then-ends_ascii c =
    let s = c.args.s.now in
    let f = c.front-at in
    let e = c.ends_ascii.ensures c.if-ends_ascii.true in
    ascii-number s (λ k l m. ⊎_elim (λ x. e k x m) (λ x. f.ensures.1 k l x) (le-or-lt f.result k))

pub returns : goal.returns
returns c =
    let s = c.args.s.now in
    let f = c.front-at in
    let p = told {n = f.result} (over-ascii s 0 f.result f.ensures.1 (search rules) (search rules) (search rules) f.ensures.0) refl (omega arith) in
    c.tail.ensures ∙ left p
