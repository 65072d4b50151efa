use Rattle.std.proofs.Common.{◌≡◌, ◌+◌, ◌-◌, drop, sym, ◌∙◌, arith, length-take, length-drop}
use Rattle.std.proofs.lemmas.List.{take-append-drop}
use Rattle.le.proofs.Compare.{no_test}
use Rattle.text.proofs.is_plain.Goals as goal
use Rattle.text.proofs.Laws.{ascii-part}

pub returns-then-is_open : goal.returns-then-is_open
returns-then-is_open c = no_test

pub returns : goal.returns
returns c x =
    let at = c.args.at in
    let s = c.args.s.now in
    let e : at - 3 + 1 ≡ at - 2 = omega arith in
    let f : at - 3 + 2 ≡ at - 1 = omega arith in (
      rw (e, f) (sym c.is_open.ensures ∙ c.if-is_open.false),
      ascii-part s _ _ at (sym (take-append-drop (at + 128 - at) (drop at s))) (at + 128) (c.is_ascii.ensures x) (simp (length-take, length-drop) (omega arith)),
    )
