use Rattle.std.proofs.Common.{◌+◌, length, drop_of_length-le, ap, ◌∙◌, arith}
use Rattle.std.proofs.lemmas.List.{drop_min}
use Rattle.replay.proofs.Lines.{line-rest}
use Rattle.replay.proofs.next_case.Goals as goal
use Rattle.replay.specs.Cases.{rest_of}

pub returns-then-list-at : goal.returns-then-list-at
unfolding rest_of
returns-then-list-at c =
    let l = c.args.list.now in
    record {
      within = omega arith;
      ahead = λ h. omega arith;
      rest = rw (drop_of_length-le l c.if-list-at.true) (drop_of_length-le l (omega arith));
    }

pub returns : goal.returns
returns c =
    let l = c.args.list.now in
    let at = c.args.at in
    let end = at + length c.line_at.result.now in
    record {
      within = omega arith;
      ahead = λ h. omega arith;
      rest = rw c.min.ensures (drop_min (end + 1) l ∙ line-rest l at end (ap (λ m. at + length m) c.line_at.ensures));
    }
