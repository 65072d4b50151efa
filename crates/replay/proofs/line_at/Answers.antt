use Rattle.std.proofs.Common.{◌≡◌, sym, ap, ◌∙◌, length, drop, take_all, length-drop, rules}
use Rattle.replay.proofs.Lines.{length-line, take-line}
use Rattle.replay.proofs.line_at.Goals as goal
use Rattle.replay.specs.Cases.{line_of}

pub slice_bounds-result-end : goal.slice_bounds-result-end
slice_bounds-result-end c =
    let rest = c.part-rest.result.now in
    rw (c.line_len.ensures, ← length-line rest) (ap length (sym (take-line rest)))

pub returns : goal.returns
returns c =
    let rest = c.part-rest.result.now in
    let e : rest ≡ drop c.args.at c.args.list.now = search (rules, take_all, length-drop) in
    rw (c.line_len.ensures, ← length-line rest) (take-line rest ∙ ap line_of e)
