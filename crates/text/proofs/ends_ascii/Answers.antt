use Rattle.std.proofs.Common.{◌-◌, length, drop, sym, arith, length-take, length-drop}
use Rattle.std.proofs.lemmas.List.{take-append-drop}
use Rattle.text.proofs.ends_ascii.Goals as goal
use Rattle.text.proofs.Laws.{ascii-part}

pub returns : goal.returns
returns c x k l m =
    let s = c.args.s.now in
    let a = length s - 8 in
    ascii-part s _ _ a (sym (take-append-drop (length s - a) (drop a s))) (length s) (c.is_ascii.ensures x) (simp (length-take, length-drop) (omega arith)) k (omega arith) m
