use Rattle.text.specs.Walk.{Ascii}
use Rattle.text.proofs.is_short_ascii.Given as goal

abbrev pub invariant-loop-b : goal.invariant-loop-b
invariant-loop-b l = Ascii l.s 0 l.b-index
