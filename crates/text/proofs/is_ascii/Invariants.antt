use Rattle.std.proofs.Common.{◌≡◌}
use Rattle.text.specs.Walk.{Ascii}
use Rattle.text.proofs.is_ascii.Given as goal

abbrev pub invariant-loop-b : goal.invariant-loop-b
invariant-loop-b l = l.high ≡ 0 → Ascii l.block 0 l.b-index
