use mathlib.Core.Path.{◌≡◌}
use lib.Dec.{leb}
use Rattle.pager_state.specs.Overlay.{find_in}
use Rattle.pager_state.proofs.is_none_of.Given as goal

abbrev pub invariant-loop-x : goal.invariant-loop-x
invariant-loop-x l = l.none ≡ leb l.x-index (find_in l.s l.p)
