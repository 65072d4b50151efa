use Rattle.pager_differing.proofs.Least.{Least}
use Rattle.pager_differing.proofs.lowest.Given as goal

abbrev pub invariant-loop-number : goal.invariant-loop-number
invariant-loop-number l = Least l.number-items l.page l.number-index l.least
