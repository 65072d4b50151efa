use Rattle.std.proofs.Common.{◌≡◌, ◌-◌}
use Rattle.pager_state.specs.World.{page_limit}
use Rattle.pager_state.specs.Pages.{pages_from, differs_in}
use Rattle.pager_differing.proofs.next_differing.Given as goal

abbrev pub invariant-loop-found : goal.invariant-loop-found
invariant-loop-found l = pages_from (differs_in l.staged l.areas.staging.now l.areas.table.now l.areas.log.now l.areas.main.now) l.page ≡ pages_from (differs_in l.staged l.areas.staging.now l.areas.table.now l.areas.log.now l.areas.main.now) l.from

abbrev pub decreases-loop-found : goal.decreases-loop-found
decreases-loop-found l = page_limit - l.from
