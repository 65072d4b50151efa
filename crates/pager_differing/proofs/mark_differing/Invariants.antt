use Rattle.std.proofs.Common.{◌≡◌, ◌≤◌, length}
use Rattle.pager_state.specs.Pages.{pages_from}
use Rattle.pager_differing.proofs.Differing.{Upto}
use Rattle.pager_differing.proofs.Marking.{Front}
use Rattle.pager_differing.proofs.mark_differing.Given as goal

abbrev pub invariant-loop-i : goal.invariant-loop-i
invariant-loop-i l = record {
  few : l.count ≤ l.i;
  counted : l.count ≡ length (pages_from (Upto l.staged l.areas.staging.now l.areas.table.now l.areas.log.now l.areas.main.now l.i) 0);
  marked : Front l.staged l.areas.staging.now l.areas.table.now l.areas.log.now l.areas.main.now l.i l.pages;
}
