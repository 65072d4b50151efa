use Rattle.std.proofs.Common.{◌≡◌, ◌+◌, ◌≤◌, length}
use Rattle.pager_state.specs.Pages.{pages_from, in_checkpoint_by}
use Rattle.pager_checkpoint.proofs.count_in_checkpoint.Given as goal

abbrev pub invariant-loop-entry : goal.invariant-loop-entry
invariant-loop-entry l =
    (l.n ≤ l.entry-index) × (l.n + length (pages_from (in_checkpoint_by l.count l.table) (l.entry-index + 1)) ≡ length (pages_from (in_checkpoint_by l.count l.table) 0))
