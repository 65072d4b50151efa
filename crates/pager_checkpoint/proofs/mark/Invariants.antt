use Rattle.std.proofs.Common.{◌≡◌, ℕ, ◌≤◌, ◌<◌, get_or, min}
use Rattle.pager_checkpoint.proofs.mark.Given as goal

abbrev pub invariant-loop-entry : goal.invariant-loop-entry
invariant-loop-entry l =
    ((k : ℕ) → k < l.entry-index → get_or l.table k 0 ≡ min (get_or l.initial.table k 0) 1) × ((k : ℕ) → l.entry-index ≤ k → get_or l.table k 0 ≡ get_or l.initial.table k 0)
