use Rattle.std.proofs.Common.{◌≡◌, ℕ, ◌<◌, get_or}
use Rattle.pager_state.specs.Overlay.{entry}
use Rattle.pager_state.specs.Opening.{has_page}
use Rattle.pager_open.proofs.clear_table.Given as goal

abbrev pub invariant-loop-n : goal.invariant-loop-n
invariant-loop-n l = (k : ℕ) → k < l.n → get_or l.table k 0 ≡ entry 0 (has_page l.main_header k)
