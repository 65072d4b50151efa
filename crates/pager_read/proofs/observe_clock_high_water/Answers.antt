use mathlib.Core.Path.{sym, ◌∙◌}
use Rattle.pager_state.specs.Queries.{observe_clock}
use Rattle.pager_read.proofs.observe_clock_high_water.Goals as goal

pub returns-then-is_busy : goal.returns-then-is_busy
unfolding observe_clock
returns-then-is_busy c = rw (sym c.is_busy.ensures ∙ c.if-is_busy.true)

pub returns : goal.returns
unfolding observe_clock
returns c = rw (sym c.is_busy.ensures ∙ c.if-is_busy.false, c.observed-wal.ensures)
