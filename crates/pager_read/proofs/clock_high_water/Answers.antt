use mathlib.Core.Path.{sym, ◌∙◌}
use Rattle.pager_state.specs.Queries.{clock_high_water_of}
use Rattle.pager_read.proofs.clock_high_water.Goals as goal

pub returns-then-is_busy : goal.returns-then-is_busy
unfolding clock_high_water_of
returns-then-is_busy c = rw (sym c.is_busy.ensures ∙ c.if-is_busy.true)

pub returns : goal.returns
unfolding clock_high_water_of
returns c = rw (sym c.is_busy.ensures ∙ c.if-is_busy.false)
