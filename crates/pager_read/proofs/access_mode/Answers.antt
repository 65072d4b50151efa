use mathlib.Core.Path.{sym, ◌∙◌}
use Rattle.pager_state.specs.Queries.{access_mode}
use Rattle.pager_read.proofs.access_mode.Goals as goal

pub returns-then-is_busy : goal.returns-then-is_busy
unfolding access_mode
returns-then-is_busy c = rw (sym c.is_busy.ensures ∙ c.if-is_busy.true)

pub returns : goal.returns
unfolding access_mode
returns c = rw (sym c.is_busy.ensures ∙ c.if-is_busy.false, c.mode_of.ensures)
