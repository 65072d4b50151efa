use mathlib.Core.Path.{sym, ◌∙◌}
use Rattle.pager_state.specs.Queries.{header}
use Rattle.pager_read.proofs.header.Goals as goal

pub returns-then-is_busy : goal.returns-then-is_busy
unfolding header
returns-then-is_busy c = rw (sym c.is_busy.ensures ∙ c.if-is_busy.true)

pub returns : goal.returns
unfolding header
returns c = rw (sym c.is_busy.ensures ∙ c.if-is_busy.false)
