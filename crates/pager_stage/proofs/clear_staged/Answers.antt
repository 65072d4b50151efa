use mathlib.Core.Path.{sym, ◌∙◌}
use Rattle.pager_state.specs.Staging.{clear_staged}
use Rattle.pager_stage.proofs.clear_staged.Goals as goal

pub returns-then-is_busy : goal.returns-then-is_busy
unfolding clear_staged
returns-then-is_busy c = rw (sym c.is_busy.ensures ∙ c.if-is_busy.true)

pub returns : goal.returns
unfolding clear_staged
returns c = rw (sym c.is_busy.ensures ∙ c.if-is_busy.false)
