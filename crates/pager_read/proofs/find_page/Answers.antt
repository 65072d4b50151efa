use mathlib.Core.Path.{sym, ◌∙◌}
use Rattle.pager_state.specs.World.{fine}
use Rattle.pager_state.specs.Overlay.{read_refusal, find_page}
use Rattle.pager_read.proofs.find_page.Goals as goal

pub returns-then-not-are_fine : goal.returns-then-not-are_fine
unfolding find_page read_refusal fine
returns-then-not-are_fine c = rw (sym c.are_fine.ensures ∙ c.if-not-are_fine.true)

pub returns-then-is_busy : goal.returns-then-is_busy
unfolding find_page read_refusal fine
returns-then-is_busy c = rw (sym c.are_fine.ensures ∙ c.if-not-are_fine.false, sym c.is_busy.ensures ∙ c.if-is_busy.true)

pub returns : goal.returns
unfolding find_page read_refusal fine
returns c = rw (sym c.are_fine.ensures ∙ c.if-not-are_fine.false, sym c.is_busy.ensures ∙ c.if-is_busy.false, c.overlay.ensures)
