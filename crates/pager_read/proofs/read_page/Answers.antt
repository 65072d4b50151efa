use mathlib.Core.Path.{sym, ◌∙◌}
use Rattle.pager_state.specs.Overlay.{read_page}
use Rattle.pager_read.proofs.read_page.Goals as goal

pub returns-in_default : goal.returns-in_default
unfolding read_page
returns-in_default c = rw (sym c.find_page.ensures ∙ c.in_default.is)

pub returns-in-Staged : goal.returns-in-Staged
unfolding read_page
returns-in-Staged c = rw (sym c.find_page.ensures ∙ c.in-Ok.is, c.in-Staged.is) c.page_from.ensures

pub returns-in-Log : goal.returns-in-Log
unfolding read_page
returns-in-Log c = rw (sym c.find_page.ensures ∙ c.in-Ok.is, c.in-Log.is) c.page_from-in-Log.ensures

pub returns-in-Main : goal.returns-in-Main
unfolding read_page
returns-in-Main c = rw (sym c.find_page.ensures ∙ c.in-Ok.is, c.in-Main.is) c.page_from-in-Main.ensures

pub returns-in-Nothing : goal.returns-in-Nothing
unfolding read_page
returns-in-Nothing c = rw (sym c.find_page.ensures ∙ c.in-Ok.is, c.in-Nothing.is)
