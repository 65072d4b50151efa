use mathlib.Core.Path.{sym, ap, ◌∙◌}
use Rattle.capi.specs.Text.{text_numbers}
use Rattle.capi.proofs.texts.lateenbael_from_utf8.Goals as goal

pub returns-in-Some : goal.returns-in-Some
returns-in-Some c = ap text_numbers (sym c.in-Some.is ∙ c.from_utf8.ensures)

pub returns-in-None : goal.returns-in-None
returns-in-None c = rw c.number.ensures (ap text_numbers (sym c.in-None.is ∙ c.from_utf8.ensures))
