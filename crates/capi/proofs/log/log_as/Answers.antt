use mathlib.Core.Path.{sym, ap, ◌∙◌}
use Rattle.capi.specs.Log.{log_as}
use Rattle.capi.proofs.log.log_as.Goals as goal

pub returns-in-Ok : goal.returns-in-Ok
returns-in-Ok c = c.given.ensures ∙ ap log_as (sym c.in-Ok.is)

pub returns-in-Err : goal.returns-in-Err
returns-in-Err c = c.refused.ensures ∙ ap log_as (sym c.in-Err.is)
