use mathlib.Core.Path.{ap, ◌∙◌}
use Rattle.capi.specs.Log.{log_as}
use Rattle.capi.proofs.log.lateenbael_wal_open.Goals as goal

pub returns : goal.returns
returns c = c.log_as.ensures ∙ ap log_as c.open.ensures
