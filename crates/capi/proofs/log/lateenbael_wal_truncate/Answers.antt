use mathlib.Core.Path.{ap, ◌∙◌}
use Rattle.capi.specs.Log.{log_as}
use Rattle.capi.proofs.log.lateenbael_wal_truncate.Goals as goal

pub returns : goal.returns
returns c =
    let h = rw c.from.ensures at c.truncate.ensures in
    record { value = c.log_as.ensures ∙ ap log_as h.0; log_after = h.1 }
