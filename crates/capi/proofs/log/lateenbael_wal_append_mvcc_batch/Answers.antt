use mathlib.Core.Path.{ap, ◌∙◌}
use Rattle.capi.specs.Log.{log_as}
use Rattle.capi.proofs.log.lateenbael_wal_append_mvcc_batch.Goals as goal

pub returns : goal.returns
returns c =
    let h = rw c.from.ensures at c.append_mvcc_batch.ensures in
    record { value = c.log_as.ensures ∙ ap log_as h.value; log_after = h.log_after }
