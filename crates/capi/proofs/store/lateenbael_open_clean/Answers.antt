use mathlib.Core.Bool.{true}
use Rattle.pager_open.specs.Given.{files}
use Rattle.capi.proofs.Calls.{by-opening}
use Rattle.capi.proofs.store.lateenbael_open_clean.Goals as goal

pub returns : goal.returns
returns c =
    let a = c.args in
    let both = by-opening true a.salt a.table.now (files a.main.now a.main_len a.log.now a.log_len) a.staging.now c.mode_in-mode.ensures c.flag_in-exists.ensures (c.open_clean.ensures.result_value, (c.open_clean.ensures.table_after, c.open_clean.ensures.log_after)) c.done_as.ensures in
    record { fact = both.0; table_after = both.1.0; log_after = both.1.1 }
