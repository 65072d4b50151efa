use mathlib.Core.Path.{refl}
use Rattle.capi.proofs.Exported.{told}
use Rattle.capi.specs.Log.{listed_as}
use Rattle.capi.proofs.log.lateenbael_list_log.Goals as goal

pub returns-in-Ok : goal.returns-in-Ok
returns-in-Ok c =
    let h = c.list_log.ensures in
    record { value = told listed_as refl c.in-Ok.is h.0; out_after = h.1 }

pub returns-in-Err : goal.returns-in-Err
returns-in-Err c =
    let h = c.list_log.ensures in
    record { value = rw c.number.ensures (told listed_as refl c.in-Err.is h.0); out_after = h.1 }
