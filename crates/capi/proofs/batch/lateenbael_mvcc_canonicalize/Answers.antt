use mathlib.Core.Path.{refl}
use Rattle.capi.proofs.Exported.{told}
use Rattle.capi.specs.Batch.{canonical_as}
use Rattle.capi.proofs.batch.lateenbael_mvcc_canonicalize.Goals as goal

pub returns-in-Ok : goal.returns-in-Ok
returns-in-Ok c =
    let h = c.canonicalize.ensures in
    record { value = told canonical_as refl c.in-Ok.is h.value; out_after = h.out_after }

pub returns-in-Err : goal.returns-in-Err
returns-in-Err c =
    let h = c.canonicalize.ensures in
    record { value = told canonical_as c.number.ensures c.in-Err.is h.value; out_after = h.out_after }
