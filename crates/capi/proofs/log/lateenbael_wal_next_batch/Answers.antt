use Rattle.capi_numbers.specs.Numbers.{wal_in}
use mathlib.Core.Path.{refl}
use Rattle.capi.proofs.Exported.{told}
use Rattle.capi.specs.Log.{batch_as}
use Rattle.capi.proofs.log.lateenbael_wal_next_batch.Goals as goal

pub returns-in-Some : goal.returns-in-Some
unfolding wal_in
returns-in-Some c =
    let h = rw c.from.ensures at c.next_batch.ensures in
    told batch_as refl c.in-Some.is h

pub returns-in-None : goal.returns-in-None
unfolding wal_in
returns-in-None c =
    let h = rw c.from.ensures at c.next_batch.ensures in
    told batch_as refl c.in-None.is h
