use Rattle.capi_numbers.specs.Numbers.{wal_in}
use mathlib.Core.Path.{refl}
use Rattle.capi.proofs.Exported.{told}
use Rattle.capi.specs.Log.{place_as}
use Rattle.capi.proofs.log.lateenbael_wal_find_page.Goals as goal

pub returns-in-Some : goal.returns-in-Some
unfolding wal_in
returns-in-Some c =
    let h = rw c.from.ensures at c.find_page.ensures in
    told place_as refl c.in-Some.is h

pub returns-in-None : goal.returns-in-None
unfolding wal_in
returns-in-None c =
    let h = rw c.from.ensures at c.find_page.ensures in
    told place_as refl c.in-None.is h
