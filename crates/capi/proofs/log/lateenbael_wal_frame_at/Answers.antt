use mathlib.Core.Path.{refl}
use Rattle.capi.proofs.Exported.{told}
use Rattle.capi.specs.Log.{frame_as}
use Rattle.capi.proofs.log.lateenbael_wal_frame_at.Goals as goal

pub returns-in-Some : goal.returns-in-Some
returns-in-Some c = told frame_as refl c.in-Some.is c.frame_at.ensures

pub returns-in-None : goal.returns-in-None
returns-in-None c = told frame_as refl c.in-None.is c.frame_at.ensures
