use mathlib.Core.Path.{refl}
use Rattle.capi.proofs.Exported.{told}
use Rattle.capi.specs.Log.{wal_header_as}
use Rattle.capi.proofs.log.lateenbael_decode_wal_header.Goals as goal

pub returns-in-Ok : goal.returns-in-Ok
returns-in-Ok c = told wal_header_as refl c.in-Ok.is c.decode_wal_header.ensures

pub returns-in-Err : goal.returns-in-Err
returns-in-Err c = told wal_header_as c.no_log_header.ensures c.in-Err.is c.decode_wal_header.ensures
