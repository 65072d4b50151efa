use Rattle.std.proofs.Common.{eqb-true}
use Rattle.le.proofs.Compare.{both_true}
use Rattle.wal.specs.Write.{truncated_header, truncate_answer, truncate_after}
use Rattle.wal.proofs.Writing.{headed-done, passed, stopped}
use Rattle.wal.proofs.truncate.Goals as goal

pub returns-in_err-check_area : goal.returns-in_err-check_area
unfolding truncate_answer truncate_after
returns-in_err-check_area c =
    let p = stopped _ _ c.from_residual.result c.from_residual.ensures.1 c.in_err-check_area.ensures in
    (rw (p.1, p.0), rw p.0)

pub returns : goal.returns
unfolding truncate_answer truncate_after truncated_header
returns c =
    let a = c.args in
    let fine = passed _ _ c.in_ok-check_area.ensures in
    (rw (fine, c.empty.ensures), rw fine (headed-done a.log.now (truncated_header a.wal.header a.salt) (eqb-true _ _ (both_true _ _ fine).0) c.encode_wal_header.ensures.1))
