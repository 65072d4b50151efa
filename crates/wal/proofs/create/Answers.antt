use Rattle.std.proofs.Common.{eq-eqb, ne_eqb}
use Rattle.wal.specs.Write.{created_header, create_answer}
use Rattle.wal.proofs.Writing.{headed-done, headed-refused}
use Rattle.wal.proofs.create.Goals as goal

pub returns-then-log-ne-WAL_AREA : goal.returns-then-log-ne-WAL_AREA
unfolding create_answer
returns-then-log-ne-WAL_AREA c =
    let a = c.args in
    (rw (ne_eqb _ _ c.if-log-ne-WAL_AREA.true), headed-refused a.log.now (created_header a.salt) c.if-log-ne-WAL_AREA.true)

pub returns : goal.returns
unfolding create_answer created_header
returns c =
    let a = c.args in
    (rw (eq-eqb _ _ c.if-log-ne-WAL_AREA.false, c.empty.ensures), headed-done a.log.now (created_header a.salt) c.if-log-ne-WAL_AREA.false c.encode_wal_header.ensures.1)
