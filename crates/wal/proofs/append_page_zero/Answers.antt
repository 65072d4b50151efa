use Rattle.page.specs.Page.{front_page}
use Rattle.frame.proofs.Stores.{length-padded, padded-other}
use Rattle.wal.proofs.Writing.{passed, stopped, body_refused, area-refused, log-full, frame-appended}
use Rattle.wal.proofs.append_page_zero.Goals as goal

pub returns-then-front-ne32 : goal.returns-then-front-ne32
returns-then-front-ne32 c =
    let a = c.args in
    body_refused a.log.now a.wal 0 (front_page a.front.now) a.commit_page_count (padded-other a.front.now c.if-front-ne32.true)

pub returns-in_err-check_area : goal.returns-in_err-check_area
returns-in_err-check_area c =
    let a = c.args in
    area-refused a.log.now a.wal 0 (front_page a.front.now) a.commit_page_count (length-padded a.front.now c.if-front-ne32.false)
    (stopped _ _ c.from_residual.result c.from_residual.ensures.1 c.in_err-check_area.ensures)

pub returns-in_err-check_room : goal.returns-in_err-check_room
returns-in_err-check_room c =
    let a = c.args in
    log-full a.log.now a.wal 0 (front_page a.front.now) a.commit_page_count (length-padded a.front.now c.if-front-ne32.false) (passed _ _ c.in_ok-check_area.ensures)
    (stopped _ _ c.from_residual-in_err-check_room.result c.from_residual-in_err-check_room.ensures.1 c.in_err-check_room.ensures)

pub returns : goal.returns
returns c =
    let a = c.args in
    frame-appended a.log.now a.wal 0 (front_page a.front.now) a.commit_page_count (length-padded a.front.now c.if-front-ne32.false) (passed _ _ c.in_ok-check_area.ensures)
    (passed _ _ c.in_ok-check_room.ensures) c.write_padded_frame.ensures.log_after c.with_frame.ensures
