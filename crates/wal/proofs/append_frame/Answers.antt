use Rattle.wal.proofs.Writing.{passed, stopped, body_refused, area-refused, log-full, frame-appended}
use Rattle.wal.proofs.append_frame.Goals as goal

pub returns-then-content-ne-PAGE_SIZE : goal.returns-then-content-ne-PAGE_SIZE
returns-then-content-ne-PAGE_SIZE c =
    let a = c.args in
    body_refused a.log.now a.wal a.page_num a.content.now a.commit_page_count c.if-content-ne-PAGE_SIZE.true

pub returns-in_err-check_area : goal.returns-in_err-check_area
returns-in_err-check_area c =
    let a = c.args in
    area-refused a.log.now a.wal a.page_num a.content.now a.commit_page_count c.if-content-ne-PAGE_SIZE.false
    (stopped _ _ c.from_residual.result c.from_residual.ensures.1 c.in_err-check_area.ensures)

pub returns-in_err-check_room : goal.returns-in_err-check_room
returns-in_err-check_room c =
    let a = c.args in
    log-full a.log.now a.wal a.page_num a.content.now a.commit_page_count c.if-content-ne-PAGE_SIZE.false (passed _ _ c.in_ok-check_area.ensures)
    (stopped _ _ c.from_residual-in_err-check_room.result c.from_residual-in_err-check_room.ensures.1 c.in_err-check_room.ensures)

pub returns : goal.returns
returns c =
    let a = c.args in
    frame-appended a.log.now a.wal a.page_num a.content.now a.commit_page_count c.if-content-ne-PAGE_SIZE.false (passed _ _ c.in_ok-check_area.ensures)
    (passed _ _ c.in_ok-check_room.ensures) c.write_frame.ensures.log_after (rw c.is_readable_as-good.ensures at c.with_frame.ensures)
