use mathlib.Core.Path.{◌∙◌}
use Rattle.mvcc.proofs.Heading.{heading-told}
use Rattle.wal.proofs.Writing.{passed, stopped}
use Rattle.wal_batch.proofs.Ways.{way-area, way_long, way-heading, way-full, way-refused, way-done}
use Rattle.wal_batch.proofs.append_mvcc_batch.Goals as goal

pub returns-in_err-check_area : goal.returns-in_err-check_area
returns-in_err-check_area c =
    let a = c.args in
    way-area a.log.now a.wal a.body.now (stopped _ _ c.from_residual.result c.from_residual.ensures.1 c.in_err-check_area.ensures)

pub returns-then-body-gt-PAGE_SIZE : goal.returns-then-body-gt-PAGE_SIZE
returns-then-body-gt-PAGE_SIZE c =
    let a = c.args in
    way_long a.log.now a.wal a.body.now (passed _ _ c.in_ok-check_area.ensures) c.if-body-gt-PAGE_SIZE.true

pub returns-in_err-heading_refusal : goal.returns-in_err-heading_refusal
returns-in_err-heading_refusal c =
    let a = c.args in
    let p = c.from_residual-in_err-heading_refusal in
    way-heading a.log.now a.wal a.body.now (passed _ _ c.in_ok-check_area.ensures) c.if-body-gt-PAGE_SIZE.false p.result p.ensures.1 (heading-told a.body.now c.in_err-heading_refusal.ensures)

pub returns-in_err-check_room : goal.returns-in_err-check_room
returns-in_err-check_room c =
    let a = c.args in
    let p = c.from_residual-in_err-check_room in
    way-full a.log.now a.wal a.body.now (passed _ _ c.in_ok-check_area.ensures) c.if-body-gt-PAGE_SIZE.false
    (heading-told a.body.now c.in_ok-heading_refusal.ensures) (stopped _ _ p.result p.ensures.1 c.in_err-check_room.ensures)

pub returns-in_err-canonicalize : goal.returns-in_err-canonicalize
returns-in_err-canonicalize c =
    let a = c.args in
    let p = c.from_residual-in_err-canonicalize in
    way-refused a.log.now a.wal a.body.now (passed _ _ c.in_ok-check_area.ensures) c.if-body-gt-PAGE_SIZE.false (passed _ _ c.in_ok-check_room.ensures)
    p.result p.ensures.1 c.in_err-canonicalize.ensures.value c.in_err-canonicalize.ensures.out_after

pub returns : goal.returns
returns c =
    let a = c.args in
    let k = passed _ _ c.in_ok-check_room.ensures in
    way-done a.log.now a.wal a.body.now (passed _ _ c.in_ok-check_area.ensures) c.if-body-gt-PAGE_SIZE.false k (λ i. (c.type_inv.body i).fits)
    c.in_ok-canonicalize.ensures.value c.in_ok-canonicalize.ensures.out_after c.write_frame_header.ensures.log_after (c.longer.ensures ∙ rw k)
