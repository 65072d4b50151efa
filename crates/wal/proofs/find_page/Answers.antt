use Rattle.std.proofs.Common.{eq-eqb, ne_eqb}
use Rattle.wal.specs.Read.{find_log_page}
use Rattle.wal.proofs.find_page.Goals as goal

pub returns-then-page_num-eq-MVCC_FRAME_MARKER : goal.returns-then-page_num-eq-MVCC_FRAME_MARKER
unfolding find_log_page
returns-then-page_num-eq-MVCC_FRAME_MARKER c = rw (eq-eqb _ _ c.if-page_num-eq-MVCC_FRAME_MARKER.true)

pub returns : goal.returns
unfolding find_log_page
returns c = rw (ne_eqb _ _ c.if-page_num-eq-MVCC_FRAME_MARKER.false) (rw c.part.ensures at c.last_place.ensures)
