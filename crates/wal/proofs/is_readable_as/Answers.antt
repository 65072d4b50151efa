use Rattle.std.proofs.Common.{eq-eqb, ne_eqb}
use Rattle.wal.proofs.is_readable_as.Goals as goal

pub returns-then-page_num-ne-MVCC_FRAME_MARKER : goal.returns-then-page_num-ne-MVCC_FRAME_MARKER
returns-then-page_num-ne-MVCC_FRAME_MARKER c = rw (ne_eqb _ _ c.if-page_num-ne-MVCC_FRAME_MARKER.true)

pub returns : goal.returns
returns c = rw (eq-eqb _ _ c.if-page_num-ne-MVCC_FRAME_MARKER.false) c.decodes.ensures
