use Rattle.log_listing.proofs.Pieces.{added-most, added_next}
use Rattle.log_listing.proofs.Lines.{records-there, batch-added, page-added}
use Rattle.le.specs.Le.{whole_field}
use native.Mathlib.Omega.{arith}
use mathlib.Core.Path.{ap, ◌∙◌}
use Rattle.log_listing.proofs.add_kind.Goals as goal

pub returns-then-page_num-eq-MVCC_FRAME_MARKER : goal.returns-then-page_num-eq-MVCC_FRAME_MARKER
returns-then-page_num-eq-MVCC_FRAME_MARKER c =
    let h = c.requires in
    let r = c.read_u16-records.ensures ∙ ap (whole_field 2 16) c.frame_body.ensures ∙ records-there _ _ h.0 in
    batch-added _ _ _ c.if-page_num-eq-MVCC_FRAME_MARKER.true r (added_next c.add_text-word.ensures (rw c.from.ensures at c.add_number.ensures) (omega arith))

pub returns : goal.returns
returns c =
    let h = c.requires in
    page-added _ _ c.if-page_num-eq-MVCC_FRAME_MARKER.false (added-most (omega arith) (added_next c.add_text-word-2.ensures (rw c.from-2.ensures at c.add_number-2.ensures) (omega arith)))
