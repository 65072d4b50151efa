use Rattle.log_listing.proofs.Pieces.{added_next}
use Rattle.log_listing.proofs.Lines.{frame-added}
use native.Mathlib.Omega.{arith}
use Rattle.log_listing.proofs.add_frame.Goals as goal

pub returns : goal.returns
returns c =
    let h = c.requires in
    let a₃ = added_next c.add_decimal-first.ensures c.add_kind-kind.ensures (omega arith) in
    let a₄ = added_next a₃ (rw c.from.ensures at c.add_number-count.ensures) (omega arith) in
    frame-added _ _ _ c.read_frame_header-header.ensures (added_next a₄ c.add_text.ensures (omega arith))
