use native.Mathlib.Omega.{arith}
use Rattle.log_listing.proofs.Pieces.{added_next}
use Rattle.log_listing.specs.Listing.{end_line}
use Rattle.log_listing.proofs.add_end.Goals as goal

pub returns : goal.returns
unfolding end_line
returns c =
    let h = c.requires in
    let a₂ = added_next c.add_text-word.ensures c.add_number-frames.ensures (omega arith) in
    let a₃ = added_next a₂ c.add_number-point.ensures (omega arith) in
    let a₄ = added_next a₃ c.add_last-last.ensures (omega arith) in
    added_next a₄ c.add_text.ensures (omega arith)
