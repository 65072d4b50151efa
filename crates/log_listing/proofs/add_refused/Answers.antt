use native.Mathlib.Omega.{arith}
use Rattle.log_listing.proofs.Pieces.{added-most, added_next}
use Rattle.log_listing.specs.Listing.{refused_line}
use Rattle.log_listing.proofs.add_refused.Goals as goal

pub returns : goal.returns
unfolding refused_line
returns c =
    let h = c.requires in
    let a₂ = added_next c.add_text-word.ensures (rw (c.from.ensures, c.number.ensures) at c.add_number-end.ensures) (omega arith) in
    added-most (omega arith) (added_next a₂ c.add_text.ensures (omega arith))
