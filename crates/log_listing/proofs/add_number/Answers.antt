use native.Mathlib.Omega.{arith}
use Rattle.log_listing.proofs.Pieces.{added_next}
use Rattle.log_listing.specs.Listing.{number_text}
use Rattle.log_listing.proofs.add_number.Goals as goal

pub returns : goal.returns
unfolding number_text
returns c =
    let h = c.requires in
    added_next c.add_text-end.ensures c.add_decimal.ensures (omega arith)
