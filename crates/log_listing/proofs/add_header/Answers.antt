use native.Mathlib.Omega.{arith}
use Rattle.log_listing.proofs.Pieces.{added_next}
use Rattle.log_listing.specs.Listing.{log_line}
use Rattle.log_listing.proofs.add_header.Goals as goal

pub returns : goal.returns
unfolding log_line
returns c =
    let h = c.requires in
    let a₂ = added_next c.add_text-word.ensures (rw c.from.ensures at c.add_number-version.ensures) (omega arith) in
    let a₃ = added_next a₂ c.add_salt-salt.ensures (omega arith) in
    let a₄ = added_next a₃ (rw c.from-2.ensures at c.add_number-seq.ensures) (omega arith) in
    let a₅ = added_next a₄ c.add_number-clock.ensures (omega arith) in
    added_next a₅ c.add_text.ensures (omega arith)
