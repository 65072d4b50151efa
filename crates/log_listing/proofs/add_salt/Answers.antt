use Rattle.log_listing.proofs.Pieces.{added_next, salt-places, salt-added}
use native.Mathlib.Omega.{arith}
use Rattle.log_listing.specs.Listing.{salt_text}
use Rattle.log_listing.proofs.add_salt.Goals as goal

pub add_text-requires : goal.add_text-requires
add_text-requires c =
    let e = c.hex-k.ensures in
    let k = salt-places _ _ (omega arith) e.len.0 e.len.2 in
    omega (arith, e.in_bounds.1, c.add_text-end.ensures.most, c.add_text-end.ensures.place)

pub returns : goal.returns
unfolding salt_text
returns c =
    let h = c.requires in
    let e = c.hex-k.ensures in
    added_next c.add_text-end.ensures (rw c.from.ensures at (salt-added _ _ (omega arith) e.len e.digits c.add_text.ensures)) (omega arith)
