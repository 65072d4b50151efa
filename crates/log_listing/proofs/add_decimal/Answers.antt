use Rattle.log_listing.proofs.Pieces.{decimal-places, decimal-added}
use native.Mathlib.Omega.{arith}
use Rattle.log_listing.proofs.add_decimal.Goals as goal

pub add_text-requires : goal.add_text-requires
add_text-requires c =
    let e = c.decimal-k.ensures in
    let k = decimal-places _ _ (omega arith) e.len.2 in
    omega (arith, e.in_bounds.1)

pub returns : goal.returns
returns c =
    let e = c.decimal-k.ensures in
    let k = decimal-places _ _ (omega arith) e.len.2 in
    decimal-added _ _ k e.len e.digits c.add_text.ensures
