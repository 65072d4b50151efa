use native.Mathlib.Omega.{arith}
use Rattle.log_listing.proofs.Pieces.{added-most, added_next}
use Rattle.log_listing.proofs.Lines.{opened-added}
use Rattle.wal.proofs.Opening.{known-frames}
use Rattle.log_listing.proofs.add_opened.Goals as goal

pub add_frames-frames-requires : goal.add_frames-frames-requires
add_frames-frames-requires c =
    let a = c.add_header-first.ensures in
    (c.requires.0, known-frames c.args.file.now _ c.requires.1, omega (arith, c.requires.2, a.most, a.place))

pub returns : goal.returns
returns c =
    let h = c.requires in
    let a₂ = added_next c.add_header-first.ensures c.add_frames-frames.ensures (omega arith) in
    opened-added _ _ _ h.1 (added-most (omega arith) (added_next a₂ c.add_end.ensures (omega arith)))
