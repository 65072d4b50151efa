use native.Mathlib.Omega.{arith}
use mathlib.Core.Path.{sym, ◌∙◌}
use Prim.Native.Nat.{◌≤◌, ◌<◌}
use Rattle.log_listing.proofs.Lines.{counted-fits, unreadable-last, lines_start, few-frames, lines-room, lines_more, lines_end}
use Rattle.wal.specs.Recovery.{recovered, frame_count_of}
use Rattle.log_listing.proofs.add_frames.Goals as goal

pub loop-i-init : goal.loop-i-init
loop-i-init c =
    let a = c.args in
    lines_start a.file.now a.out.now a.at

pub overflow_mul-offset : goal.overflow_mul-offset
overflow_mul-offset c =
    let few : c.loop-i.i < 15 =
    omega (arith, few-frames c.args.file.now c.requires.0, c.requires.1) in
    omega (arith, few)

pub overflow_add-offset : goal.overflow_add-offset
overflow_add-offset c =
    let few : c.loop-i.i < 15 =
    omega (arith, few-frames c.args.file.now c.requires.0, c.requires.1) in
    omega (arith, few)

pub returns-then-not-is_readable : goal.returns-then-not-is_readable
returns-then-not-is_readable c =
    let counted : c.loop-i.i < frame_count_of (recovered c.args.file.now) =
    omega (arith, c.requires.1) in
    let p = c.requires in
    lines_end c.loop-i.invariant p.0 p.2 (unreadable-last _ _ (counted) (sym c.is_readable.ensures ∙ c.if-not-is_readable.true))

pub add_frame-end-requires : goal.add_frame-end-requires
add_frame-end-requires c =
    let counted : c.loop-i.i < frame_count_of (recovered c.args.file.now) =
    omega (arith, c.requires.1) in
    let p = c.requires in
    (counted-fits _ _ (counted), lines-room c.loop-i.invariant p.0 p.2 (counted))

pub loop-i-preserved : goal.loop-i-preserved
loop-i-preserved c =
    let counted : c.loop-i.i < frame_count_of (recovered c.args.file.now) =
    omega (arith, c.requires.1) in
    let p = c.requires in
    lines_more c.loop-i.invariant p.0 p.2 (counted) (sym c.is_readable.ensures ∙ c.if-not-is_readable.false) c.add_frame-end.ensures

pub returns : goal.returns
returns c =
    let p = c.requires in
    let h : frame_count_of (recovered c.args.file.now) ≤ c.loop-i.i = omega (arith, p.1) in
    lines_end c.loop-i.invariant p.0 p.2 (omega (arith, c.loop-i.invariant.within))
