use Rattle.std.proofs.Common.{◌≡◌, ◌-◌, ap, ◌∙◌, arith}
use Rattle.frame.specs.Frame.{frame_at}
use Rattle.frame.specs.declared.FrameHeader.{FrameHeader}
use Rattle.wal.specs.Recovery.{chunk_at, page_of}
use Rattle.wal.proofs.Reading.{place-start, place_here, place-before, place_none}
use Rattle.wal.proofs.last_place.Goals as goal

pub loop-i-init : goal.loop-i-init
loop-i-init c =
    let a = c.args in
    (omega (arith, c.chunk_count-i.ensures), place-start a.file.now a.page_num c.chunk_count-i.result c.chunk_count-i.ensures)

pub returns-then-header-page_num : goal.returns-then-header-page_num
returns-then-header-page_num c =
    let numbered : c.read_frame_header-header.result.page_num ≡ page_of (frame_at (chunk_at (c.loop-i.i - 1)) c.args.file.now) =
    ap (λ (h : FrameHeader). h.page_num) c.read_frame_header-header.ensures in
    let v = c.loop-i in
    let a = c.args in
    let e = rw (numbered) at c.if-header-page_num.true in
    place_here a.file.now a.page_num v.i c.loop-i-test.true v.invariant.0 e ∙ v.invariant.1

pub loop-i-preserved : goal.loop-i-preserved
loop-i-preserved c =
    let numbered : c.read_frame_header-header.result.page_num ≡ page_of (frame_at (chunk_at (c.loop-i.i - 1)) c.args.file.now) =
    ap (λ (h : FrameHeader). h.page_num) c.read_frame_header-header.ensures in
    let v = c.loop-i in
    let a = c.args in
    let e = rw (numbered) at c.if-header-page_num.false in
    (omega (arith, v.invariant.0), place-before a.file.now a.page_num v.i c.loop-i-test.true v.invariant.0 e ∙ v.invariant.1)

pub returns : goal.returns
returns c =
    let v = c.loop-i in
    let a = c.args in
    place_none a.file.now a.page_num v.i (omega (arith, c.loop-i-test.false)) ∙ v.invariant.1
