use Rattle.std.proofs.Common.{◌≡◌, refl, ap, ◌∙◌, arith}
use Rattle.frame.specs.Frame.{frame_at}
use Rattle.frame.specs.declared.FrameHeader.{FrameHeader}
use Rattle.wal.specs.Recovery.{chunk_at, page_of}
use Rattle.wal.proofs.Reading.{batch-here, batch-later, batch-none}
use Rattle.wal.proofs.first_batch.Goals as goal

pub loop-i-init : goal.loop-i-init
loop-i-init c = refl

pub returns-then-header : goal.returns-then-header
returns-then-header c =
    let numbered : c.read_frame_header-header.result.page_num ≡ page_of (frame_at (chunk_at c.loop-i.i) c.args.file.now) =
    ap (λ (h : FrameHeader). h.page_num) c.read_frame_header-header.ensures in
    let v = c.loop-i in
    let a = c.args in
    let e = rw (numbered) at c.if-header.true in
    batch-here a.file.now v.i (omega arith) e ∙ v.invariant

pub loop-i-preserved : goal.loop-i-preserved
loop-i-preserved c =
    let numbered : c.read_frame_header-header.result.page_num ≡ page_of (frame_at (chunk_at c.loop-i.i) c.args.file.now) =
    ap (λ (h : FrameHeader). h.page_num) c.read_frame_header-header.ensures in
    let v = c.loop-i in
    let a = c.args in
    let e = rw (numbered) at c.if-header.false in
    batch-later a.file.now v.i (omega arith) e ∙ v.invariant

pub returns : goal.returns
returns c =
    let v = c.loop-i in
    let a = c.args in
    batch-none a.file.now v.i (omega arith) ∙ v.invariant
