use Rattle.std.proofs.Common.{◌≡◌, ap, ◌∙◌}
use Rattle.frame.specs.Frame.{frame_at}
use Rattle.frame.specs.declared.FrameHeader.{FrameHeader}
use Rattle.wal.specs.Recovery.{page_of}
use Rattle.wal.proofs.is_readable.Goals as goal

pub returns : goal.returns
returns c =
    let a = c.args in
    let e : c.read_frame_header-header.result.page_num ≡ page_of (frame_at a.at a.file.now) =
    ap (λ (h : FrameHeader). h.page_num) c.read_frame_header-header.ensures in
    c.is_readable_as.ensures ∙ rw (c.frame_body.ensures, e)
