use mathlib.Core.Path.{◌≡◌, sym, ap, ◌∙◌}
use borrow.Author.Tests.{eq-eqb}
use Rattle.frame.specs.Frame.{frame_at}
use Rattle.frame.specs.declared.FrameHeader.{FrameHeader}
use Rattle.wal.specs.Recovery.{page_of, batch_page}
use Rattle.pager_open.proofs.Clock.{time-there}
use Rattle.pager_open.proofs.batch_time.Goals as goal

pub returns : goal.returns
returns c =
    let read-page : c.read_frame_header-header.result.page_num ≡ page_of (frame_at c.args.at c.args.file.now) =
    ap (λ (x : FrameHeader). x.page_num) c.read_frame_header-header.ensures in
    let a = c.args in
    let b = eq-eqb (page_of (frame_at a.at a.file.now)) batch_page (sym (read-page) ∙ c.if-header.false) in
    time-there a.file.now a.at c.requires b (rw c.frame_body.ensures at c.commit_ts.ensures)
