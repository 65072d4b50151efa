use Rattle.wal.proofs.Reading.{frame-there, frame-gone}
use Rattle.wal.proofs.frame_at.Goals as goal

pub returns-then-chunk_count-index : goal.returns-then-chunk_count-index
returns-then-chunk_count-index c =
    let a = c.args in
    frame-gone a.file.now a.index (rw c.chunk_count.ensures at c.if-chunk_count-index.true)

pub returns : goal.returns
returns c =
    let a = c.args in
    rw c.read_frame_header-header.ensures (frame-there a.file.now a.index (rw c.chunk_count.ensures at c.if-chunk_count-index.false))
