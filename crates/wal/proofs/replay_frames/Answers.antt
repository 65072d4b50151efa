use Rattle.std.proofs.Common.{◌≡◌, ◌+◌, ◌≤◌, length, sym, ap, subst, ◌∙◌, arith, rules}
use Rattle.frame.specs.Frame.{frame_at}
use Rattle.frame.specs.declared.FrameHeader.{FrameHeader}
use Rattle.wal.specs.Recovery.{commit_count}
use Rattle.wal.specs.Write.{empty_wal, with_frame}
use Rattle.wal.proofs.Replay.{Reading, tested, frame_longer, reading-starts, reading-count, reading-fits, reading-on, reading-stops, reading-ends}
use Rattle.wal.proofs.replay_frames.Goals as goal

pub loop-header-init : goal.loop-header-init
loop-header-init c = reading-starts c.args.file.now (c.empty-wal.ensures ∙ ap empty_wal c.requires)

pub overflow_add-result : goal.overflow_add-result
overflow_add-result c =
    let i = c.loop-header.invariant in
    let t = tested c.args.file.now _ _ c.requires c.is_intact.ensures c.loop-header-test.true in
    let fits : c.loop-header.wal.len + 4112 ≤ length c.args.file.now = reading-fits _ _ _ i t in
    omega (arith, i.place, reading-count _ _ _ i)

pub returns-then-not-is_readable : goal.returns-then-not-is_readable
returns-then-not-is_readable c =
    let t = tested c.args.file.now _ _ c.requires c.is_intact.ensures c.loop-header-test.true in
    reading-stops _ _ _ c.loop-header.invariant t (sym c.is_readable.ensures ∙ c.if-not-is_readable.true)

pub with_frame-wal-requires : goal.with_frame-wal-requires
with_frame-wal-requires c =
    let t = tested c.args.file.now _ _ c.requires c.is_intact.ensures c.loop-header-test.true in
    let fits : c.loop-header.wal.len + 4112 ≤ length c.args.file.now = reading-fits _ _ _ c.loop-header.invariant t in
    omega arith

pub loop-header-smaller : goal.loop-header-smaller
loop-header-smaller c =
    let t = tested c.args.file.now _ _ c.requires c.is_intact.ensures c.loop-header-test.true in
    let fits : c.loop-header.wal.len + 4112 ≤ length c.args.file.now = reading-fits _ _ _ c.loop-header.invariant t in
    omega (arith, frame_longer c.loop-header.wal _ c.with_frame-wal.ensures)

pub loop-header-preserved : goal.loop-header-preserved
loop-header-preserved c =
    let w = c.loop-header.wal in
    let t = tested c.args.file.now _ _ c.requires c.is_intact.ensures c.loop-header-test.true in
    let k : c.read_frame_header-found.result.commit_page_count ≡ commit_count (frame_at w.len c.args.file.now) =
    ap (λ (h : FrameHeader). h.commit_page_count) c.read_frame_header-found.ensures in
    subst (Reading c.args.file.now c.with_frame-wal.result) (sym (frame_longer w _ c.with_frame-wal.ensures))
    (reading-on _ w _ c.loop-header.invariant t (sym c.is_readable.ensures ∙ c.if-not-is_readable.false) (search rules)
    (c.with_frame-wal.ensures ∙ ap (with_frame w) k))

pub returns : goal.returns
returns c =
    reading-ends _ _ _ c.loop-header.invariant (tested c.args.file.now _ _ c.requires c.is_intact.ensures c.loop-header-test.false)
