use Rattle.std.proofs.Common.{◌≡◌, sym, ◌∙◌}
use Rattle.std.proofs.lemmas.Result.{err_from_is_err_and}
use borrow.Author.Tests.{lt-leb}
use Rattle.wal.specs.Header.{wal_header_in}
use Rattle.wal.specs.Recovery.{open_log}
use Rattle.wal.proofs.HeaderRoundTrip.{decoded-as}
use Rattle.wal.proofs.Opening.{opened-as}
use Rattle.wal.proofs.Wal.open.Goals as goal

pub returns-then-file-gt-WAL_AREA : goal.returns-then-file-gt-WAL_AREA
unfolding open_log
returns-then-file-gt-WAL_AREA c = rw (lt-leb _ _ c.if-file-gt-WAL_AREA.true)

pub replay_frames-requires : goal.replay_frames-requires
replay_frames-requires c =
    let header-there : c.in_ok-header.header ≡ wal_header_in c.args.file.now =
    sym (decoded-as c.args.file.now _ (sym c.decode_wal_header.ensures ∙ c.in_ok-header.was)).fields in
    header-there

pub returns-in_err-header : goal.returns-in_err-header
returns-in_err-header c =
    let p = err_from_is_err_and c.from_residual.result c.from_residual.ensures.1 in
    rw (p.1, p.2) (opened-as c.args.file.now c.if-file-gt-WAL_AREA.false (sym c.decode_wal_header.ensures ∙ c.in_err-header.was))

pub returns : goal.returns
returns c = rw c.replay_frames.ensures (opened-as c.args.file.now c.if-file-gt-WAL_AREA.false (sym c.decode_wal_header.ensures ∙ c.in_ok-header.was))
