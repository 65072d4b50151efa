use Rattle.pager_commit.proofs.Stores.{commit-frame-stored}
use Rattle.pager_commit.proofs.store_commit_frame.Goals as goal

pub returns : goal.returns
returns c =
    let s = commit-frame-stored c.args.log.now c.args.wal c.args.header c.requires.0.log c.requires.1 c.encode_fields-fields.ensures c.append_page_zero.ensures.value c.append_page_zero.ensures.log_after in
    record { value = rw (c.unwrap_or.ensures, s.0); table_after = c.enter.ensures; log_after = s.1 }
