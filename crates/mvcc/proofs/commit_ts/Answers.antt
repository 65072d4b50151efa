use Rattle.le.specs.Le.{whole_field}
use Rattle.mvcc.specs.Seen.{commit_ts_of}
use Rattle.mvcc.proofs.commit_ts.Goals as goal

pub returns : goal.returns
unfolding whole_field commit_ts_of
returns c = c.read_u64.ensures
