-- `mvcc_build::start` meets its contract. Assumes nothing.
use Rattle.mvcc_build.proofs.Laws.{start_area, start-done}
use Rattle.mvcc_build.proofs.start.Goals as goal

pub returns-then-body-ne-BATCH_BODY_SIZE : goal.returns-then-body-ne-BATCH_BODY_SIZE
returns-then-body-ne-BATCH_BODY_SIZE c =
    let both = start_area c.args.body.now c.args.commit_ts c.if-body-ne-BATCH_BODY_SIZE.true in
    record { value = both.0; body_after = both.1 }

pub returns : goal.returns
returns c =
    let both = start-done c.args.body.now c.args.commit_ts c.if-body-ne-BATCH_BODY_SIZE.false c.write_u64.ensures.1 c.write_u64-2.ensures.1 c.write_zeros.ensures.1 in
    record { value = both.0; body_after = both.1 }
