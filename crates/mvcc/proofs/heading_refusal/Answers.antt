use mathlib.Core.Path.{sym, ◌∙◌}
use Rattle.le.specs.Le.{le_of}
use Rattle.mvcc.specs.Decode.{batch_magic}
use Rattle.mvcc.proofs.Heading.{heading-short, heading-alien, heading-fine}
use Rattle.mvcc.proofs.heading_refusal.Goals as goal

pub returns-then-body-lt-BATCH_HEADING_SIZE : goal.returns-then-body-lt-BATCH_HEADING_SIZE
returns-then-body-lt-BATCH_HEADING_SIZE c = heading-short c.args.body.now c.if-body-lt-BATCH_HEADING_SIZE.true

pub returns-then-read_u64-ne-MVCC_BODY_MAGIC : goal.returns-then-read_u64-ne-MVCC_BODY_MAGIC
unfolding batch_magic le_of
returns-then-read_u64-ne-MVCC_BODY_MAGIC c = heading-alien c.args.body.now c.if-body-lt-BATCH_HEADING_SIZE.false (λ e. c.if-read_u64-ne-MVCC_BODY_MAGIC.true (c.read_u64.ensures ∙ e))

pub returns : goal.returns
unfolding batch_magic le_of
returns c = heading-fine c.args.body.now c.if-body-lt-BATCH_HEADING_SIZE.false (sym c.read_u64.ensures ∙ c.if-read_u64-ne-MVCC_BODY_MAGIC.false)
