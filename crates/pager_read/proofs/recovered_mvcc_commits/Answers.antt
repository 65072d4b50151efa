use mathlib.Core.Path.{sym, ◌∙◌}
use borrow.Author.Tests.{eq-eqb, ne_eqb, le-leb, lt-leb}
use Rattle.wal.specs.Read.{next_batch}
use Rattle.pager_state.specs.Batches.{recovered_refusal, next_recovered}
use Rattle.pager_read.proofs.recovered_mvcc_commits.Goals as goal

pub returns-then-log-ne-WAL_AREA : goal.returns-then-log-ne-WAL_AREA
unfolding next_recovered recovered_refusal
returns-then-log-ne-WAL_AREA c = rw (ne_eqb _ _ c.if-log-ne-WAL_AREA.true)

pub returns-then-wal-gt-WAL_AREA : goal.returns-then-wal-gt-WAL_AREA
unfolding next_recovered recovered_refusal
returns-then-wal-gt-WAL_AREA c = rw (eq-eqb _ _ c.if-log-ne-WAL_AREA.false, lt-leb _ _ c.if-wal-gt-WAL_AREA.true)

pub returns-then-is_busy : goal.returns-then-is_busy
unfolding next_recovered recovered_refusal
returns-then-is_busy c = rw (eq-eqb _ _ c.if-log-ne-WAL_AREA.false, le-leb _ _ c.if-wal-gt-WAL_AREA.false, sym c.is_busy.ensures ∙ c.if-is_busy.true)

pub returns : goal.returns
unfolding next_recovered recovered_refusal next_batch
returns c = rw (eq-eqb _ _ c.if-log-ne-WAL_AREA.false, le-leb _ _ c.if-wal-gt-WAL_AREA.false, sym c.is_busy.ensures ∙ c.if-is_busy.false, c.first_batch.ensures, c.part.ensures)
