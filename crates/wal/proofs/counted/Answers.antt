use Rattle.std.proofs.Common.{eq-eqb, ne_eqb}
use Rattle.wal.proofs.counted.Goals as goal

pub returns-then-commit_page_count-eq0 : goal.returns-then-commit_page_count-eq0
returns-then-commit_page_count-eq0 c = rw (eq-eqb _ _ c.if-commit_page_count-eq0.true)

pub returns : goal.returns
returns c = rw (ne_eqb _ _ c.if-commit_page_count-eq0.false)
