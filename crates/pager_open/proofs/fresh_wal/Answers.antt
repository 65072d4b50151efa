use mathlib.Core.Path.{sym, ◌∙◌}
use Rattle.pager_state.specs.Opening.{found_fresh}
use Rattle.pager_open.proofs.fresh_wal.Goals as goal

pub returns-then-writes : goal.returns-then-writes
unfolding found_fresh
returns-then-writes c = rw (sym c.writes.ensures ∙ c.if-writes.true) c.empty_wal.ensures

pub returns : goal.returns
unfolding found_fresh
returns c = rw (sym c.writes.ensures ∙ c.if-writes.false) c.empty_wal-2.ensures
