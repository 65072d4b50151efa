-- `mvcc_build::is_text` meets its contract. Assumes nothing.
use mathlib.Core.Path.{sym}
use Rattle.mvcc_build.proofs.Words.{ascii-text}
use Rattle.mvcc_build.proofs.is_text.Goals as goal

pub returns-then-is_short_ascii : goal.returns-then-is_short_ascii
returns-then-is_short_ascii c = sym (ascii-text c.args.s.now (c.is_short_ascii.ensures c.if-is_short_ascii.true))
