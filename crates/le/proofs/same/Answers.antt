use mathlib.Core.Path.{sym, ◌∙◌}
use Rattle.le.proofs.Compare.{same_bytes-pointwise}
use Rattle.le.proofs.same.Goals as goal

pub returns : goal.returns
returns c = c.eq.ensures ∙ sym (same_bytes-pointwise c.args.a.now c.args.b.now)
