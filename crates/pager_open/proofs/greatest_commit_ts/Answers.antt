use mathlib.Core.Path.{ap, ◌∙◌}
use Prim.Native.Nat.{ℕ, max}
use native.Mathlib.Omega.{arith}
use Rattle.pager_open.proofs.Front.{front-all}
use Rattle.pager_open.proofs.Clock.{greatest_in, none-greatest, greatest-on}
use Rattle.pager_open.proofs.greatest_commit_ts.Goals as goal

pub loop-index-init : goal.loop-index-init
loop-index-init c = none-greatest

pub loop-index-preserved : goal.loop-index-preserved
loop-index-preserved c =
    let l = c.loop-index in
    greatest-on c.args.file.now l.greatest l.index l.invariant (omega arith) (c.max-greatest.ensures ∙ ap (λ (t : ℕ). max l.greatest t) c.batch_time-time.ensures)

pub returns : goal.returns
returns c = c.loop-index.invariant ∙ ap greatest_in (front-all c.args.file.now c.loop-index.index (omega arith))
