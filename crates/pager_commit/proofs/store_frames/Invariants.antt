use Prim.Native.Nat.{◌-◌}
use lib.ListN.{take}
use Rattle.pager_state.specs.World.{page_limit}
use Rattle.pager_commit.proofs.Whole.{Loop}
use Rattle.pager_commit.proofs.store_frames.Given as goal

abbrev pub invariant-loop-found : goal.invariant-loop-found
invariant-loop-found l = Loop (take l.n l.marks) l.staging l.initial.wal l.initial.table l.initial.log l.page l.wal l.table l.log

abbrev pub decreases-loop-found : goal.decreases-loop-found
decreases-loop-found l = page_limit - l.page
