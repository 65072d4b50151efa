use Rattle.std.proofs.Common.{length}
use Rattle.replay_lists.proofs.logs.build.Given as goal

abbrev pub decreases-loop-head : goal.decreases-loop-head
decreases-loop-head l = length l.rest
