use Rattle.std.proofs.Common.{◌-◌, length}
use Rattle.wal.proofs.Replay.{Reading}
use Rattle.wal.proofs.replay_frames.Given as goal

abbrev pub invariant-loop-header : goal.invariant-loop-header
invariant-loop-header l = Reading l.file l.wal l.wal.len

abbrev pub decreases-loop-header : goal.decreases-loop-header
decreases-loop-header l = length l.file - l.wal.len
