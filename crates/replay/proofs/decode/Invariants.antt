use Rattle.std.proofs.Common.{◌≡◌, take}
use Rattle.le.specs.Le.{put}
use Rattle.replay.specs.Cases.{hex_bytes}
use Rattle.replay.proofs.decode.Given as goal

abbrev pub invariant-loop-i : goal.invariant-loop-i
invariant-loop-i l = l.out ≡ put l.fn.out 0 (take l.i (hex_bytes l.line))
