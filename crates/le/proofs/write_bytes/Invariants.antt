use Rattle.std.proofs.Common.{◌≡◌, length, take}
use Rattle.le.specs.Le.{put}
use Rattle.le.proofs.write_bytes.Given as goal

abbrev pub invariant-loop-i : goal.invariant-loop-i
invariant-loop-i l = (l.buf ≡ put l.initial.buf l.at (take l.i l.src)) × (length l.buf ≡ length l.initial.buf)
