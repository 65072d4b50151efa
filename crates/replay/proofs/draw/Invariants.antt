use Rattle.std.proofs.Common.{◌≡◌, take}
use Rattle.replay.specs.Drawn.{number_after, drawn}
use Rattle.replay.proofs.draw.Given as goal

abbrev pub invariant-loop-byte : goal.invariant-loop-byte
invariant-loop-byte l =
    (l.x ≡ number_after l.seed l.byte-index) × (take l.byte-index l.body ≡ drawn l.kind l.seed l.byte-index)
