-- Document 01's case of lengths: "Lengths 32 and 4,143: no frame; 4,144 and 8,255: at most one; 8,256: at most two". Assumes nothing.
use Rattle.std.proofs.Common.{◌≡◌, ℕ, ◌≤◌, List, length, arith}
use Rattle.wal.specs.Recovery.{recovered, frame_count_of}
use Rattle.wal.proofs.Opening.{frame_count_of-most}

-- a log of a length has at most so many frames, good ones and a last undecodable batch
abbrev pub AtMost : ℕ → ℕ → Type 0
AtMost n k = (l : List ℕ) → length l ≡ n → frame_count_of (recovered l) ≤ k

pub none-32 : AtMost 32 0
none-32 l e = omega (arith, frame_count_of-most l)

pub none-4143 : AtMost 4143 0
none-4143 l e = omega (arith, frame_count_of-most l)

pub one-4144 : AtMost 4144 1
one-4144 l e = omega (arith, frame_count_of-most l)

pub one-8255 : AtMost 8255 1
one-8255 l e = omega (arith, frame_count_of-most l)

pub two-8256 : AtMost 8256 2
two-8256 l e = omega (arith, frame_count_of-most l)
