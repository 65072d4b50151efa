-- Going over the frames of a log, one behind the other. Assumes nothing.
use mathlib.Core.Path.{◌≡◌}
use mathlib.Core.List.{List, [], ◌∷◌, ◌++◌}
use Prim.Native.Nat.{ℕ, ◌+◌, ◌-◌, ◌/◌, ◌≤◌, ◌<◌}
use native.Mathlib.Omega.{arith}
use lib.ListN.{length, take}
use lib.Seq.{take_all, length-take-le}
use native.Mathlib.Numerals.{add-one}
use Rattle.frame.specs.Frame.{frame_at}
use Rattle.wal.specs.Recovery.{chunks, chunk_at}
use Rattle.wal.proofs.Places.{length-chunks, take_chunk}

module _ (l : List ℕ) (i : ℕ) where
  pub front-length : i ≤ (length l - 32) / 4112 → length (take i (chunks l)) ≡ i
  front-length h = length-take-le i (chunks l) (rw length-chunks h)

  -- one frame more
  pub front-more : i < (length l - 32) / 4112 → take (i + 1) (chunks l) ≡ take i (chunks l) ++ (frame_at (chunk_at i) l ∷ [])
  front-more h = rw add-one (take_chunk i l (omega arith))

  pub front-all : (length l - 32) / 4112 ≤ i → take i (chunks l) ≡ chunks l
  front-all h = take_all i (chunks l) (rw length-chunks h)
