-- Document 02, P3: "reading a log shall sum heading and body from the log area itself, .. and the sum is proved equal to document 01's rule
-- on the bytes that lie there". `frame-sums` of proofs/FrameSums.antt proves it.
use Rattle.std.specs.Prelude.{Bool, true, ◌≡◌, List, ℕ, zero, suc, ◌+◌, ◌≤◌, ◌<◌, leb, eqb, length, get_or}
use Rattle.le.specs.Choice.{both}
use Rattle.le.specs.Le.{field}
use Rattle.checksum.specs.Checksum.{sum_step}
use Rattle.frame.specs.Frame.{frame_size, frame_at, checksum_of, intact_at}
use Rattle.wal.specs.Header.{wal_header_in}
use Rattle.wal.specs.Recovery.{chunk_at, recovered, good_end_of}

-- "for each of .. bytes": the sum s carried over the n bytes that lie in l from `at` on, one after another
unfoldable pub sum_places : List ℕ → ℕ → ℕ → ℕ → ℕ
sum_places l zero at s = s
sum_places l (suc n) at s = sum_places l n (at + 1) (sum_step s (get_or l at 0))

-- document 01's rule at a place: "start at 0; for each of 12 heading bytes, then 4,096 body bytes, .."; the body lies behind the 4 bytes of the
-- stored sum
unfoldable pub rule_at : List ℕ → ℕ → ℕ
rule_at l at = sum_places l 4096 (at + 16) (sum_places l 12 at 0)

-- a frame "wholly inside the length, salt and checksum agree", by the rule
unfoldable pub agrees_at : List ℕ → ℕ → ℕ → Bool
agrees_at l at salt =
    both (leb (at + frame_size) (length l)) (both (eqb (field 4 (at + 8) l) salt) (eqb (field 4 (at + 12) l) (rule_at l at)))

pub record FrameSums : Type 0 where
  -- the sum of a frame, wherever it lies, is the rule on the bytes that lie there: what `frame::compute_checksum` answers
  pub summed : (l : List ℕ) (at : ℕ) → at + frame_size ≤ length l → checksum_of (frame_at at l) ≡ rule_at l at
  -- so at any place of any bytes `frame::is_intact` compares the stored sum with the rule, and no other frame passes
  pub compared : (l : List ℕ) (at salt : ℕ) → intact_at l at salt ≡ agrees_at l at salt
  -- no other byte has a part in it: neither the stored sum's own four, nor any before the frame or behind it
  pub others : (l m : List ℕ) (at : ℕ) → ((i : ℕ) → i < 12 → get_or l (at + i) 0 ≡ get_or m (at + i) 0)
      → ((i : ℕ) → i < 4096 → get_or l (at + 16 + i) 0 ≡ get_or m (at + 16 + i) 0) → rule_at l at ≡ rule_at m at
  -- so in every opening: each frame that it reads agrees ..
  pub found : (l : List ℕ) (i : ℕ) → i < length (recovered l).frames → agrees_at l (chunk_at i) (wal_header_in l).salt ≡ true
  -- .. and where it ends none does, unless it is a batch that does not decode
  pub ended : (l : List ℕ) → agrees_at l (good_end_of (recovered l)) (wal_header_in l).salt ≡ (recovered l).stopped
