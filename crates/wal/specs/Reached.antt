-- The bytes of a log's area and the open log after any calls. A refused call leaves both as they were, and is no step.
-- The bounds are what the machine's types say of the arguments. A log made up of numbers is none of these: of `Wal::empty` with
-- another header than the log's own, and of `Wal::longer` where no readable frame was stored at the log's length with count 0
-- (where one was, `longer` is an append: `reached-longer` of proofs/Reached.antt), nothing is said.
use Rattle.std.specs.Prelude.{Ok, ◌≡◌, ℕ, ◌^◌, ◌<◌, List, take}
use Rattle.le.specs.Le.{Bytes}
use Rattle.wal.specs.Recovery.{open_log}
use Rattle.wal.specs.Write.{empty_wal, create_answer, create_after, truncate_answer, truncate_after, append_frame_answer, append_frame_after, clock_answer}
use Rattle.wal.specs.declared.Wal.{Wal}

-- the log's bytes
abbrev pub log_file : List ℕ → Wal → List ℕ
log_file area w = take w.len area

pub data Reached : List ℕ → Wal → Type 0 where
  -- the area's first n bytes, whatever they are
  by-open : (area : List ℕ) {w : Wal} (n : ℕ) → Bytes area → open_log (take n area) ≡ Ok w → Reached area w
  by-create : (area : List ℕ) {w : Wal} (salt : ℕ) → salt < 2 ^ 32 → create_answer area salt ≡ Ok w → Reached (create_after area salt) w
  by-truncate : {area : List ℕ} {w v : Wal} (salt : ℕ) → salt < 2 ^ 32 → Reached area w → truncate_answer area w salt ≡ Ok v
      → Reached (truncate_after area w salt) v
  by_append : {area : List ℕ} {w v : Wal} (page : ℕ) (body : List ℕ) (count : ℕ) → page < 2 ^ 32 → count < 2 ^ 32 → Reached area w
      → append_frame_answer area w page body count ≡ Ok v → Reached (append_frame_after area w page body count) v
  by-clock : {area : List ℕ} {w v : Wal} (value : ℕ) → value < 2 ^ 64 → Reached area w → clock_answer w value ≡ Ok v → Reached area v
  -- the log cut to its header, as a checkpoint's "log length 32" leaves it
  by-empty : {area : List ℕ} {w : Wal} → Reached area w → Reached area (empty_wal w.header)
