-- Document 02, P4: "A station came back with a clock older than a batch it had just recovered, and issued a time twice. A clean opening therefore
-- takes the larger of the log header's clock and the greatest commit time among the recovered batches. Plain openings keep the header's clock,
-- as the Rust does." `opening-clock` of proofs/OpeningClock.antt proves it. What an opening takes is `clock_taken` of pager_state.
use Rattle.std.specs.Prelude.{Ok, ◌≡◌, true, false, List, [], ◌∷◌, ℕ, max, ◌^◌, ◌≤◌, ◌<◌, pos}
use Rattle.mvcc.specs.Batch.{tombstone, encode_body, Each}
use Rattle.wal.specs.Recovery.{recovered, committed_frames}
use Rattle.pager_state.specs.Stores.{Disk, content, disk_of}
use Rattle.pager_state.specs.Opening.{How, commit_times, greatest, first_header, open_pager}
use Rattle.pager_state.specs.Opened.{Opened}
use Rattle.pager_state.specs.Queries.{log_clock, clock_high_water_of}
use Rattle.pager_state.specs.declared.AccessMode.{AccessMode}
use Rattle.pager_state.specs.declared.AccessMode.TheVariants as mode
use Rattle.pager_state.specs.declared.Pager.{Pager}
use Rattle.history.specs.Model.{Batch}
use Rattle.history.specs.Calls.{Lent, Call, Open, Append, Commit, Checkpoint}
use Rattle.history.specs.Run.{Run, whole, Attempt, Cut, next}
use Rattle.history.specs.Demand3.{walked, Sized, TypedEvent}
use Rattle.history.specs.Guards.{AtFirst, Always, Accepted, committed_batch}

-- ---- any files

-- the clock that a store tells
abbrev pub Tells : Pager → ℕ → Type 0
Tells p c = clock_high_water_of p ≡ Ok c

-- of the store that an opening of these files gave
pub record ByOpening (how : How) (d : Disk) (p : Pager) : Type 0 where
  -- "A clean opening .. takes the larger of the log header's clock and the greatest commit time among the recovered batches"
  pub clean : how.exists ≡ true → how.clean ≡ true → Tells p (max (log_clock d) (greatest (commit_times (committed_frames (recovered (content d.log))))))
  -- "Plain openings keep the header's clock"
  pub plain : how.exists ≡ true → how.clean ≡ false → Tells p (log_clock d)
  -- an absent log
  pub fresh : how.exists ≡ false → Tells p 0

-- ---- histories

-- the clock is at least the log header's, and at least every commit time of the batches that the store returns
pub record NoOlder (r : Run) : Type 0 where
  pub clock : ℕ
  pub told : Tells r.world.pager clock
  pub header : log_clock (disk_of r.world) ≤ clock
  pub batches : Each (λ (b : Batch). b.time ≤ clock) (walked 1025 r.world 0)

-- a batch of that time: the deletion of a row
abbrev pub body_at : ℕ → List ℕ
body_at time = encode_body time (tombstone [] (pos 0) ∷ [])

-- appended and then committed
abbrev pub committed_at : ℕ → ℕ → Run → Run
committed_at time salt r = committed_batch (body_at time) first_header salt r

-- a clean opening then has the batch's time; with a checkpoint before it the clock of the new store, 0, since the time was never observed and its
-- batch is gone. So nobody may say that the clock never falls below a committed time.
pub record Falls (r : Run) (time salt : ℕ) : Type 0 where
  pub appended : Accepted (Append (body_at time)) r
  pub committed : Accepted (Commit first_header salt) (whole (Append (body_at time)) r)
  pub checkpointed : Accepted (Checkpoint salt) (committed_at time salt r)
  pub raised : (lent : Lent) → Sized lent → Tells (whole (Open mode.ReadWrite lent) (committed_at time salt r)).world.pager time
  pub fallen : (lent : Lent) → Sized lent → Tells (whole (Open mode.ReadWrite lent) (whole (Checkpoint salt) (committed_at time salt r))).world.pager 0

pub record OpeningClock : Type 0 where
  -- any files and areas, whatever they hold
  pub openings : (how : How) (t : List ℕ) (d : Disk) (g : List ℕ) (p : Pager) → open_pager how t d g ≡ Opened p → ByOpening how d p
  -- in any history, cuts and refused calls included: a clean opening that is not refused ..
  pub opened : Always (λ (r : Run). (m : AccessMode) (lent : Lent) → Accepted (Open m lent) r → NoOlder (whole (Open m lent) r))
  -- .. and the one behind a cut and other openings that were cut, of any call, after any stored byte
  pub reopened : Always (λ (r : Run).
      (c : Call) (j k : ℕ) (attempts : List Attempt) (lent : Lent) → TypedEvent (Cut c j k attempts lent) → NoOlder (next (Cut c j k attempts lent) r))
  -- what is not promised, of every time: batch of time 9, commit, checkpoint, opening: 0
  pub falls : AtFirst (λ (r : Run). (time salt : ℕ) → time < 2 ^ 64 → salt < 2 ^ 32 → Falls r time salt)
