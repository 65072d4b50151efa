-- Header, access mode and clock. Refusal 9 comes for these too: "a call other than the next step or an opening".
use Rattle.std.specs.Prelude.{Err, Ok, Result, ℕ, leb}
use Rattle.le.specs.Choice.{pick}
use Rattle.refusal.specs.Refusal.{accepts, answered}
use Rattle.refusal.specs.declared.Refusal.{Refusal}
use Rattle.header.specs.declared.DbHeader.{DbHeader}
use Rattle.wal.specs.Header.{wal_header_in}
use Rattle.wal.specs.Write.{with_clock}
use Rattle.wal.specs.declared.Wal.{Wal}
use Rattle.pager_state.specs.World.{header_of, busy_refusal, with_wal}
use Rattle.pager_state.specs.Stores.{Disk, content}
use Rattle.pager_state.specs.declared.AccessMode.{AccessMode}
use Rattle.pager_state.specs.declared.AccessMode.TheVariants as mode
use Rattle.pager_state.specs.declared.Opening.{Opening}
use Rattle.pager_state.specs.declared.Opening.TheVariants as opening
use Rattle.pager_state.specs.declared.Pager.{Pager}
use Rattle.pager_state.specs.declared.Outcome.{Outcome}

-- ---- the header that counts

unfoldable pub header : Pager → Result DbHeader Refusal
header p = answered Err (Ok (header_of p)) (busy_refusal p)

-- ---- the access mode

abbrev pub mode_by : Opening → AccessMode
mode_by opening.Clean = mode.ReadWrite
mode_by opening.Plain = mode.ReadWrite
mode_by opening.ReadOnly = mode.ReadOnly
mode_by opening.NoLog = mode.ReadOnly

unfoldable pub access_mode : Pager → Result AccessMode Refusal
access_mode p = answered Err (Ok (mode_by p.opening)) (busy_refusal p)

-- ---- the clock

abbrev pub clock_of : Pager → ℕ
clock_of p = p.wal.header.clock_high_water

-- the one that the log's header has, to which "a raised clock" comes "only at a fold"
abbrev pub log_clock : Disk → ℕ
log_clock d = (wal_header_in (content d.log)).clock_high_water

unfoldable pub clock_high_water_of : Pager → Result ℕ Refusal
clock_high_water_of p = answered Err (Ok (clock_of p)) (busy_refusal p)

-- "a lower one is .. ignored by the pager"
unfoldable pub raised : Wal → ℕ → Wal
raised v c = pick (leb c v.header.clock_high_water) v (with_clock v c)

-- "read-only an empty one whose clock stays 0"
abbrev pub observed_by : Opening → Wal → ℕ → Wal
observed_by opening.Clean v c = raised v c
observed_by opening.Plain v c = raised v c
observed_by opening.ReadOnly v c = raised v c
observed_by opening.NoLog v c = v

unfoldable pub observe_clock : Pager → ℕ → Outcome (Unit {0})
observe_clock p c =
    record {
      answer = answered Err (Ok tt) (busy_refusal p);
      pager = pick (accepts (busy_refusal p)) (with_wal p (observed_by p.opening p.wal c)) p;
    }
