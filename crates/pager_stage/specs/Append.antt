-- Parts of appending a batch; the whole is `append_batch` of the pager's definitions.
use Rattle.std.specs.Prelude.{Option, None, Some, List, ℕ, leb, length}
use Rattle.le.specs.Choice.{pick, both}
use Rattle.page.specs.Page.{page_size}
use Rattle.refusal.specs.declared.Refusal.{Refusal}
use Rattle.refusal.specs.declared.Refusal.TheVariants as refusal
use Rattle.mvcc.specs.Seen.{heading_refusal}
use Rattle.wal.specs.Recovery.{wal_area}
use Rattle.pager_state.specs.World.{in_area}

-- the refusal itself, or another where there is none
abbrev pub refusal_or : Option Refusal → Refusal → Refusal
refusal_or None other = other
refusal_or (Some r) other = r

-- "lowest number first": 1, 2 and 3 before another refusal
abbrev pub lowest : ℕ → ℕ → List ℕ → Refusal → Refusal
lowest log len body other =
    pick (both (in_area wal_area log len) (leb (length body) page_size)) (refusal_or (heading_refusal body) other) refusal.Area
