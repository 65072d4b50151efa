-- Reading pages of a store of which only that much is handed over as a reading takes: its refusals, judged once, and a page's place.
use Rattle.std.specs.Prelude.{Err, Ok, Result, not, List, ℕ, eqb, length}
use Rattle.le.specs.Choice.{pick, both}
use Rattle.refusal.specs.Refusal.{answered}
use Rattle.refusal.specs.declared.Refusal.{Refusal}
use Rattle.pager_state.specs.World.{fine_in, staging_fine}
use Rattle.pager_state.specs.Overlay.{read_refusal_by}
use Rattle.pager_state.specs.declared.PageFound.{PageFound}

-- refusals 1 and 9; a job of 0 is none
unfoldable pub may_read : ℕ → ℕ → ℕ → ℕ → List ℕ → List ℕ → List ℕ → List ℕ → Result (Unit {0}) Refusal
may_read count job log main t l m g =
    answered Err (Ok tt)
    (read_refusal_by (both (fine_in count log main (length t) (length l) (length m)) (staging_fine g)) (not (eqb job 0)))

-- "none if at or above the page count": with nothing staged there is no page from the count on; else it may be any of the numbers of 32 bits
unfoldable pub read_end : ℕ → ℕ → ℕ
read_end count k = pick (eqb k 0) count 4294967296

-- a place, behind the refusals
abbrev pub read_as : Result (Unit {0}) Refusal → PageFound → Result PageFound Refusal
read_as (Ok tt) f = Ok f
read_as (Err r) f = Err r
