-- The open store with the areas lent to it, and what refusals 1 and 9 judge. The staging area is handed beside it: only staging stores there.
use Rattle.std.specs.Prelude.{Option, None, Bool, true, false, not, List, ℕ, ◌*◌, leb, eqb, length}
use Rattle.le.specs.Choice.{both}
use Rattle.refusal.specs.Refusal.{unless}
use Rattle.refusal.specs.declared.Refusal.{Refusal}
use Rattle.refusal.specs.declared.Refusal.TheVariants as refusal
use Rattle.page.specs.Page.{page_size}
use Rattle.header.specs.declared.DbHeader.{DbHeader}
use Rattle.wal.specs.Recovery.{wal_area}
use Rattle.wal.specs.declared.Wal.{Wal}
use Rattle.pager_state.specs.declared.FileStorage.{FileStorage}
use Rattle.pager_state.specs.declared.Staged.{Staged}
use Rattle.pager_state.specs.declared.Job.{Job}
use Rattle.pager_state.specs.declared.Job.TheVariants as job
use Rattle.pager_state.specs.declared.Opening.{Opening}
use Rattle.pager_state.specs.declared.Opening.TheVariants as opening
use Rattle.pager_state.specs.declared.Pager.{Pager}

-- "Page count .. to 1,024"; "main area 4,194,304"
abbrev pub page_limit : ℕ
page_limit = 1024

abbrev pub main_area_size : ℕ
main_area_size = page_size * page_limit

-- document 02, P9: "Make that the limit: staging area 98,304 bytes". Another limit is another number here, and in `STAGED_PAGES` of src/lib.rt
abbrev pub staged_limit : ℕ
staged_limit = 24

abbrev pub staging_area : ℕ
staging_area = page_size * staged_limit

pub record World : Type 0 where
  pub pager : Pager
  pub table : List ℕ
  pub log : List ℕ
  pub main : List ℕ

abbrev pub world : Pager → List ℕ → List ℕ → List ℕ → World
world p t l m = record { pager = p; table = t; log = l; main = m }

-- ---- short names

abbrev pub count_of : DbHeader → ℕ
count_of h = h.page_count

abbrev pub header_of : Pager → DbHeader
header_of p = p.current_header

-- ---- refusal 1: "a wrong area length, or a file length above its area"

-- a file of `len` bytes in an area of `area` bytes, which must have `size`
abbrev pub in_area : ℕ → ℕ → ℕ → Bool
in_area size area len = both (eqb area size) (leb len size)

abbrev pub log_fine : ℕ → List ℕ → Bool
log_fine n l = in_area wal_area (length l) n

abbrev pub staging_fine : List ℕ → Bool
staging_fine g = eqb (length g) staging_area

-- the table's length, the log's area and length, those of the main file, and what is judged besides
abbrev pub files_fine : ℕ → ℕ → ℕ → ℕ → ℕ → Bool → Bool
files_fine t la l ma m rest = both (eqb t page_limit) (both (in_area wal_area la l) (both (in_area main_area_size ma m) rest))

-- besides, the staging area
abbrev pub lengths_fine : ℕ → ℕ → ℕ → ℕ → ℕ → ℕ → Bool
lengths_fine t la l ma m g = files_fine t la l ma m (eqb g staging_area)

-- besides, the page count: the main file has that length once it is checkpointed
abbrev pub fine_in : ℕ → ℕ → ℕ → ℕ → ℕ → ℕ → Bool
fine_in count log main t l m = files_fine t l log m main (leb count page_limit)

abbrev pub fine_by : Pager → ℕ → ℕ → ℕ → Bool
fine_by p t l m = fine_in (count_of (header_of p)) p.wal.len p.storage.len t l m

unfoldable pub fine : World → Bool
fine w = fine_by w.pager (length w.table) (length w.log) (length w.main)

-- ---- refusal 9: "a commit or fold is part done"

abbrev pub busy_with : Job → Bool
busy_with job.Idle = false
busy_with (job.Commit h salt page answer) = true
busy_with (job.Checkpoint salt page answer) = true
busy_with (job.MainLength salt answer) = true
busy_with (job.LogLength salt answer) = true
busy_with (job.LogHeader salt answer) = true

abbrev pub busy : Pager → Bool
busy p = busy_with p.job

-- of calls that have no other refusal
abbrev pub busy_refusal : Pager → Option Refusal
busy_refusal p = unless (not (busy p)) refusal.Busy None

-- ---- refusal 10: the kinds of opening that write nothing

abbrev pub read_only_by : Opening → Bool
read_only_by opening.Clean = false
read_only_by opening.Plain = false
read_only_by opening.ReadOnly = true
read_only_by opening.NoLog = true

abbrev pub read_only : Pager → Bool
read_only p = read_only_by p.opening

-- ---- the store with one part changed

abbrev pub with_job : Pager → Job → Pager
with_job p j =
    record {
      current_header = p.current_header;
      wal = p.wal;
      recovered = p.recovered;
      storage = p.storage;
      staged = p.staged;
      job = j;
      opening = p.opening;
    }

abbrev pub with_wal : Pager → Wal → Pager
with_wal p v =
    record {
      current_header = p.current_header;
      wal = v;
      recovered = p.recovered;
      storage = p.storage;
      staged = p.staged;
      job = p.job;
      opening = p.opening;
    }

abbrev pub with_staged : Pager → Staged → Pager
with_staged p g =
    record {
      current_header = p.current_header;
      wal = p.wal;
      recovered = p.recovered;
      storage = p.storage;
      staged = g;
      job = p.job;
      opening = p.opening;
    }

abbrev pub with_storage : Pager → FileStorage → Pager
with_storage p s =
    record {
      current_header = p.current_header;
      wal = p.wal;
      recovered = p.recovered;
      storage = s;
      staged = p.staged;
      job = p.job;
      opening = p.opening;
    }

-- nothing staged
abbrev pub none_staged : Staged → Staged
none_staged g = record { count = 0; pages = g.pages }
