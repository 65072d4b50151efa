-- The stores of a checkpoint (document 01's fold), each in the world that those before it leave: "log pages from 1 below the page count, ascending; flush if there
-- were any; main header; main length; flush; log length 32; log header with the next sequence and the given salt; flush".
use Rattle.std.specs.Prelude.{Bool, true, false, List, [], ◌∷◌, ℕ, suc, ◌*◌, leb, eqb}
use Rattle.le.specs.Choice.{pick}
use Rattle.page.specs.Page.{page_size}
use Rattle.header.specs.Header.{encode_header}
use Rattle.header.specs.declared.DbHeader.{DbHeader}
use Rattle.wal.specs.Header.{header_size, encode_wal_header}
use Rattle.wal.specs.Write.{empty_wal, truncated_header}
use Rattle.wal.specs.declared.WalHeader.{WalHeader}
use Rattle.pager_state.specs.World.{World, count_of, header_of, with_job, with_storage, with_wal}
use Rattle.pager_state.specs.Overlay.{log_bytes, main_at}
use Rattle.pager_state.specs.Stores.{Disk, disk_of, Act, Put, SetLen, Emptied, Other, stored}
use Rattle.pager_state.specs.Pages.{pages_from, in_checkpoint}
use Rattle.pager_state.specs.declared.FileKind.TheVariants as file
use Rattle.pager_state.specs.declared.Job.{Job}
use Rattle.pager_state.specs.declared.Job.TheVariants as job
use Rattle.pager_state.specs.declared.Pager.{Pager}

-- ---- the log header, the last store

-- "A page found nowhere stays none after a fold"; of the others below the count the main file has each from 1 up
abbrev pub checkpointed_entry : ℕ → ℕ → ℕ → ℕ
checkpointed_entry count n x = pick (eqb n 0) 0 (pick (leb count n) 0 (pick (eqb x 0) 0 1))

unfoldable pub checkpointed_from : ℕ → ℕ → List ℕ → List ℕ
checkpointed_from count n [] = []
checkpointed_from count n (x ∷ xs) = checkpointed_entry count n x ∷ checkpointed_from count (suc n) xs

abbrev pub next_header : World → ℕ → WalHeader
next_header w salt = truncated_header w.pager.wal.header salt

abbrev pub log_header_act : World → ℕ → Act
log_header_act w salt = Put Other file.Log 0 (encode_wal_header (next_header w salt)) true

unfoldable pub checkpointed : ℕ → World → World
checkpointed salt w =
    record {
      pager = with_job (with_wal w.pager (empty_wal (next_header w salt))) job.Idle;
      table = checkpointed_from (count_of (header_of w.pager)) 0 w.table;
      log = (stored (log_header_act w salt) (disk_of w)).log.area;
      main = w.main;
    }

-- ---- the log's length

abbrev pub log_length_act : Act
log_length_act = SetLen Emptied file.Log header_size false

-- a log of its header alone; the recovered batches end
abbrev pub without_frames : Pager → Pager
without_frames p =
    record {
      current_header = p.current_header;
      wal = empty_wal p.wal.header;
      recovered = header_size;
      storage = p.storage;
      staged = p.staged;
      job = p.job;
      opening = p.opening;
    }

unfoldable pub log_length_stored : ℕ → ℕ → World → World
log_length_stored salt answer w =
    record {
      pager = with_job (without_frames w.pager) (job.LogHeader salt answer);
      table = w.table;
      log = (stored log_length_act (disk_of w)).log.area;
      main = w.main;
    }

-- ---- stores in the main file

-- the world with the main file of d and its own header h, and the next job
abbrev pub main_stored : Disk → DbHeader → Job → World → World
main_stored d h j w =
    record {
      pager = with_job (with_storage w.pager (record { len = d.main.len; header = h })) j;
      table = w.table;
      log = w.log;
      main = d.main.area;
    }

abbrev pub own_header : World → DbHeader
own_header w = w.pager.storage.header

-- its length
abbrev pub main_length_act : World → Act
main_length_act w = SetLen Other file.Main (page_size * count_of (header_of w.pager)) true

unfoldable pub main_length_stored : ℕ → ℕ → World → World
main_length_stored salt answer w = main_stored (stored (main_length_act w) (disk_of w)) (own_header w) (job.LogLength salt answer) w

-- its header
abbrev pub main_header_act : World → Act
main_header_act w = Put Other file.Main 0 (encode_header (header_of w.pager)) false

unfoldable pub main_header_stored : ℕ → ℕ → World → World
main_header_stored salt answer w = main_stored (stored (main_header_act w) (disk_of w)) (header_of w.pager) (job.MainLength salt answer) w

-- a page; a flush follows the last
abbrev pub is_empty : List ℕ → Bool
is_empty [] = true
is_empty (x ∷ xs) = false

abbrev pub page_act : World → ℕ → Bool → Act
page_act w n last = Put Other file.Main (main_at n) (log_bytes w.table w.log n) last

unfoldable pub page_stored : ℕ → ℕ → ℕ → World → World
page_stored salt answer n w = main_stored (stored (page_act w n false) (disk_of w)) (own_header w) (job.Checkpoint salt (suc n) answer) w

-- ---- the stores that are left

abbrev pub header_todo : ℕ → World → List Act
header_todo salt w = log_header_act w salt ∷ []

abbrev pub empty_todo : ℕ → ℕ → World → List Act
empty_todo salt answer w = log_length_act ∷ header_todo salt (log_length_stored salt answer w)

abbrev pub length_todo : ℕ → ℕ → World → List Act
length_todo salt answer w = main_length_act w ∷ empty_todo salt answer (main_length_stored salt answer w)

unfoldable pub pages_todo : ℕ → ℕ → List ℕ → World → List Act
pages_todo salt answer [] w = main_header_act w ∷ length_todo salt answer (main_header_stored salt answer w)
pages_todo salt answer (n ∷ ns) w = page_act w n (is_empty ns) ∷ pages_todo salt answer ns (page_stored salt answer n w)

-- of a checkpoint that is part done; none of another job
unfoldable pub checkpoint_todo : Job → World → List Act
checkpoint_todo job.Idle w = []
checkpoint_todo (job.Commit h salt page answer) w = []
checkpoint_todo (job.Checkpoint salt page answer) w = pages_todo salt answer (pages_from (in_checkpoint w) page) w
checkpoint_todo (job.MainLength salt answer) w = length_todo salt answer w
checkpoint_todo (job.LogLength salt answer) w = empty_todo salt answer w
checkpoint_todo (job.LogHeader salt answer) w = header_todo salt w

-- ---- the world after the first of them

abbrev pub pages_advance : ℕ → ℕ → List ℕ → World → World
pages_advance salt answer [] w = main_header_stored salt answer w
pages_advance salt answer (n ∷ ns) w = page_stored salt answer n w

unfoldable pub checkpoint_advance : Job → World → World
checkpoint_advance job.Idle w = w
checkpoint_advance (job.Commit h salt page answer) w = w
checkpoint_advance (job.Checkpoint salt page answer) w = pages_advance salt answer (pages_from (in_checkpoint w) page) w
checkpoint_advance (job.MainLength salt answer) w = main_length_stored salt answer w
checkpoint_advance (job.LogLength salt answer) w = log_length_stored salt answer w
checkpoint_advance (job.LogHeader salt answer) w = checkpointed salt w
