-- Starting a commit or checkpoint, the next step, and either in one call. g is the staging area.
use Rattle.std.specs.Prelude.{Option, None, Err, Ok, Result, Bool, true, not, List, [], ◌∷◌, ◌++◌, ℕ, zero, suc, ◌+◌, ◌*◌, leb, eqb, length}
use Rattle.le.specs.Choice.{pick, both}
use Rattle.refusal.specs.Refusal.{number, unless, accepts, answered}
use Rattle.refusal.specs.declared.Refusal.{Refusal}
use Rattle.refusal.specs.declared.Refusal.TheVariants as refusal
use Rattle.header.specs.Header.{is_version}
use Rattle.header.specs.declared.DbHeader.{DbHeader}
use Rattle.frame.specs.Frame.{frame_size}
use Rattle.wal.specs.Recovery.{wal_area}
use Rattle.pager_state.specs.World.{World, world, page_limit, count_of, header_of, fine, staging_fine, busy, read_only, with_job}
use Rattle.pager_state.specs.Overlay.{staged_pages, frame_of, in_log}
use Rattle.pager_state.specs.Stores.{Act, place_of, inside}
use Rattle.pager_state.specs.Pages.{pages_from, first_of, differs, in_checkpoint, lacks}
use Rattle.pager_state.specs.Checkpoint.{checkpoint_todo, checkpoint_advance}
use Rattle.pager_state.specs.Commit.{commit_todo, commit_advance}
use Rattle.pager_state.specs.declared.Job.{Job}
use Rattle.pager_state.specs.declared.Job.TheVariants as job
use Rattle.pager_state.specs.declared.Pager.{Pager}
use Rattle.pager_state.specs.declared.CheckpointStart.TheVariants as checkpoint
use Rattle.pager_state.specs.declared.CheckpointStart.{CheckpointStart}
use Rattle.pager_state.specs.declared.Step.TheVariants as step
use Rattle.pager_state.specs.declared.Outcome.{Outcome}
use Rattle.pager_state.specs.declared.Step.{Step}

-- ---- starting: "the starting call judges and stores nothing"

-- 13: "commit count 0 or above 1,024, version not 4..6"
abbrev pub header_good : DbHeader → Bool
header_good h = both (leb 1 (count_of h)) (both (leb (count_of h) page_limit) (is_version h.format_version))

-- "number of differing pages"
unfoldable pub differing : List ℕ → World → ℕ
differing g w = length (pages_from (differs g w) 0)

-- 14's "lowest page"; 1,024 if none lacks
unfoldable pub lacking : World → DbHeader → ℕ
lacking w h = first_of (pages_from (lacks w.pager.staged (count_of (header_of w.pager)) (count_of h)) 0)

-- 15: "length + 4,112 × frames to add is above 4,210,720"
abbrev pub room_for : World → ℕ → Bool
room_for w n = leb (w.pager.wal.len + frame_size * n) wal_area

-- a page's frame in the log, if the table names one, ends at len or before
abbrev pub stands_before : List ℕ → ℕ → ℕ → Bool
stands_before t n len = pick (in_log t n) (leb (frame_of t n + frame_size) len) true

-- each of these pages' does
unfoldable pub all_before : List ℕ → ℕ → List ℕ → Bool
all_before t len [] = true
all_before t len (n ∷ ns) = both (stands_before t n len) (all_before t len ns)

-- all that staged pages are compared with ends at the log's length or before, so that no frame of the commit is stored over it
abbrev pub table_fits : World → Bool
table_fits w = all_before w.table w.pager.wal.len (staged_pages w.pager.staged)

-- refusal 1 is of the lengths; and of the table, where nothing is part done (a checkpoint that has emptied the log leaves its places void until
-- the next store). Only a made-up table does not fit.
abbrev pub commit_fine : List ℕ → World → Bool
commit_fine g w = both (both (fine w) (staging_fine g)) (pick (busy w.pager) true (table_fits w))

-- refusals 1, 9, 10, 13, 14, 15
unfoldable pub commit_refusal : List ℕ → World → DbHeader → Option Refusal
commit_refusal g w h =
    unless (commit_fine g w) refusal.Area
    (unless (not (busy w.pager)) refusal.Busy
    (unless (not (read_only w.pager)) refusal.ReadOnly
    (unless (header_good h) refusal.NewHeader
    (unless (leb page_limit (lacking w h)) (refusal.Joining (lacking w h))
    (unless (room_for w (differing g w + 1)) refusal.LogFull None)))))

unfoldable pub commit_start : List ℕ → World → DbHeader → Result (Unit {0}) Refusal
commit_start g w h = answered Err (Ok tt) (commit_refusal g w h)

unfoldable pub begin_commit : List ℕ → World → DbHeader → ℕ → Outcome (Unit {0})
begin_commit g w h salt =
    record {
      answer = commit_start g w h;
      pager = pick (accepts (commit_refusal g w h)) (with_job w.pager (job.Commit h salt 0 (differing g w))) w.pager;
    }

-- no page is in the log
unfoldable pub no_log_pages : List ℕ → Bool
no_log_pages [] = true
no_log_pages (x ∷ xs) = both (leb x 1) (no_log_pages xs)

-- "with 0 frames and no log pages, 0 and no store"
unfoldable pub nothing_to_checkpoint : World → Bool
nothing_to_checkpoint w = both (eqb w.pager.wal.frame_count 0) (no_log_pages w.table)

-- refusals 1, 9, 10
unfoldable pub checkpoint_refusal : List ℕ → World → Option Refusal
checkpoint_refusal g w =
    unless (both (fine w) (staging_fine g)) refusal.Area
    (unless (not (busy w.pager)) refusal.Busy
    (unless (not (read_only w.pager)) refusal.ReadOnly None))

unfoldable pub checkpoint_start : List ℕ → World → Result CheckpointStart Refusal
checkpoint_start g w = answered Err (pick (nothing_to_checkpoint w) (Ok checkpoint.Nothing) (Ok checkpoint.Begun)) (checkpoint_refusal g w)

-- stores are to be done
abbrev pub checkpoint_begins : List ℕ → World → Bool
checkpoint_begins g w = both (accepts (checkpoint_refusal g w)) (not (nothing_to_checkpoint w))

-- "It answers the pages written"
unfoldable pub checkpoint_count : World → ℕ
checkpoint_count w = length (pages_from (in_checkpoint w) 0)

unfoldable pub begin_checkpoint : List ℕ → World → ℕ → Outcome CheckpointStart
begin_checkpoint g w salt =
    record {
      answer = checkpoint_start g w;
      pager = pick (checkpoint_begins g w) (with_job w.pager (job.Checkpoint salt 0 (checkpoint_count w))) w.pager;
    }

-- ---- the next step: "does the next store .. and no other"

-- the stores left: at most one of the two is not empty
unfoldable pub todo : List ℕ → World → List Act
todo g w = commit_todo g w.pager.job w ++ checkpoint_todo w.pager.job w

-- the store after the first of them: one of the two does nothing
unfoldable pub advance : List ℕ → World → World
advance g w = checkpoint_advance w.pager.job (commit_advance g w.pager.job w)

-- the answer that the last store gives
abbrev pub answer_of : Job → ℕ
answer_of job.Idle = 0
answer_of (job.Commit h salt page answer) = answer
answer_of (job.Checkpoint salt page answer) = answer
answer_of (job.MainLength salt answer) = answer
answer_of (job.LogLength salt answer) = answer
answer_of (job.LogHeader salt answer) = answer

-- "the last also gives the answer"
abbrev pub named_by : ℕ → Act → List Act → Result Step Refusal
named_by answer a [] = Ok (step.Last (place_of a) answer)
named_by answer a (b ∷ rest) = Ok (step.Stored (place_of a))

-- "A next-step call with no commit or fold under way does nothing and says Idle"; a store that would pass its area is refused (1): only a
-- made-up store has such a one
unfoldable pub named : ℕ → List Act → Result Step Refusal
named answer [] = Ok step.Idle
named answer (a ∷ rest) = pick (inside a) (named_by answer a rest) (Err refusal.Area)

-- v is the world w after the first store
unfoldable pub done : List Act → World → World → World
done [] v w = w
done (a ∷ rest) v w = pick (inside a) v w

abbrev pub step_fine : List ℕ → World → Bool
step_fine g w = both (fine w) (staging_fine g)

unfoldable pub step_answer : List ℕ → World → Result Step Refusal
step_answer g w = pick (step_fine g w) (named (answer_of w.pager.job) (todo g w)) (Err refusal.Area)

unfoldable pub stepped : List ℕ → World → World
stepped g w = pick (step_fine g w) (done (todo g w) (advance g w) w) w

-- 0 is no refusal
abbrev pub step_refusal : Result Step Refusal → ℕ
step_refusal (Ok step.Idle) = 0
step_refusal (Ok (step.Stored p)) = 0
step_refusal (Ok (step.Last p n)) = 0
step_refusal (Err r) = number r

-- ---- in one call: "these steps run to the end"

unfoldable pub steps : List ℕ → ℕ → World → World
steps g zero w = w
steps g (suc k) w = steps g k (stepped g w)

-- more than any commit or checkpoint has
abbrev pub most_steps : ℕ
most_steps = 2200

abbrev pub on_store : World → Pager → World
on_store w p = world p w.table w.log w.main

unfoldable pub commit_answer : List ℕ → World → DbHeader → Result ℕ Refusal
commit_answer g w h = answered Err (Ok (differing g w)) (commit_refusal g w h)

unfoldable pub commit_world : List ℕ → World → DbHeader → ℕ → World
commit_world g w h salt = pick (accepts (commit_refusal g w h)) (steps g most_steps (on_store w (begin_commit g w h salt).pager)) w

unfoldable pub checkpoint_answer : List ℕ → World → Result ℕ Refusal
checkpoint_answer g w = answered Err (Ok (pick (nothing_to_checkpoint w) 0 (checkpoint_count w))) (checkpoint_refusal g w)

unfoldable pub checkpoint_world : List ℕ → World → ℕ → World
checkpoint_world g w salt = pick (checkpoint_begins g w) (steps g most_steps (on_store w (begin_checkpoint g w salt).pager)) w
