-- What the store's calls answer, in numbers: document 01's refusal or 0, and what the call gives. Stores go over as `store_of` has them
-- and are taken as `pager_in` has them.
use Rattle.std.specs.Prelude.{Err, None, Ok, Option, Result, Some, Bool, not, List, [], ℕ, ◌+◌, leb, eqb}
use Rattle.le.specs.Choice.{pick}
use Rattle.page.specs.Page.{page_size}
use Rattle.header.specs.declared.DbHeader.{DbHeader}
use Rattle.wal.specs.Recovery.{wal_area}
use Rattle.wal.specs.declared.BatchAt.{BatchAt}
use Rattle.refusal.specs.Refusal as table
use Rattle.refusal.specs.declared.Refusal.{Refusal}
use Rattle.pager_state.specs.World.{World}
use Rattle.pager_state.specs.Overlay.{page_from}
use Rattle.pager_state.specs.declared.AccessMode.{AccessMode}
use Rattle.pager_state.specs.declared.AccessMode.TheVariants as mode
use Rattle.pager_state.specs.declared.PageFound.{PageFound}
use Rattle.pager_state.specs.declared.PageFound.TheVariants as found
use Rattle.pager_state.specs.declared.FileKind.{FileKind}
use Rattle.pager_state.specs.declared.FileKind.TheVariants as file
use Rattle.pager_state.specs.declared.CheckpointStart.TheVariants as checkpoint
use Rattle.pager_state.specs.declared.Place.{Place}
use Rattle.pager_state.specs.declared.Pager.{Pager}
use Rattle.pager_state.specs.Opening.{no_header}
use Rattle.pager_preview.specs.declared.Preview.{Preview}
use Rattle.capi_numbers.specs.Numbers.{store_of}
use Rattle.capi_answers.specs.declared.Answered.{Answered}
use Rattle.capi_answers.specs.declared.HeaderAnswer.{HeaderAnswer}
use Rattle.capi_answers.specs.declared.NumberAnswer.{NumberAnswer}
use Rattle.capi_answers.specs.declared.PageAnswer.{PageAnswer}
use Rattle.capi_answers.specs.declared.BatchPlace.{BatchPlace}
use Rattle.capi_answers.specs.declared.StepAnswered.{StepAnswered}
use Rattle.capi_answers.specs.declared.PreviewAnswered.{PreviewAnswered}
use Rattle.pager_state.specs.declared.CheckpointStart.{CheckpointStart}
use Rattle.pager_state.specs.declared.Step.TheVariants as step
use Rattle.pager_state.specs.declared.Step.{Step}

-- ---- what every call is told and tells

-- 0 is no, any other number yes
abbrev pub flag_in : ℕ → Bool
flag_in n = not (eqb n 0)

abbrev pub flag_of : Bool → ℕ
flag_of b = pick b 1 0

abbrev pub reply : ℕ → ℕ → ℕ → Pager → Answered
reply refusal begun answer p = record { refusal = refusal; begun = begun; answer = answer; store = store_of p }

abbrev pub accepted : Pager → Answered
accepted p = reply 0 0 0 p

-- 0 is no refusal
abbrev pub refusal_number : Result (Unit {0}) Refusal → ℕ
refusal_number (Ok tt) = 0
refusal_number (Err r) = table.number r

-- beside 14 its "lowest page"
abbrev pub refused_as : Refusal → Pager → Answered
refused_as r p = reply (table.number r) 0 (table.lowest_page r) p

-- ---- creation and openings

-- 0 is read-write, any other number read-only
abbrev pub mode_in : ℕ → AccessMode
mode_in n = pick (eqb n 0) mode.ReadWrite mode.ReadOnly

abbrev pub done_as : Result (Unit {0}) Refusal → Pager → Answered
done_as (Ok tt) p = accepted p
done_as (Err r) p = refused_as r p

-- ---- queries

abbrev pub header_as : Result DbHeader Refusal → HeaderAnswer
header_as (Ok h) = record { refusal = 0; header = h }
header_as (Err r) = record { refusal = table.number r; header = no_header }

abbrev pub number_reply : ℕ → ℕ → NumberAnswer
number_reply refusal n = record { refusal = refusal; number = n }

abbrev pub mode_of : AccessMode → ℕ
mode_of mode.ReadWrite = 0
mode_of mode.ReadOnly = 1

abbrev pub mode_as : Result AccessMode Refusal → NumberAnswer
mode_as (Ok m) = number_reply 0 (mode_of m)
mode_as (Err r) = number_reply (table.number r) 0

abbrev pub clock_as : Result ℕ Refusal → NumberAnswer
clock_as (Ok c) = number_reply 0 c
clock_as (Err r) = number_reply (table.number r) 0

-- ---- pages and batches

abbrev pub page : ℕ → ℕ → ℕ → PageAnswer
page refusal area at = record { refusal = refusal; area = area; at = at }

-- 1 the log, 2 the main file, 3 the staging area, 0 none. A made-up table can name any place of the log: where no whole page lies there,
-- that is told as refusal 1.
abbrev pub found_as : Result PageFound Refusal → PageAnswer
found_as (Ok (found.Staged at)) = page 0 3 at
found_as (Ok (found.Log at)) = pick (leb (at + page_size) wal_area) (page 0 1 at) (page 1 0 0)
found_as (Ok (found.Main at)) = page 0 2 at
found_as (Ok found.Nothing) = page 0 0 0
found_as (Err r) = page (table.number r) 0 0

-- what a host finds at the place that it is told: the page's bytes, or none
abbrev pub bytes_in : World → List ℕ → PageAnswer → List ℕ
bytes_in w g a =
    pick (eqb a.area 1) (page_from a.at w.log) (pick (eqb a.area 2) (page_from a.at w.main) (pick (eqb a.area 3) (page_from a.at g) []))

abbrev pub place : ℕ → ℕ → ℕ → ℕ → BatchPlace
place refusal found index offset = record { refusal = refusal; found = found; index = index; offset = offset }

abbrev pub recovered_as : Result (Option BatchAt) Refusal → BatchPlace
recovered_as (Ok (Some b)) = place 0 1 b.index b.offset
recovered_as (Ok None) = place 0 0 0 0
recovered_as (Err r) = place (table.number r) 0 0 0

-- ---- commit and checkpoint

abbrev pub commit_begun_as : Result (Unit {0}) Refusal → Pager → Answered
commit_begun_as (Ok tt) p = reply 0 1 0 p
commit_begun_as (Err r) p = refused_as r p

-- where there is nothing to store, no step is to be done and the answer is 0
abbrev pub checkpoint_begun_as : Result CheckpointStart Refusal → Pager → Answered
checkpoint_begun_as (Ok checkpoint.Begun) p = reply 0 1 0 p
checkpoint_begun_as (Ok checkpoint.Nothing) p = accepted p
checkpoint_begun_as (Err r) p = refused_as r p

abbrev pub counted_as : Result ℕ Refusal → Pager → Answered
counted_as (Ok n) p = reply 0 0 n p
counted_as (Err r) p = refused_as r p

-- ---- what a commit would come to

abbrev pub preview_reply : Preview → PreviewAnswered
preview_reply p =
    record {
      refusal = 0;
      checkpointed = flag_of p.checkpointed;
      answer = p.answer;
      frame_count = p.frame_count;
      log_len = p.log_len;
      main_len = p.main_len;
    }

-- beside 14 its "lowest page"
abbrev pub preview_refused : Refusal → PreviewAnswered
preview_refused r =
    record { refusal = table.number r; checkpointed = 0; answer = table.lowest_page r; frame_count = 0; log_len = 0; main_len = 0 }

abbrev pub previewed_as : Result Preview Refusal → PreviewAnswered
previewed_as (Ok p) = preview_reply p
previewed_as (Err r) = preview_refused r

-- ---- the next step

abbrev pub file_number : FileKind → ℕ
file_number file.Log = 1
file_number file.Main = 2

-- a store was done: 1, or 2 if it is the last, which gives the answer
abbrev pub step_stored : ℕ → Place → ℕ → Pager → StepAnswered
step_stored kind x answer p =
    record {
      refusal = 0;
      kind = kind;
      area = file_number x.file;
      flush = flag_of x.flush;
      at = x.at;
      len = x.len;
      answer = answer;
      store = store_of p;
    }

abbrev pub no_step : ℕ → Pager → StepAnswered
no_step refusal p = record { refusal = refusal; kind = 0; area = 0; flush = 0; at = 0; len = 0; answer = 0; store = store_of p }

abbrev pub stepped_as : Result Step Refusal → Pager → StepAnswered
stepped_as (Ok step.Idle) p = no_step 0 p
stepped_as (Ok (step.Stored x)) p = step_stored 1 x 0 p
stepped_as (Ok (step.Last x n)) p = step_stored 2 x n p
stepped_as (Err r) p = no_step (table.number r) p
