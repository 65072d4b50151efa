-- A step of a checkpoint that is part done, and what its parts are by themselves.
use Rattle.std.specs.Prelude.{Err, Result, List, ℕ, min}
use Rattle.le.specs.Choice.{pick}
use Rattle.refusal.specs.declared.Refusal.TheVariants as refusal
use Rattle.refusal.specs.declared.Refusal.{Refusal}
use Rattle.header.specs.Header.{encode_header}
use Rattle.header.specs.declared.DbHeader.{DbHeader}
use Rattle.pager_state.specs.World.{World, page_limit, fine, with_job, with_storage}
use Rattle.pager_state.specs.Overlay.{log_bytes, main_at}
use Rattle.pager_state.specs.Stores.{File, put_file}
use Rattle.pager_state.specs.Checkpoint.{checkpoint_todo, checkpoint_advance}
use Rattle.pager_state.specs.Steps.{answer_of, named, done}
use Rattle.pager_state.specs.declared.Job.{Job}
use Rattle.pager_state.specs.declared.Pager.{Pager}
use Rattle.pager_state.specs.declared.CheckpointStart.{CheckpointStart}
use Rattle.pager_state.specs.declared.Outcome.{Outcome}
use Rattle.pager_state.specs.declared.Step.{Step}

-- refusal 1, then "each next-step call does the next store .. and no other" of a checkpoint; of another job nothing and Idle
unfoldable pub checkpoint_step_answer : World → Result Step Refusal
checkpoint_step_answer w = pick (fine w) (named (answer_of w.pager.job) (checkpoint_todo w.pager.job w)) (Err refusal.Area)

unfoldable pub checkpoint_stepped : World → World
checkpoint_stepped w = pick (fine w) (done (checkpoint_todo w.pager.job w) (checkpoint_advance w.pager.job w) w) w

-- ---- its parts

-- the pages from there on are none of them
abbrev pub checkpoint_end : ℕ → ℕ → ℕ
checkpoint_end count len = min (min count page_limit) len

abbrev pub file_in : List ℕ → ℕ → File
file_in area len = record { area = area; len = len }

-- the store with another main file and the next job
abbrev pub with_main : Pager → ℕ → DbHeader → Job → Pager
with_main p len h j = with_job (with_storage p (record { len = len; header = h })) j

-- the store of a page, of the main header and of the main length, on the main file by itself
abbrev pub page_put : List ℕ → ℕ → List ℕ → List ℕ → ℕ → File
page_put main len t l n = put_file (file_in main len) (main_at n) (log_bytes t l n)

abbrev pub header_put : List ℕ → ℕ → DbHeader → File
header_put main len h = put_file (file_in main len) 0 (encode_header h)

abbrev pub checkpoint_started_as : Result CheckpointStart Refusal → Pager → Outcome CheckpointStart
checkpoint_started_as a p = record { answer = a; pager = p }
