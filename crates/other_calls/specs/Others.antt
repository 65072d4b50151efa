-- The pager's public calls that `Call` does not name: each is one of those that it does, or none, on every store, a made-up one too.
-- `BeginCommit h salt`, `Step`, `Stage n bytes` and `Ask (ReadPage n)` are the theorem's own calls: `refused_building`, `world_after` and `calls.staging_bytes` say what they come to.
use Rattle.std.specs.Prelude.{Err, Ok, Result, ◌≡◌, Bool, not, List, ℕ, zero, suc, ◌+◌, ◌≤◌, ◌<◌, eqb}
use Rattle.le.specs.Choice.{pick}
use Rattle.refusal.specs.Refusal.{number_of}
use Rattle.refusal.specs.declared.Refusal.TheVariants as refusal
use Rattle.refusal.specs.declared.Refusal.{Refusal}
use Rattle.pager_state.specs.World.{World, count_of, header_of, fine, staging_fine, busy, with_staged}
use Rattle.pager_state.specs.Overlay.{slots, place_page, find_page, find_refusal}
use Rattle.pager_state.specs.Staging.{stage_refusal, staged_after, staging_bytes}
use Rattle.header.specs.declared.DbHeader.{DbHeader}
use Rattle.pager_state.specs.Steps.{differing, commit_refusal, step_fine, step_answer, on_store}
use Rattle.pager_state.specs.declared.Job.{Job}
use Rattle.pager_state.specs.declared.Job.TheVariants as job
use Rattle.pager_state.specs.declared.Pager.{Pager}
use Rattle.pager_state.specs.declared.PageFound.{PageFound}
use Rattle.pager_state.specs.declared.PageFound.TheVariants as found
use Rattle.pager_state.specs.declared.Staged.{Staged}
use Rattle.pager_state.specs.declared.Step as declared
use Rattle.pager_state.specs.declared.Step.TheVariants as step
use Rattle.pager_checkpoint.specs.CheckpointStep.{checkpoint_step_answer, checkpoint_stepped}
use Rattle.pager_commit.specs.CommitStep.{commit_step_answer, commit_stepped, commit_frames_world}
use Rattle.pager_read.specs.Reading.{may_read, read_end, read_as}
use Rattle.history.specs.Calls.{ReadPage, Ask, Stage, BeginCommit, Step, refused_by, world_after}
use Rattle.history.specs.Calls as calls

-- ---- steps: `commit_step` and `checkpoint_step`. a is the call's answer, v the store and areas after it

-- nothing is done: Idle, or 1 where the areas are wrong
abbrev pub Stays : Bool → World → Result declared.Step Refusal → World → Type 0
Stays ok w a v = (a ≡ pick ok (Ok step.Idle) (Err refusal.Area)) × (v ≡ w)

-- `commit_step` is `Step` where a commit is part done
abbrev pub CommitStepBy : Job → List ℕ → World → Result declared.Step Refusal → World → Type 0
CommitStepBy job.Idle g w a v = Stays (step_fine g w) w a v
CommitStepBy (job.Commit h salt page answer) g w a v = (a ≡ step_answer g w) × (v ≡ world_after Step w g)
CommitStepBy (job.Checkpoint salt page answer) g w a v = Stays (step_fine g w) w a v
CommitStepBy (job.MainLength salt answer) g w a v = Stays (step_fine g w) w a v
CommitStepBy (job.LogLength salt answer) g w a v = Stays (step_fine g w) w a v
CommitStepBy (job.LogHeader salt answer) g w a v = Stays (step_fine g w) w a v

unfoldable pub CommitStepIs : Type 0
CommitStepIs = (g : List ℕ) (w : World) → CommitStepBy w.pager.job g w (commit_step_answer g w) (commit_stepped g w)

-- `checkpoint_step` is not lent the staging area: `Step` is it where the staging area has its length, and is refused (1) where not
abbrev pub BehindStaging : World → Result declared.Step Refusal → World → Type 0
BehindStaging w a v = (g : List ℕ) → (step_answer g w ≡ pick (staging_fine g) a (Err refusal.Area)) × (world_after Step w g ≡ pick (staging_fine g) v w)

-- so it is where a checkpoint is part done
abbrev pub CheckpointStepBy : Job → World → Result declared.Step Refusal → World → Type 0
CheckpointStepBy job.Idle w a v = Stays (fine w) w a v
CheckpointStepBy (job.Commit h salt page answer) w a v = Stays (fine w) w a v
CheckpointStepBy (job.Checkpoint salt page answer) w a v = BehindStaging w a v
CheckpointStepBy (job.MainLength salt answer) w a v = BehindStaging w a v
CheckpointStepBy (job.LogLength salt answer) w a v = BehindStaging w a v
CheckpointStepBy (job.LogHeader salt answer) w a v = BehindStaging w a v

unfoldable pub CheckpointStepIs : Type 0
CheckpointStepIs = (w : World) → CheckpointStepBy w.pager.job w (checkpoint_step_answer w) (checkpoint_stepped w)

-- ---- `commit_frames` is `BeginCommit` and then as many `Step`s as pages differ, and one; refused where that is

-- k times `Step`
unfoldable pub stepping : ℕ → List ℕ → World → World
stepping zero g w = w
stepping (suc k) g w = stepping k g (world_after Step w g)

pub record FramesAs (g : List ℕ) (w : World) (h : DbHeader) (salt : ℕ) : Type 0 where
  pub refusal : number_of (commit_refusal g w h) ≡ refused_by (BeginCommit h salt) w g
  pub refused : (refused_by (BeginCommit h salt) w g ≡ 0 → ⊥) → commit_frames_world g w h salt ≡ w
  pub begun : refused_by (BeginCommit h salt) w g ≡ 0 → commit_frames_world g w h salt ≡ stepping (differing g w + 1) g (world_after (BeginCommit h salt) w g)

unfoldable pub CommitFramesIs : Type 0
CommitFramesIs = (g : List ℕ) (w : World) (h : DbHeader) (salt : ℕ) → FramesAs g w h salt

-- ---- calls that are told the job by a number

-- 0 where nothing is part done, another where something is
abbrev pub SaysBusy : ℕ → Pager → Type 0
SaysBusy j p = not (eqb j 0) ≡ busy p

-- ---- `stage_in` is `Stage`

-- s: the staged pages, as they are handed over
pub record StagedAs (j n : ℕ) (bytes g : List ℕ) (s : Staged) (w : World) : Type 0 where
  pub refusal : number_of (stage_refusal (not (eqb j 0)) s g n bytes) ≡ refused_by (Stage n bytes) w g
  pub store : on_store w (with_staged w.pager (staged_after (not (eqb j 0)) s g n bytes)) ≡ world_after (Stage n bytes) w g
  pub staging : staging_bytes (not (eqb j 0)) s g n bytes ≡ calls.staging_after (Stage n bytes) w g

unfoldable pub StageInIs : Type 0
StageInIs = (j n : ℕ) (bytes g : List ℕ) (w : World) → SaysBusy j w.pager → StagedAs j n bytes g (slots w.pager.staged.count w.pager.staged.pages) w

-- ---- `may_read` and `place_page` behind it are `ReadPage`

-- what the two, of a store's own numbers, come to
abbrev pub read_by : ℕ → ℕ → List ℕ → World → Result PageFound Refusal
read_by j n g w =
    read_as (may_read (count_of (header_of w.pager)) j w.pager.wal.len w.pager.storage.len w.table w.log w.main g)
    (place_page (count_of (header_of w.pager)) (slots w.pager.staged.count w.pager.staged.pages) w.table n)

unfoldable pub ReadIs : Type 0
ReadIs =
    (j n : ℕ) (g : List ℕ) (w : World) → SaysBusy j w.pager
    → (read_by j n g w ≡ find_page w g n) × (find_refusal (read_by j n g w) ≡ refused_by (Ask (ReadPage n)) w g)

-- from `read_end` on every `ReadPage` that is not refused finds no page
unfoldable pub ReadEndIs : Type 0
ReadEndIs =
    (n : ℕ) (g : List ℕ) (w : World) → read_end (count_of (header_of w.pager)) w.pager.staged.count ≤ n → n < 4294967296
    → refused_by (Ask (ReadPage n)) w g ≡ 0 → find_page w g n ≡ Ok found.Nothing
