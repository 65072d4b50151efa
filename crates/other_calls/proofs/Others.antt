-- The statements of specs/Others.antt, proved. Assumes nothing.
use mathlib.Core.Path.{◌≡◌, refl, sym, ap, ◌∙◌}
use mathlib.Core.Bool.{Bool, true, false}
use mathlib.Core.List.{List, []}
use Prim.Native.Nat.{ℕ, zero, suc, ◌+◌}
use Rattle.std.specs.Prelude.{Ok, Err}
use Rattle.le.specs.Choice.{pick}
use Rattle.refusal.specs.declared.Refusal.TheVariants as refusal
use Rattle.refusal.proofs.Rows.{accepted}
use Rattle.pager_state.specs.World.{World, count_of, header_of, staging_fine, fine}
use Rattle.pager_state.specs.Overlay.{read_refusal, find_page, find_refusal}
use Rattle.pager_state.specs.Checkpoint.{checkpoint_todo, checkpoint_advance}
use Rattle.pager_state.specs.Commit.{commit_todo, commit_advance}
use Rattle.pager_state.specs.Steps.{differing, commit_refusal, begin_commit, answer_of, named, done, step_fine, step_answer, stepped, steps, on_store}
use Rattle.pager_state.specs.Stores.{Act}
use Rattle.pager_state.specs.declared.Job.{Job}
use Rattle.pager_state.specs.declared.Job.TheVariants as job
use Rattle.pager_state.specs.declared.Pager.{Pager}
use Rattle.pager_checkpoint.specs.CheckpointStep.{checkpoint_step_answer, checkpoint_stepped}
use Rattle.pager_commit.specs.CommitStep.{commit_step_answer, commit_stepped, commit_frames_world}
use Rattle.pager.specs.Jobs.{is_commit_job}
use Rattle.pager.proofs.Steps.{by-commit, by-checkpoint, no-step}
use Rattle.pager_read.proofs.Place.{place-find, none-behind}
use Rattle.history.specs.Calls.{refused_by, world_after}
use Rattle.history.proofs.Rest.{find-number}
use Rattle.history.proofs.Refused.{unaccepted}
use Rattle.other_calls.specs.Others.{Stays, CommitStepBy, CommitStepIs, BehindStaging, CheckpointStepBy, CheckpointStepIs, stepping, CommitFramesIs, StageInIs, read_by, ReadIs, ReadEndIs}

-- ---- steps

-- no store is left to do
none_done : (ok : Bool) (answer : ℕ) (acts : List Act) (v w : World) → acts ≡ [] → Stays ok w (pick ok (named answer acts) (Err refusal.Area)) (pick ok (done acts v w) w)
unfolding named done
none_done true answer acts v w e = rw e (refl, refl)
none_done false answer acts v w e = (refl, refl)

module _ (w : World) where
  commit-stays : (g : List ℕ) → commit_todo g w.pager.job w ≡ [] → Stays (step_fine g w) w (commit_step_answer g w) (commit_stepped g w)
  unfolding commit_step_answer commit_stepped
  commit-stays g e = none_done (step_fine g w) (answer_of w.pager.job) (commit_todo g w.pager.job w) (commit_advance g w.pager.job w) w e

  commit-by : (g : List ℕ) (j : Job) → w.pager.job ≡ j → CommitStepBy j g w (commit_step_answer g w) (commit_stepped g w)
  unfolding commit_todo world_after
  commit-by g job.Idle e = commit-stays g (rw e)
  commit-by g (job.Commit h salt page answer) e = by-commit g w (ap is_commit_job e)
  commit-by g (job.Checkpoint salt page answer) e = commit-stays g (rw e)
  commit-by g (job.MainLength salt answer) e = commit-stays g (rw e)
  commit-by g (job.LogLength salt answer) e = commit-stays g (rw e)
  commit-by g (job.LogHeader salt answer) e = commit-stays g (rw e)

  checkpoint-stays : checkpoint_todo w.pager.job w ≡ [] → Stays (fine w) w (checkpoint_step_answer w) (checkpoint_stepped w)
  unfolding checkpoint_step_answer checkpoint_stepped
  checkpoint-stays e = none_done (fine w) (answer_of w.pager.job) (checkpoint_todo w.pager.job w) (checkpoint_advance w.pager.job w) w e

  -- refused for the areas, by `Step` too
  checkpoint-refused : fine w ≡ false → (checkpoint_step_answer w ≡ Err refusal.Area) × (checkpoint_stepped w ≡ w)
  unfolding checkpoint_step_answer checkpoint_stepped
  checkpoint-refused e = (rw e, rw e)

  behind : is_commit_job w.pager.job ≡ false → BehindStaging w (checkpoint_step_answer w) (checkpoint_stepped w)
  unfolding world_after
  behind e g = go (fine w) (staging_fine g) refl refl
    where
      go : (a b : Bool) → fine w ≡ a → staging_fine g ≡ b
          → (step_answer g w ≡ pick (staging_fine g) (checkpoint_step_answer w) (Err refusal.Area)) × (stepped g w ≡ pick (staging_fine g) (checkpoint_stepped w) w)
      go true true p q = let x = by-checkpoint g w (rw (p, q)) e in (rw q (sym x.0), rw q (sym x.1))
      go true false p q = let x = no-step g w (rw (p, q)) in (rw q (sym x.0), rw q (sym x.1))
      go false true p q = let x = no-step g w (rw p) in (rw q (sym x.0 ∙ sym (checkpoint-refused p).0), rw q (sym x.1 ∙ sym (checkpoint-refused p).1))
      go false false p q = let x = no-step g w (rw p) in (rw q (sym x.0), rw q (sym x.1))

  checkpoint-goes-by : (j : Job) → w.pager.job ≡ j → CheckpointStepBy j w (checkpoint_step_answer w) (checkpoint_stepped w)
  unfolding checkpoint_todo
  checkpoint-goes-by job.Idle e = checkpoint-stays (rw e)
  checkpoint-goes-by (job.Commit h salt page answer) e = checkpoint-stays (rw e)
  checkpoint-goes-by (job.Checkpoint salt page answer) e = behind (ap is_commit_job e)
  checkpoint-goes-by (job.MainLength salt answer) e = behind (ap is_commit_job e)
  checkpoint-goes-by (job.LogLength salt answer) e = behind (ap is_commit_job e)
  checkpoint-goes-by (job.LogHeader salt answer) e = behind (ap is_commit_job e)

pub commit-step-is : CommitStepIs
unfolding CommitStepIs
commit-step-is g w = commit-by w g w.pager.job refl

pub checkpoint-step-is : CheckpointStepIs
unfolding CheckpointStepIs
checkpoint-step-is w = checkpoint-goes-by w w.pager.job refl

-- ---- a commit up to its commit frame

steps-are : (k : ℕ) (g : List ℕ) (w : World) → steps g k w ≡ stepping k g w
unfolding steps stepping world_after
steps-are zero g w = refl
steps-are (suc k) g w = steps-are k g (stepped g w)

pub commit-frames-is : CommitFramesIs
unfolding CommitFramesIs refused_by world_after commit_frames_world
commit-frames-is g w h salt =
    record {
      refusal = refl;
      refused = λ n. rw (unaccepted (commit_refusal g w h) n);
      begun = λ e. rw (accepted (commit_refusal g w h) e) (steps-are (differing g w + 1) g (on_store w (begin_commit g w h salt).pager));
    }

-- ---- the job by a number

pub stage-in-is : StageInIs
unfolding StageInIs refused_by world_after
stage-in-is j n bytes g w t = record { refusal = rw t; store = rw t; staging = rw t }

pub read_is : ReadIs
unfolding ReadIs refused_by
read_is j n g w t =
    let x : read_by j n g w ≡ find_page w g n = sym (place-find w.pager w.table w.log w.main g n j t) in
    (x, ap find_refusal x ∙ find-number w g n)

-- ---- where reading ends

pub read-end-is : ReadEndIs
unfolding ReadEndIs refused_by find_page
read-end-is n g w h small e =
    let p : Pager = w.pager in
    rw (accepted (read_refusal w g) e) (ap Ok (none-behind (count_of (header_of p)) n p.staged.count p.staged.pages w.table h small))
