-- A step of a commit or of a checkpoint is the step; what the loop over steps keeps.
use mathlib.Core.Path.{◌≡◌, refl, sym}
use mathlib.Core.Bool.{Bool, true, false}
use mathlib.Core.List.{List, [], append-nil}
use Prim.Native.Nat.{ℕ, suc, ◌+◌, ◌-◌, ◌<◌}
use native.Mathlib.Omega.{arith}
use Rattle.std.specs.Prelude.{Err}
use Rattle.le.specs.Choice.{both}
use Rattle.le.proofs.Compare.{no_test}
use Rattle.refusal.specs.declared.Refusal.TheVariants as refusal
use Rattle.pager_state.specs.World.{World, fine, staging_fine, busy_with}
use Rattle.pager_state.specs.Checkpoint.{checkpoint_todo, checkpoint_advance}
use Rattle.pager_state.specs.Commit.{commit_todo, commit_advance}
use Rattle.pager_state.specs.Steps.{step_fine, todo, advance, step_answer, stepped, steps, most_steps}
use Rattle.pager_state.specs.declared.Job.{Job}
use Rattle.pager_state.specs.declared.Job.TheVariants as job
use Rattle.pager_state.proofs.Begun.{not-busy}
use Rattle.pager_state.proofs.Runs.{idle-stays}
use Rattle.pager_checkpoint.specs.CheckpointStep.{checkpoint_step_answer, checkpoint_stepped}
use Rattle.pager_commit.specs.CommitStep.{commit_step_answer, commit_stepped}
use Rattle.pager_commit.proofs.Step.{NoCommit}
use Rattle.pager.specs.Jobs.{is_commit_job}

-- ---- which of the two

-- the kinds but Commit
pub no-commit : (j : Job) → NoCommit j → false ≡ is_commit_job j
no-commit job.Idle k = refl
no-commit (job.Commit h salt page answer) k = absurd (k h salt page answer refl)
no-commit (job.Checkpoint salt page answer) k = refl
no-commit (job.MainLength salt answer) k = refl
no-commit (job.LogLength salt answer) k = refl
no-commit (job.LogHeader salt answer) k = refl

-- ---- which stores are left

module _ (g : List ℕ) (w : World) where
  checkpoint-none : (j : Job) → is_commit_job j ≡ true → checkpoint_todo j w ≡ []
  unfolding checkpoint_todo
  checkpoint-none job.Idle e = no_test e
  checkpoint-none (job.Commit h salt page answer) e = refl
  checkpoint-none (job.Checkpoint salt page answer) e = no_test e
  checkpoint-none (job.MainLength salt answer) e = no_test e
  checkpoint-none (job.LogLength salt answer) e = no_test e
  checkpoint-none (job.LogHeader salt answer) e = no_test e

  checkpoint-still : (j : Job) (v : World) → is_commit_job j ≡ true → checkpoint_advance j v ≡ v
  unfolding checkpoint_advance
  checkpoint-still job.Idle v e = no_test e
  checkpoint-still (job.Commit h salt page answer) v e = refl
  checkpoint-still (job.Checkpoint salt page answer) v e = no_test e
  checkpoint-still (job.MainLength salt answer) v e = no_test e
  checkpoint-still (job.LogLength salt answer) v e = no_test e
  checkpoint-still (job.LogHeader salt answer) v e = no_test e

  commit-none : (j : Job) → is_commit_job j ≡ false → (commit_todo g j w ≡ []) × (commit_advance g j w ≡ w)
  unfolding commit_todo commit_advance
  commit-none job.Idle e = (refl, refl)
  commit-none (job.Commit h salt page answer) e = no_test (sym e)
  commit-none (job.Checkpoint salt page answer) e = (refl, refl)
  commit-none (job.MainLength salt answer) e = (refl, refl)
  commit-none (job.LogLength salt answer) e = (refl, refl)
  commit-none (job.LogHeader salt answer) e = (refl, refl)

  pub by-commit : is_commit_job w.pager.job ≡ true → (commit_step_answer g w ≡ step_answer g w) × (commit_stepped g w ≡ stepped g w)
  unfolding commit_step_answer commit_stepped step_answer stepped todo advance
  by-commit e =
      let n = checkpoint-none w.pager.job e in
      let s = checkpoint-still w.pager.job (commit_advance g w.pager.job w) e in
      (rw (n, append-nil), rw (n, append-nil, s))

  pub by-checkpoint : step_fine g w ≡ true → is_commit_job w.pager.job ≡ false → (checkpoint_step_answer w ≡ step_answer g w) × (checkpoint_stepped w ≡ stepped g w)
  unfolding checkpoint_step_answer checkpoint_stepped step_answer stepped todo advance
  by-checkpoint f e =
      let n = commit-none w.pager.job e in
      let b = both_first (fine w) (staging_fine g) f in
      (rw (f, b, n.0), rw (f, b, n.0, n.1))
    where
      both_first : (a b : Bool) → both a b ≡ true → a ≡ true
      both_first true b e = refl
      both_first false b e = no_test e

  pub no-step : step_fine g w ≡ false → (Err refusal.Area ≡ step_answer g w) × (w ≡ stepped g w)
  unfolding step_answer stepped
  no-step f = (rw f, rw f)

-- ---- the loop

-- one step of those that are left
pub one_more : (g : List ℕ) (k : ℕ) (w v : World) → k < most_steps → v ≡ stepped g w → steps g (most_steps - k) w ≡ steps g (most_steps - (k + 1)) v
unfolding steps
one_more g k w v h e =
    let n : most_steps - k ≡ suc (most_steps - (k + 1)) = omega arith in
    rw (n, e)

-- nothing is part done
pub at_rest : (g : List ℕ) (k : ℕ) (w : World) → busy_with w.pager.job ≡ false → w ≡ steps g k w
at_rest g k w e = sym (idle-stays g k w (not-busy w.pager.job e))
