-- A step of a commit that is part done, and a commit up to its commit frame. g is the staging area.
use Rattle.std.specs.Prelude.{Err, Result, List, ℕ, ◌+◌}
use Rattle.le.specs.Choice.{pick}
use Rattle.refusal.specs.Refusal.{accepts}
use Rattle.refusal.specs.declared.Refusal.TheVariants as refusal
use Rattle.refusal.specs.declared.Refusal.{Refusal}
use Rattle.header.specs.declared.DbHeader.{DbHeader}
use Rattle.pager_state.specs.World.{World}
use Rattle.pager_state.specs.Commit.{commit_todo, commit_advance}
use Rattle.pager_state.specs.Steps.{commit_refusal, differing, begin_commit, answer_of, named, done, step_fine, steps, on_store}
use Rattle.pager_state.specs.declared.Step.{Step}

-- refusal 1, then "each next-step call does the next store .. and no other" of a commit; of another job nothing and Idle
unfoldable pub commit_step_answer : List ℕ → World → Result Step Refusal
commit_step_answer g w = pick (step_fine g w) (named (answer_of w.pager.job) (commit_todo g w.pager.job w)) (Err refusal.Area)

unfoldable pub commit_stepped : List ℕ → World → World
commit_stepped g w = pick (step_fine g w) (done (commit_todo g w.pager.job w) (commit_advance g w.pager.job w) w) w

-- a commit up to its commit frame: begun, and as many steps as pages differ, and one; a refusal leaves the world
unfoldable pub commit_frames_world : List ℕ → World → DbHeader → ℕ → World
commit_frames_world g w h salt = pick (accepts (commit_refusal g w h)) (steps g (differing g w + 1) (on_store w (begin_commit g w h salt).pager)) w
