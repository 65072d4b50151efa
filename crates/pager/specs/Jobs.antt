-- What private functions go by: which of the two kinds of step is next.
use Rattle.std.specs.Prelude.{Bool, true, false}
use Rattle.pager_state.specs.declared.Job.{Job}
use Rattle.pager_state.specs.declared.Job.TheVariants as job

abbrev pub is_commit_job : Job → Bool
is_commit_job job.Idle = false
is_commit_job (job.Commit h salt page answer) = true
is_commit_job (job.Checkpoint salt page answer) = false
is_commit_job (job.MainLength salt answer) = false
is_commit_job (job.LogLength salt answer) = false
is_commit_job (job.LogHeader salt answer) = false
