-- The open store, an open log and what is part done, in numbers, and back.
use Rattle.std.specs.Prelude.{None, Option, Some, ℕ, eqb}
use Rattle.le.specs.Choice.{pick}
use Rattle.header.specs.declared.DbHeader.{DbHeader}
use Rattle.wal.specs.declared.Wal.{Wal}
use Rattle.pager_state.specs.Opening.{no_header}
use Rattle.pager_state.specs.declared.Job.{Job}
use Rattle.pager_state.specs.declared.Job.TheVariants as job
use Rattle.pager_state.specs.declared.Opening.{Opening}
use Rattle.pager_state.specs.declared.Opening.TheVariants as opening
use Rattle.pager_state.specs.declared.Pager.{Pager}
use Rattle.capi_numbers.specs.declared.WalNumbers.{WalNumbers}
use Rattle.capi_numbers.specs.declared.JobNumbers.{JobNumbers}
use Rattle.capi_numbers.specs.declared.Store.{Store}

-- ---- an open log

abbrev pub last_in : ℕ → ℕ → Option ℕ
last_in committed count = pick (eqb committed 0) None (Some count)

unfoldable pub wal_in : WalNumbers → Wal
wal_in w =
    record {
      header = w.header;
      len = w.len;
      good_end = w.good_end;
      last_commit_offset = w.last_commit_offset;
      last_commit_page_count = last_in w.committed w.last_commit_page_count;
      frame_count = w.frame_count;
    }

abbrev pub committed_of : Option ℕ → ℕ
committed_of None = 0
committed_of (Some n) = 1

abbrev pub last_commit_count : Option ℕ → ℕ
last_commit_count None = 0
last_commit_count (Some n) = n

unfoldable pub numbers_of_wal : Wal → WalNumbers
numbers_of_wal w =
    record {
      header = w.header;
      len = w.len;
      good_end = w.good_end;
      last_commit_offset = w.last_commit_offset;
      frame_count = w.frame_count;
      committed = committed_of w.last_commit_page_count;
      last_commit_page_count = last_commit_count w.last_commit_page_count;
    }

-- ---- what is part done

-- a kind that there is not is none
abbrev pub job_by : ℕ → DbHeader → ℕ → ℕ → ℕ → Job
job_by kind h salt page answer =
    pick (eqb kind 1) (job.Commit h salt page answer)
    (pick (eqb kind 2) (job.Checkpoint salt page answer)
    (pick (eqb kind 3) (job.MainLength salt answer)
    (pick (eqb kind 4) (job.LogLength salt answer)
    (pick (eqb kind 5) (job.LogHeader salt answer) job.Idle))))

unfoldable pub job_in : JobNumbers → Job
job_in j = job_by j.kind j.header j.salt j.page j.answer

abbrev pub plain_job : ℕ → ℕ → ℕ → ℕ → JobNumbers
plain_job kind salt page answer = record { kind = kind; salt = salt; page = page; answer = answer; header = no_header }

unfoldable pub job_of : Job → JobNumbers
job_of job.Idle = plain_job 0 0 0 0
job_of (job.Commit h salt page answer) = record { kind = 1; salt = salt; page = page; answer = answer; header = h }
job_of (job.Checkpoint salt page answer) = plain_job 2 salt page answer
job_of (job.MainLength salt answer) = plain_job 3 salt 0 answer
job_of (job.LogLength salt answer) = plain_job 4 salt 0 answer
job_of (job.LogHeader salt answer) = plain_job 5 salt 0 answer

-- ---- how the store came to be open

-- a kind that there is not writes nothing
abbrev pub opening_in : ℕ → Opening
opening_in n = pick (eqb n 0) opening.Clean (pick (eqb n 1) opening.Plain (pick (eqb n 2) opening.ReadOnly opening.NoLog))

abbrev pub opening_number : Opening → ℕ
opening_number opening.Clean = 0
opening_number opening.Plain = 1
opening_number opening.ReadOnly = 2
opening_number opening.NoLog = 3

-- ---- the store

unfoldable pub pager_in : Store → Pager
pager_in s =
    record {
      current_header = s.current_header;
      wal = wal_in s.wal;
      recovered = s.recovered;
      storage = s.storage;
      staged = s.staged;
      job = job_in s.job;
      opening = opening_in s.opening;
    }

unfoldable pub store_of : Pager → Store
store_of p =
    record {
      current_header = p.current_header;
      wal = numbers_of_wal p.wal;
      recovered = p.recovered;
      storage = p.storage;
      staged = p.staged;
      job = job_of p.job;
      opening = opening_number p.opening;
    }
