-- Nothing is lost: a log or store handed over in numbers and back is the same one.
use mathlib.Core.Path.{◌≡◌, refl, ap}
use Rattle.std.specs.Prelude.{ℕ, None, Option, Some}
use Rattle.wal.specs.declared.Wal.{Wal}
use Rattle.pager_state.specs.declared.Job.{Job}
use Rattle.pager_state.specs.declared.Job.TheVariants as job
use Rattle.pager_state.specs.declared.Opening.{Opening}
use Rattle.pager_state.specs.declared.Opening.TheVariants as opening
use Rattle.pager_state.specs.declared.Pager.{Pager}
use Rattle.capi_numbers.specs.Numbers.{last_in, committed_of, last_commit_count, wal_in, numbers_of_wal, job_in, job_of, opening_in, opening_number, pager_in, store_of}

last-back : (c : Option ℕ) → last_in (committed_of c) (last_commit_count c) ≡ c
last-back None = refl
last-back (Some n) = refl

pub wal-back : (w : Wal) → wal_in (numbers_of_wal w) ≡ w
unfolding wal_in numbers_of_wal
wal-back w = rw (last-back w.last_commit_page_count)

pub job-back : (j : Job) → job_in (job_of j) ≡ j
unfolding job_in job_of
job-back job.Idle = refl
job-back (job.Commit h salt page answer) = refl
job-back (job.Checkpoint salt page answer) = refl
job-back (job.MainLength salt answer) = refl
job-back (job.LogLength salt answer) = refl
job-back (job.LogHeader salt answer) = refl

pub opening-back : (o : Opening) → opening_in (opening_number o) ≡ o
opening-back opening.Clean = refl
opening-back opening.Plain = refl
opening-back opening.ReadOnly = refl
opening-back opening.NoLog = refl

pub store-back : (p : Pager) → pager_in (store_of p) ≡ p
unfolding pager_in store_of
store-back p = rw (wal-back p.wal, job-back p.job, opening-back p.opening)

-- so a call that gives back the store as it took it gives back the numbers that the call before it gave
pub store_kept : (p : Pager) → store_of (pager_in (store_of p)) ≡ store_of p
store_kept p = ap store_of (store-back p)
