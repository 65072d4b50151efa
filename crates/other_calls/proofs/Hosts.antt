-- The statements of specs/Hosts.antt, proved. Assumes nothing.
use mathlib.Core.Path.{◌≡◌, refl}
use mathlib.Core.Bool.{not}
use lib.Dec.{eqb}
use Rattle.pager_state.specs.World.{world, busy_with}
use Rattle.pager_state.specs.declared.Job.{Job}
use Rattle.pager_state.specs.declared.Job.TheVariants as job
use Rattle.capi_numbers.specs.Numbers.{numbers_of_wal, job_of, store_of}
use Rattle.other_calls.specs.Others.{ReadIs}
use Rattle.other_calls.specs.Hosts.{HostSaysBusy, HostReads, HostStages}
use Rattle.other_calls.proofs.Others.{read_is}

kind-tells : (j : Job) → not (eqb (job_of j).kind 0) ≡ busy_with j
unfolding job_of
kind-tells job.Idle = refl
kind-tells (job.Commit h salt page answer) = refl
kind-tells (job.Checkpoint salt page answer) = refl
kind-tells (job.MainLength salt answer) = refl
kind-tells (job.LogLength salt answer) = refl
kind-tells (job.LogHeader salt answer) = refl

pub host-tells : HostSaysBusy
unfolding HostSaysBusy store_of
host-tells p = kind-tells p.job

pub host-reads : HostReads
unfolding HostReads ReadIs store_of numbers_of_wal
host-reads p t l m g n = (read_is (job_of p.job).kind n g (world p t l m) (kind-tells p.job)).0

pub host-stages : HostStages
unfolding HostStages store_of
host-stages p g bytes n = let e = kind-tells p.job in record { answer = rw e; store = rw e; staging = rw e }
