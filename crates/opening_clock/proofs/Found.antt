-- The clock of an opened store, by how it was opened, and in any history. Assumes nothing.
use mathlib.Core.Path.{◌≡◌, refl, ◌∙◌}
use mathlib.Core.List.{List, [], ◌∷◌, map}
use Prim.Native.Nat.{ℕ, ◌≤◌}
use native.Mathlib.Omega.{arith}
use Rattle.mvcc.specs.Batch.{Each}
use Rattle.wal.specs.Recovery.{recovered, wal_of}
use Rattle.wal.specs.Write.{empty_wal, created_header, with_clock}
use Rattle.pager_state.specs.Stores.{Disk, content}
use Rattle.pager_state.specs.Opening.{How, kept_of, greatest, clock_taken, found_in, found_fresh, found_by, open_pager}
use Rattle.pager_state.specs.Opened.{Opened}
use Rattle.pager_state.specs.Queries.{clock_of, log_clock, clock_high_water_of}
use Rattle.pager_state.specs.declared.Job.TheVariants as job
use Rattle.pager_state.specs.declared.Pager.{Pager}
use Rattle.pager_state.proofs.Opened.{open-idle, open-clock}
use Rattle.history.specs.Model.{Batch, batch_in}
use Rattle.history.specs.Run.{Run}
use Rattle.history.specs.Demand3.{walked}
use Rattle.history.proofs.Reopening.{walked-walk}
use Rattle.history.proofs.GuardFound.{Found}
use Rattle.opening_clock.specs.OpeningClock.{Tells, ByOpening, NoOlder}

-- a store at rest tells its clock
pub at-rest-tells : (p : Pager) {c : ℕ} → p.job ≡ job.Idle → clock_of p ≡ c → Tells p c
unfolding clock_high_water_of
at-rest-tells p i e = rw (i, e)

-- ---- any files

module _ (how : How) (t : List ℕ) (d : Disk) (g : List ℕ) (p : Pager) (e : open_pager how t d g ≡ Opened p) where
  tells : {c : ℕ} → (found_by how d.log).log.header.clock_high_water ≡ c → Tells p c
  tells k = at-rest-tells p (open-idle how t d g p e) (open-clock how t d g p e ∙ k)

  header-there : (recovered (content d.log)).header.clock_high_water ≡ log_clock d
  unfolding recovered
  header-there = refl

  pub opening : ByOpening how d p
  unfolding found_by found_in found_fresh kept_of clock_taken wal_of with_clock empty_wal created_header
  opening =
      record {
        clean = λ x c. tells (rw (x, c, header-there));
        plain = λ x c. tells (rw (x, c, header-there));
        fresh = λ x. tells (rw x);
      }

-- ---- histories

-- no time is above the greatest
below-greatest : (n : ℕ) (bs : List Batch) → greatest (map (λ (b : Batch). b.time) bs) ≤ n → Each (λ (b : Batch). b.time ≤ n) bs
unfolding greatest Each
below-greatest n [] h = tt
below-greatest n (b ∷ bs) h = (omega (arith, h), below-greatest n bs (omega (arith, h)))

pub no-older : (r : Run) → Found r.world → NoOlder r
no-older r f =
    let w = r.world in
    record {
      clock = clock_of w.pager;
      told = at-rest-tells w.pager f.rests refl;
      header = omega (arith, f.clock);
      batches = rw (f.told batch_in (λ k i. walked k w i) (walked-walk w)) (below-greatest (clock_of w.pager) _ (omega (arith, f.clock)));
    }
