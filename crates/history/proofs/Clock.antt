-- Raising the clock. Assumes nothing.
use mathlib.Core.Path.{◌≡◌, refl, sym, ap, ◌∙◌, subst}
use mathlib.Core.Bool.{Bool, true, false}
use mathlib.Core.List.{List, []}
use Prim.Native.Nat.{ℕ, ◌^◌, ◌≤◌, ◌<◌}
use native.Mathlib.Omega.{arith}
use borrow.Author.Tests.{leb-false}
use lib.Dec.{leb}
use Rattle.std.specs.Prelude.{None}
use Rattle.le.specs.Choice.{pick}
use Rattle.refusal.proofs.Rows.{accepted}
use Rattle.wal.specs.Write.{with_clock}
use Rattle.wal.specs.declared.Wal.{Wal}
use Rattle.pager_state.specs.World.{World, busy_refusal, with_wal}
use Rattle.pager_state.specs.Queries.{raised, observed_by, observe_clock}
use Rattle.pager_state.specs.Stores.{disk_of}
use Rattle.pager_state.specs.Steps.{on_store}
use Rattle.pager_state.specs.declared.Job.TheVariants as job
use Rattle.pager_state.specs.declared.Opening.{Opening}
use Rattle.pager_state.specs.declared.Pager.{Pager}
use Rattle.history.specs.Model.{Model, model_stores}
use Rattle.history.specs.Calls.{Observe, refused_by, stores_of, world_after}
use Rattle.history.specs.Run.{kept_after}
use Rattle.history.proofs.Rest.{Resting, ForSome, Inv, held-disk}
use Rattle.history.proofs.Running.{cut-none}
use Rattle.history.proofs.Taken.{Taken, rests-by, at_rest, rest-inv}

-- ---- the clock

pub record Raised (v u : Wal) : Type 0 where
  pub len : u.len ≡ v.len
  pub salt : u.header.salt ≡ v.header.salt
  pub older : v.header.clock_high_water ≤ u.header.clock_high_water
  pub clock : u.header.clock_high_water < 2 ^ 64

raised_by : (v : Wal) (c : ℕ) → v.header.clock_high_water < 2 ^ 64 → c < 2 ^ 64 → (t : Bool) → leb c v.header.clock_high_water ≡ t
    → Raised v (pick t v (with_clock v c))
unfolding with_clock
raised_by v c h k true e = record { len = refl; salt = refl; older = omega arith; clock = h }
raised_by v c h k false e = record { len = refl; salt = refl; older = omega (arith, leb-false c v.header.clock_high_water e); clock = k }

module _ (w : World) (g : List ℕ) (b : Model) (z : List ℕ) (i : Inv w g b z) (c : ℕ) (small : c < 2 ^ 64) (ok : refused_by (Observe c) w g ≡ 0) where
  taken : busy_refusal w.pager ≡ None
  unfolding refused_by
  taken = accepted _ ok

  idle : w.pager.job ≡ job.Idle
  idle = rests-by w.pager taken

  k : ForSome (Resting w g b) z
  k = at_rest w g b z i idle

  abbrev pub u : Wal
  u = raised w.pager.wal c

  raised-ok : Raised w.pager.wal u
  unfolding raised
  raised-ok = raised_by w.pager.wal c k.it.held.clock small (leb c w.pager.wal.header.clock_high_water) refl

  abbrev pub v : World
  v = on_store w (with_wal w.pager u)

  pub pager-is : (observe_clock w.pager c).pager ≡ with_wal w.pager u
  unfolding observe_clock
  pager-is = rw taken (ap (λ (o : Opening). with_wal w.pager (observed_by o w.pager.wal c)) k.it.held.clean)

  pub disk-is : disk_of v ≡ disk_of w
  disk-is = λ j. record { main = (disk_of w).main; log = record { area = w.log; len = raised-ok.len j } }

  resting : Resting v g b k.l k.S k.P k.mh
  resting =
      let q = k.it.held in
      record {
        held =
            record {
              on = rw disk-is q.on;
              table_long = q.table_long;
              staging_long = q.staging_long;
              salt = raised-ok.salt ∙ q.salt;
              older = omega (arith, q.older, raised-ok.older);
              clock = raised-ok.clock;
              header = q.header;
              clean = q.clean;
              slots = q.slots;
              staged = q.staged;
              waiting = q.waiting;
            };
        table = k.it.table;
        loose = k.it.loose;
      }

  pub observe-ok : Taken (Observe c) w g b z
  unfolding stores_of world_after model_stores kept_after
  observe-ok =
      record {
        after = subst (λ (p : Pager). Inv (on_store w p) g b z) (sym pager-is)
            (rest-inv v g b z idle (record { l = k.l; S = k.S; P = k.P; mh = k.mh; it = resting; kept = k.kept }));
        cut = cut-none [] (disk_of w) b z (held-disk k.it.held k.kept);
      }
