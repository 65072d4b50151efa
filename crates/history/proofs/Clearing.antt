-- Dropping what is staged. Assumes nothing.
use mathlib.Core.Path.{◌≡◌, refl, sym, subst}
use mathlib.Core.List.{List, []}
use Prim.Native.Nat.{ℕ}
use Rattle.std.specs.Prelude.{None}
use Rattle.refusal.proofs.Rows.{accepted}
use Rattle.pager_state.specs.World.{World, busy_refusal, with_staged, none_staged}
use Rattle.pager_state.specs.Staging.{clear_staged}
use Rattle.pager_state.specs.Stores.{disk_of}
use Rattle.pager_state.specs.Steps.{on_store}
use Rattle.pager_state.specs.declared.Job.TheVariants as job
use Rattle.pager_state.specs.declared.Pager.{Pager}
use Rattle.history.specs.Model.{Model, model_clear, model_stores}
use Rattle.history.specs.Calls.{Clear, refused_by, stores_of, world_after}
use Rattle.history.specs.Run.{kept_after}
use Rattle.history.proofs.Opening.{re-model}
use Rattle.history.proofs.Rest.{Resting, ForSome, Inv, held-disk}
use Rattle.history.proofs.CommitLast.{none-slots, none-staged}
use Rattle.history.proofs.Running.{cut-none}
use Rattle.history.proofs.Taken.{Taken, rests-by, at_rest, rest-inv}

-- ---- dropping what is staged

module _ (w : World) (g : List ℕ) (b : Model) (z : List ℕ) (i : Inv w g b z) (ok : refused_by Clear w g ≡ 0) where
  taken : busy_refusal w.pager ≡ None
  unfolding refused_by
  taken = accepted _ ok

  idle : w.pager.job ≡ job.Idle
  idle = rests-by w.pager taken

  k : ForSome (Resting w g b) z
  k = at_rest w g b z i idle

  abbrev v : World
  v = on_store w (with_staged w.pager (none_staged w.pager.staged))

  pager-is : (clear_staged w.pager).pager ≡ with_staged w.pager (none_staged w.pager.staged)
  unfolding clear_staged
  pager-is = rw taken

  resting : Resting v g (model_clear b) k.l k.S k.P k.mh
  resting =
      let q = k.it.held in
      record {
        held =
            record {
              on = re-model q.on (model_clear b) refl refl refl q.on.model.times;
              table_long = q.table_long;
              staging_long = q.staging_long;
              salt = q.salt;
              older = q.older;
              clock = q.clock;
              header = q.header;
              clean = q.clean;
              slots = none-slots w.pager.staged q.slots;
              staged = λ m. rw (none-staged w.pager.staged m);
              waiting = q.waiting;
            };
        table = k.it.table;
        loose = k.it.loose;
      }

  pub clear-ok : Taken Clear w g b z
  unfolding stores_of world_after model_stores kept_after
  clear-ok =
      record {
        after = subst (λ (p : Pager). Inv (on_store w p) g (model_clear b) z) (sym pager-is)
            (rest-inv v g (model_clear b) z idle (record { l = k.l; S = k.S; P = k.P; mh = k.mh; it = resting; kept = k.kept }));
        cut = cut-none [] (disk_of w) (model_clear b) z (held-disk resting.held k.kept);
      }
