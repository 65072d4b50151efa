-- A checkpoint, begun or in one call. Assumes nothing.
use mathlib.Core.Path.{◌≡◌, refl, sym, ap, ◌∙◌, subst}
use mathlib.Core.Bool.{Bool, true, false, not}
use mathlib.Core.List.{List, []}
use Prim.Native.Nat.{ℕ, ◌^◌, ◌<◌}
use native.Mathlib.Omega.{arith}
use Rattle.std.specs.Prelude.{None}
use Rattle.refusal.specs.declared.Refusal.TheVariants as refusal
use Rattle.refusal.proofs.Judged.{met}
use Rattle.pager_state.specs.World.{World, busy, with_job}
use Rattle.pager_state.specs.Stores.{disk_of}
use Rattle.pager_state.specs.Checkpoint.{checkpoint_todo}
use Rattle.pager_state.specs.Commit.{commit_todo}
use Rattle.pager_state.specs.Steps.{nothing_to_checkpoint, checkpoint_refusal, checkpoint_count, begin_checkpoint, todo, step_fine, steps, most_steps, on_store, checkpoint_world}
use Rattle.pager_state.specs.declared.Job.TheVariants as job
use Rattle.pager_state.specs.declared.Pager.{Pager}
use Rattle.pager_state.proofs.Begun.{off, not-busy, begun-checkpoint, begins}
use Rattle.pager_state.proofs.Next.{todo-by}
use Rattle.pager_state.proofs.Done.{todo-length}
use Rattle.history.specs.Model.{Model, model_stores}
use Rattle.history.specs.Calls.{Checkpoint, BeginCheckpoint, stores_of, world_after}
use Rattle.history.specs.Run.{kept_after}
use Rattle.history.proofs.Disk.{DiskOk}
use Rattle.history.proofs.Rest.{Resting, Checkpointing, ForSome, Inv, held-disk}
use Rattle.history.proofs.Running.{cut-none, RunOk, run_ok}
use Rattle.history.proofs.Taken.{Taken, taken-by, at_rest}

-- ---- a checkpoint

module _ (w : World) (g : List ℕ) (b : Model) (z : List ℕ) (i : Inv w g b z) (salt : ℕ) (small : salt < 2 ^ 32)
    (taken : checkpoint_refusal g w ≡ None) where
  pub idle : w.pager.job ≡ job.Idle
  unfolding checkpoint_refusal
  idle =
      let a = met (step_fine g w) refusal.Area _ taken in
      let c = met (not (busy w.pager)) refusal.Busy _ a.1 in
      not-busy w.pager.job (off _ c.0)

  k : ForSome (Resting w g b) z
  k = at_rest w g b z i idle

  abbrev v : World
  v = on_store w (with_job w.pager (job.Checkpoint salt 0 (checkpoint_count w)))

  checkpointing-ok : Checkpointing salt 0 v g b k.l k.S k.P k.mh
  checkpointing-ok =
      let q = k.it.held in
      record {
        held =
            record {
              on = q.on;
              table_long = q.table_long;
              staging_long = q.staging_long;
              salt = q.salt;
              older = q.older;
              clock = q.clock;
              header = q.header;
              clean = q.clean;
              slots = q.slots;
              staged = q.staged;
              waiting = q.waiting;
            };
        table = k.it.table;
        loose = k.it.loose;
        fits = small;
        stored = λ n x h1 h2 hc e. absurd (omega arith);
      }

  begun : Inv v g b z
  begun = record { l = k.l; S = k.S; P = k.P; mh = k.mh; it = checkpointing-ok; kept = k.kept }

  run : RunOk g most_steps v b z (todo g v) (disk_of w)
  run = run_ok g most_steps v b z (todo g v) (disk_of w) refl refl (todo-length g v) begun

  disk-now : DiskOk (disk_of w) b z
  disk-now = held-disk k.it.held k.kept

  no_stores : todo g w ≡ []
  unfolding commit_todo checkpoint_todo
  no_stores = todo-by g w job.Idle idle

  -- with something to checkpoint, and with nothing
  pager-is : nothing_to_checkpoint w ≡ false → (begin_checkpoint g w salt).pager ≡ with_job w.pager (job.Checkpoint salt 0 (checkpoint_count w))
  pager-is e = begun-checkpoint g w (begins g w taken e) salt

  pager-stays : nothing_to_checkpoint w ≡ true → (begin_checkpoint g w salt).pager ≡ w.pager
  unfolding begin_checkpoint
  pager-stays e = rw (taken, e)

  begin-by : (t : Bool) → nothing_to_checkpoint w ≡ t → Taken (BeginCheckpoint salt) w g b z
  unfolding stores_of world_after model_stores kept_after
  begin-by true e =
      record { after = subst (λ (p : Pager). Inv (on_store w p) g b z) (sym (pager-stays e)) i; cut = cut-none [] (disk_of w) b z disk-now }
  begin-by false e =
      record { after = subst (λ (p : Pager). Inv (on_store w p) g b z) (sym (pager-is e)) begun; cut = cut-none [] (disk_of w) b z disk-now }

  pub begin-checkpoint-ok : Taken (BeginCheckpoint salt) w g b z
  begin-checkpoint-ok = begin-by (nothing_to_checkpoint w) refl

  stores-is : nothing_to_checkpoint w ≡ false → stores_of (Checkpoint salt) w g ≡ todo g v
  unfolding stores_of
  stores-is e = ap (λ (p : Pager). todo g (on_store w p)) (pager-is e)

  stores-none : nothing_to_checkpoint w ≡ true → stores_of (Checkpoint salt) w g ≡ []
  unfolding stores_of
  stores-none e = ap (λ (p : Pager). todo g (on_store w p)) (pager-stays e) ∙ no_stores

  world_is : nothing_to_checkpoint w ≡ false → world_after (Checkpoint salt) w g ≡ steps g most_steps v
  unfolding world_after checkpoint_world
  world_is e = rw (taken, e) (ap (λ (p : Pager). steps g most_steps (on_store w p)) (pager-is e))

  world-stays : nothing_to_checkpoint w ≡ true → world_after (Checkpoint salt) w g ≡ w
  unfolding world_after checkpoint_world
  world-stays e = rw (taken, e)

  checkpoint-by : (t : Bool) → nothing_to_checkpoint w ≡ t → Taken (Checkpoint salt) w g b z
  unfolding model_stores kept_after
  checkpoint-by true e = taken-by (Checkpoint salt) w g b z (world-stays e) (stores-none e) i (cut-none [] (disk_of w) b z disk-now)
  checkpoint-by false e = taken-by (Checkpoint salt) w g b z (world_is e) (stores-is e) run.after run.cut

  pub checkpoint-ok : Taken (Checkpoint salt) w g b z
  checkpoint-ok = checkpoint-by (nothing_to_checkpoint w) refl
