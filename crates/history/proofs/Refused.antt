-- A refused call leaves store, areas and staging: where the run keeps what was, so do the calls' own definitions. Assumes nothing.
use mathlib.Core.Path.{◌≡◌, refl}
use mathlib.Core.Bool.{Bool, true, false}
use mathlib.Core.List.{List, [], ◌∷◌}
use Prim.Native.Nat.{ℕ}
use borrow.Author.Tests.{ne_eqb}
use Rattle.std.specs.Prelude.{Option, None, Some, Err}
use Rattle.le.specs.Choice.{pick}
use Rattle.refusal.specs.Refusal.{accepts, number_of}
use Rattle.refusal.specs.declared.Refusal.{Refusal}
use Rattle.refusal.specs.declared.Refusal.TheVariants as refusal
use Rattle.pager_state.specs.World.{World, busy, busy_refusal}
use Rattle.pager_state.specs.Staging.{stage_refusal, staged_after, clear_staged}
use Rattle.pager_state.specs.Queries.{observe_clock}
use Rattle.pager_state.specs.Batches.{append_refusal, append_batch, append_after}
use Rattle.pager_state.specs.Opening.{open_refusal, open_table, open_log_area}
use Rattle.pager_state.specs.Stores.{Act, Disk, disk_of, inside}
use Rattle.pager_state.specs.Steps.{commit_refusal, begin_commit, checkpoint_refusal, begin_checkpoint, todo, advance, answer_of, named_by, named, done, step_fine, step_answer, stepped, step_refusal, commit_world, checkpoint_world}
use Rattle.pager_state.specs.Opened.{Opens}
use Rattle.pager_state.specs.Opened as opened
use Rattle.pager_state.specs.Staging as staging
use Rattle.history.specs.Calls.{Call, Ask, Open, Stage, Clear, Append, Observe, Commit, Checkpoint, BeginCommit, BeginCheckpoint, Step, cleanly, read_into, opening, opened_or, opened_world, refused_by, world_after, staging_after}

open_stays : (x : Opens) (w : World) (t l m : List ℕ) → (open_refusal x ≡ 0 → ⊥) → opened_or x w t l m ≡ w
open_stays (opened.Opened p) w t l m n = absurd (n refl)
open_stays (opened.Refused r) w t l m n = refl

pub unaccepted : (v : Option Refusal) → (number_of v ≡ 0 → ⊥) → accepts v ≡ false
unaccepted None n = absurd (n refl)
unaccepted (Some r) n = refl

named-taken : (answer : ℕ) (a : Act) (rest : List Act) → step_refusal (named_by answer a rest) ≡ 0
named-taken answer a [] = refl
named-taken answer a (b ∷ rest) = refl

done-stays : (answer : ℕ) (acts : List Act) (v w : World) → (step_refusal (named answer acts) ≡ 0 → ⊥) → done acts v w ≡ w
unfolding named done
done-stays answer [] v w n = refl
done-stays answer (a ∷ rest) v w n = go (inside a) n
  where
    go : (t : Bool) → (step_refusal (pick t (named_by answer a rest) (Err refusal.Area)) ≡ 0 → ⊥) → pick t v w ≡ w
    go true r = absurd (r (named-taken answer a rest))
    go false r = refl

step_stays : (g : List ℕ) (w : World) → (step_refusal (step_answer g w) ≡ 0 → ⊥) → stepped g w ≡ w
unfolding step_answer stepped
step_stays g w n = go (step_fine g w) n
  where
    go : (t : Bool) → (step_refusal (pick t (named (answer_of w.pager.job) (todo g w)) (Err refusal.Area)) ≡ 0 → ⊥) → pick t (done (todo g w) (advance g w) w) w ≡ w
    go true r = done-stays (answer_of w.pager.job) (todo g w) (advance g w) w r
    go false r = refl

-- "A refusal changes no lent area and no store": the store and the staging area
pub refused-stays : (c : Call) (w : World) (g : List ℕ) → (refused_by c w g ≡ 0 → ⊥) → (world_after c w g ≡ w) × (staging_after c w g ≡ g)
unfolding refused_by world_after opened_world staged_after staging.staging_bytes clear_staged observe_clock append_batch append_after begin_commit begin_checkpoint commit_world checkpoint_world
refused-stays (Ask q) w g n = (refl, refl)
refused-stays (Open m lent) w g n =
    let d : Disk = disk_of w in (
      open_stays (opening m lent d) w (open_table (cleanly m) lent.table (read_into lent d) lent.staging)
          (open_log_area (cleanly m) lent.table (read_into lent d) lent.staging) (read_into lent d).main.area n,
      rw (ne_eqb (open_refusal (opening m lent d)) 0 n),
    )
refused-stays (Stage p bytes) w g n = let e = unaccepted (stage_refusal (busy w.pager) w.pager.staged g p bytes) n in (rw e, rw e)
refused-stays Clear w g n = (rw (unaccepted (busy_refusal w.pager) n), refl)
refused-stays (Append body) w g n = (rw (unaccepted (append_refusal w.pager w.log body) n), refl)
refused-stays (Observe c) w g n = (rw (unaccepted (busy_refusal w.pager) n), refl)
refused-stays (Commit h salt) w g n = (rw (unaccepted (commit_refusal g w h) n), refl)
refused-stays (Checkpoint salt) w g n = (rw (unaccepted (checkpoint_refusal g w) n), refl)
refused-stays (BeginCommit h salt) w g n = (rw (unaccepted (commit_refusal g w h) n), refl)
refused-stays (BeginCheckpoint salt) w g n = (rw (unaccepted (checkpoint_refusal g w) n), refl)
refused-stays Step w g n = (step_stays g w n, refl)
