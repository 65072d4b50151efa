-- Every store of a history is as the laws of steps ask. Assumes nothing.
use mathlib.Core.Path.{◌≡◌, refl}
use mathlib.Core.Bool.{Bool, true, false}
use mathlib.Core.List.{List, [], ◌∷◌}
use Prim.Native.Nat.{ℕ}
use Rattle.std.specs.Prelude.{Option, None, Some}
use Rattle.refusal.specs.declared.Refusal.{Refusal}
use Rattle.header.specs.declared.DbHeader.{DbHeader}
use Rattle.pager_state.specs.World.{World}
use Rattle.pager_state.specs.Stores.{Disk}
use Rattle.pager_state.specs.Opening.{open_table, open_log_area}
use Rattle.pager_state.specs.Steps.{commit_refusal, begin_commit, checkpoint_begins, begin_checkpoint, most_steps, on_store, commit_world, checkpoint_world}
use Rattle.pager_state.specs.declared.AccessMode.{AccessMode}
use Rattle.pager_state.specs.declared.AccessMode.TheVariants as mode
use Rattle.pager_state.specs.Opened.{Opens}
use Rattle.pager_state.specs.Opened as opened
use Rattle.pager_state.proofs.Made.{Made}
use Rattle.pager_state.proofs.Steps.{made-keeps}
use Rattle.pager_state.proofs.Runs.{made-steps}
use Rattle.pager_state.proofs.Begun.{commit-made, checkpoint-made}
use Rattle.pager_state.proofs.Opened.{open_made}
use Rattle.pager_state.proofs.Calls.{stage-made, clear-made, observe-made, append-made}
use Rattle.history.specs.Calls.{Lent, Call, Ask, Open, Stage, Clear, Append, Observe, Commit, Checkpoint, BeginCommit, BeginCheckpoint, Step, cleanly, read_into, opening, opened_or, opened_world, world_after}
use Rattle.history.specs.Run.{Run, whole, reopened, Event, Whole, Cut, next}
use Rattle.history.specs.Guards.{after}

-- ---- openings

module _ (m : AccessMode) (lent : Lent) (d : Disk) (w : World) (k : Made w) where
  made_by : (a : Opens) → opening m lent d ≡ a
      → Made (opened_or a w (open_table (cleanly m) lent.table (read_into lent d) lent.staging) (open_log_area (cleanly m) lent.table (read_into lent d) lent.staging) (read_into lent d).main.area)
  made_by (opened.Opened p) e = open_made (cleanly m) lent.table (read_into lent d) lent.staging p e _ _
  made_by (opened.Refused r) e = k

  made-opened : Made (opened_world m lent d w)
  unfolding opened_world
  made-opened = made_by (opening m lent d) refl

-- ---- commits and checkpoints

module _ (g : List ℕ) (w : World) (salt : ℕ) (k : Made w) where
  made-begun : (h : DbHeader) (v : Option Refusal) → commit_refusal g w h ≡ v → Made (on_store w (begin_commit g w h salt).pager)
  unfolding begin_commit
  made-begun h None e = (commit-made g w h e salt k).made
  made-begun h (Some r) e = rw e k

  made-commit : (h : DbHeader) (v : Option Refusal) → commit_refusal g w h ≡ v → Made (commit_world g w h salt)
  unfolding commit_world
  made-commit h None e = rw e (made-steps g most_steps (on_store w (begin_commit g w h salt).pager) (made-begun h None e))
  made-commit h (Some r) e = rw e k

  made-checkpointing : (b : Bool) → checkpoint_begins g w ≡ b → Made (on_store w (begin_checkpoint g w salt).pager)
  unfolding begin_checkpoint
  made-checkpointing true e = (checkpoint-made g w e salt k).made
  made-checkpointing false e = rw e k

  made-checkpoint : (b : Bool) → checkpoint_begins g w ≡ b → Made (checkpoint_world g w salt)
  unfolding checkpoint_world
  made-checkpoint true e = rw e (made-steps g most_steps (on_store w (begin_checkpoint g w salt).pager) (made-checkpointing true e))
  made-checkpoint false e = rw e k

-- ---- any call

made_after : (c : Call) (w : World) (g : List ℕ) → Made w → Made (world_after c w g)
unfolding world_after
made_after (Ask q) w g k = k
made_after (Open m lent) w g k = made-opened m lent _ w k
made_after (Stage n bytes) w g k = stage-made w g n bytes k
made_after Clear w g k = clear-made w k
made_after (Append body) w g k = append-made w body k
made_after (Observe c) w g k = observe-made w c k
made_after (Commit h salt) w g k = made-commit g w salt k h (commit_refusal g w h) refl
made_after (Checkpoint salt) w g k = made-checkpoint g w salt k (checkpoint_begins g w) refl
made_after (BeginCommit h salt) w g k = made-begun g w salt k h (commit_refusal g w h) refl
made_after (BeginCheckpoint salt) w g k = made-checkpointing g w salt k (checkpoint_begins g w) refl
made_after Step w g k = made-keeps g w k

pub made-whole : (c : Call) (r : Run) → Made r.world → Made (whole c r).world
unfolding whole
made-whole c r k = made_after c r.world r.staging k

-- ---- any list of events

made-next : (e : Event) (r : Run) → Made r.world → Made (next e r).world
unfolding next reopened
made-next (Whole c) r k = made-whole c r k
made-next (Cut c j n attempts lent) r k = made-opened mode.ReadWrite lent _ r.world k

pub made-history : (es : List Event) (r : Run) → Made r.world → Made (after es r).world
unfolding after
made-history [] r k = k
made-history (e ∷ es) r k = made-history es (next e r) (made-next e r k)
