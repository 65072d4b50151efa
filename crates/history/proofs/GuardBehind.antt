-- A checkpoint behind a commit that brought none on: nothing refuses it, and what it leaves. Assumes nothing.
use mathlib.Core.Path.{◌≡◌, ap, ◌∙◌}
use mathlib.Core.Bool.{true, false}
use Prim.Native.Nat.{ℕ, ◌≤◌}
use native.Mathlib.Omega.{arith}
use borrow.Author.Tests.{ne_eqb}
use Rattle.std.specs.Prelude.{None, Ok}
use Rattle.refusal.specs.Refusal.{number_of}
use Rattle.header.specs.declared.DbHeader.{DbHeader}
use Rattle.pager_state.specs.World.{read_only_by, read_only}
use Rattle.pager_state.specs.Steps.{commit_refusal, nothing_to_checkpoint, checkpoint_refusal, checkpoint_start, checkpoint_begins, begin_checkpoint, todo, step_fine, on_store, commit_world, checkpoint_world}
use Rattle.pager_state.specs.declared.CheckpointStart.TheVariants as checkpoint
use Rattle.pager_state.proofs.Made.{Made}
use Rattle.pager_state.proofs.Done.{Rests, commit-done, checkpoint-done}
use Rattle.pager_state.proofs.Begun.{begins}
use Rattle.history.specs.Calls.{Commit, Checkpoint, refused_by, world_after}
use Rattle.history.specs.Run.{Run, whole}
use Rattle.history.specs.Guards.{LongerBy, CheckpointedTo, Accepted}
use Rattle.history.proofs.GuardNew.{made-framed}
use Rattle.history.proofs.GuardHistories.{made-whole}
use Rattle.history.proofs.GuardCheckpoint.{checkpoint-leaves}
use Rattle.history.proofs.GuardModel.{world-after, staging-after}

-- a commit that adds n frames and brings no checkpoint on
pub record Commits (r : Run) (h : DbHeader) (salt n : ℕ) : Type 0 where
  pub made : Made r.world
  pub taken : commit_refusal r.staging r.world h ≡ None
  pub writes : read_only r.world.pager ≡ false
  pub some : 1 ≤ n
  pub ends : LongerBy r.world (commit_world r.staging r.world h salt) n

module _ {r : Run} {h : DbHeader} {salt n : ℕ} (k : Commits r h salt n) where
  abbrev committed : Run
  committed = whole (Commit h salt) r

  committed-world : committed.world ≡ commit_world r.staging r.world h salt
  unfolding world_after
  committed-world = world-after (Commit h salt) r

  pub longer : LongerBy r.world committed.world n
  longer = rw committed-world k.ends

  committed-fine : step_fine committed.staging committed.world ≡ true
  committed-fine =
      rw (committed-world, staging-after (Commit h salt) r) (commit-done r.staging r.world h salt k.taken k.made.slots).ready.right

  committed-made : Made committed.world
  committed-made = made-whole (Commit h salt) r k.made

  committed-writes : read_only committed.world.pager ≡ false
  committed-writes = ap read_only_by longer.opening ∙ k.writes

  some-frames : nothing_to_checkpoint committed.world ≡ false
  unfolding nothing_to_checkpoint
  some-frames = rw (ne_eqb committed.world.pager.wal.frame_count 0 (λ e. omega (arith, e, longer.frames, k.some)))

  checkpoint-none : checkpoint_refusal committed.staging committed.world ≡ None
  unfolding checkpoint_refusal
  checkpoint-none = rw (committed-fine, longer.rests, committed-writes)

  pub checkpoint-begins : checkpoint_begins committed.staging committed.world ≡ true
  checkpoint-begins = begins committed.staging committed.world checkpoint-none some-frames

  pub checkpoint-starts : checkpoint_start committed.staging committed.world ≡ (Ok checkpoint.Begun)
  unfolding checkpoint_start
  checkpoint-starts = rw (checkpoint-none, some-frames)

  module _ (last : ℕ) where
    abbrev checkpointed : Run
    checkpointed = whole (Checkpoint last) committed

    pub checkpoint-taken : Accepted (Checkpoint last) committed
    unfolding refused_by
    checkpoint-taken = ap number_of checkpoint-none

    checkpointed-world : checkpointed.world ≡ checkpoint_world committed.staging committed.world last
    unfolding world_after
    checkpointed-world = world-after (Checkpoint last) committed

    pub checkpoint-ends : Rests (λ (n : ℕ). false) committed.staging (todo committed.staging (on_store committed.world (begin_checkpoint committed.staging committed.world last).pager)) committed.world checkpointed.world
    checkpoint-ends = rw checkpointed-world (checkpoint-done committed.staging committed.world last checkpoint-begins committed-made.slots)

    pub checkpoint-to : CheckpointedTo committed.world checkpointed.world
    checkpoint-to =
        let u = made-framed committed.world committed-made in
        rw checkpointed-world (checkpoint-leaves committed.staging committed.world last u.0 (u.1 longer.rests) checkpoint-begins)
