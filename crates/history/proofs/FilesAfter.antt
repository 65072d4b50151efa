-- The files after any call that is not refused, and the committed bytes between checkpoints. Assumes nothing.
use mathlib.Core.Path.{◌≡◌, refl, sym, ap, ◌∙◌}
use mathlib.Core.Bool.{Bool, true, false}
use mathlib.Core.List.{List, [], ◌∷◌, ◌++◌, append_assoc, append-nil}
use mathlib.Core.Logic.{◌⊎◌, inl, inr}
use Prim.Native.Nat.{ℕ, ◌+◌, ◌^◌, ◌<◌}
use native.Mathlib.Omega.{arith}
use lib.ListN.{length, take, drop}
use Rattle.std.specs.Prelude.{Option, None, Some}
use Rattle.le.specs.Le.{Bytes}
use Rattle.refusal.specs.declared.Refusal.{Refusal}
use Rattle.refusal.proofs.Rows.{accepted}
use Rattle.header.specs.declared.DbHeader.{DbHeader}
use Rattle.wal.specs.Header.{header_size}
use Rattle.wal.specs.Recovery.{chunk_at}
use Rattle.pager_state.specs.World.{World, busy_refusal}
use Rattle.pager_state.specs.Staging.{clear_staged}
use Rattle.pager_state.specs.Stores.{Disk, content, disk_of, Batched, CommitFrame, Emptied, Other, Act, Put, SetLen, kind_of, stored, stored_all}
use Rattle.pager_state.specs.Opening.{opens_as}
use Rattle.pager_state.specs.Steps.{commit_refusal, begin_commit, checkpoint_begins, begin_checkpoint, todo, on_store, checkpoint_world}
use Rattle.pager_state.specs.declared.AccessMode.{AccessMode}
use Rattle.pager_state.specs.declared.AccessMode.TheVariants as mode
use Rattle.pager_state.proofs.Made.{Made}
use Rattle.pager_state.proofs.Done.{commit-done, checkpoint-done}
use Rattle.pager_state.proofs.Steps.{idle-todo}
use Rattle.history.specs.Model.{Model}
use Rattle.history.specs.Calls.{Lent, Call, Ask, Open, Stage, Clear, Append, Observe, Commit, Checkpoint, BeginCommit, BeginCheckpoint, Step, read_into, refused_by, stores_of, world_after}
use Rattle.history.specs.Run.{Run, kept_by, kept_after, Event, next, start}
use Rattle.history.specs.Demand3.{Typed, AllTyped}
use Rattle.history.specs.Guards.{after}
use Rattle.history.specs.FilesAfter.{SameFiles, FilesAfter, Unemptied, CommittedGrow}
use Rattle.history.proofs.Files.{len-file}
use Rattle.history.proofs.Disk.{DiskOk, log-inside, committed-len}
use Rattle.history.proofs.Rest.{Inv}
use Rattle.history.proofs.Opening.{Areas, part_same, laid-content, main-inside, open-len}
use Rattle.history.proofs.Reopening.{InvRun, on}
use Rattle.history.proofs.Reopening as opening
use Rattle.history.proofs.Running.{next-step, stepped-is, stepped-none}
use Rattle.history.proofs.Stepping.{StepOk}
use Rattle.history.proofs.Clock as clock
use Rattle.history.proofs.Batches as batches
use Rattle.history.proofs.Checkpoints as in_checkpoint
use Rattle.history.proofs.Creation.{created-inv}
use Rattle.history.proofs.Demand3Holds.{disk-now, areas-of, never, open-stores, goes_on}
use Rattle.history.proofs.GuardNew.{new-made}
use Rattle.history.proofs.GuardHistories.{made-history}
use Rattle.history.proofs.GuardModel.{world-after}

-- ---- calls that store nothing

clear-files : (w : World) (v : Option Refusal) → busy_refusal w.pager ≡ v → disk_of (on_store w (clear_staged w.pager).pager) ≡ disk_of w
unfolding clear_staged
clear-files w None e = rw e
clear-files w (Some r) e = rw e

begin-files : (g : List ℕ) (w : World) (h : DbHeader) (salt : ℕ) (v : Option Refusal) → commit_refusal g w h ≡ v
    → disk_of (on_store w (begin_commit g w h salt).pager) ≡ disk_of w
unfolding begin_commit
begin-files g w h salt None e = rw e
begin-files g w h salt (Some r) e = rw e

checkpoint-files : (g : List ℕ) (w : World) (salt : ℕ) (b : Bool) → checkpoint_begins g w ≡ b
    → disk_of (on_store w (begin_checkpoint g w salt).pager) ≡ disk_of w
unfolding begin_checkpoint
checkpoint-files g w salt true e = rw e
checkpoint-files g w salt false e = rw e

-- ---- any call

same : {d e : Disk} → d ≡ e → SameFiles d e
same q = rw q (record { main = record { len = refl; bytes = refl }; log = record { len = refl; bytes = refl } })

module _ (w : World) (g : List ℕ) (b : Model) (z : List ℕ) (i : Inv w g b z) (m : Made w) where
  abbrev Leaves : Call → Type 0
  Leaves c = SameFiles (disk_of (world_after c w g)) (stored_all (stores_of c w g) (disk_of w))

  checkpoint-goes-by : (salt : ℕ) → salt < 2 ^ 32 → refused_by (Checkpoint salt) w g ≡ 0 → (t : Bool) → checkpoint_begins g w ≡ t
      → disk_of (world_after (Checkpoint salt) w g) ≡ stored_all (stores_of (Checkpoint salt) w g) (disk_of w)
  unfolding refused_by stores_of world_after stored_all checkpoint_world begin_checkpoint
  checkpoint-goes-by salt small e true t = (checkpoint-done g w salt t m.slots).disk
  checkpoint-goes-by salt small e false t = rw (t, idle-todo g w (in_checkpoint.idle w g b z i salt small (accepted _ e)))

  step_by : (StepOk g w b z) ⊎ (todo g w ≡ []) → disk_of (world_after Step w g) ≡ stored_all (stores_of Step w g) (disk_of w)
  unfolding stores_of world_after stored_all
  step_by (inl s) = rw (stepped-is g w b z s, s.todo_is) s.disk
  step_by (inr e) = rw (stepped-none g w e, e)

  append-files : (body : List ℕ) → Bytes body → refused_by (Append body) w g ≡ 0 → Leaves (Append body)
  unfolding stored_all
  append-files body t e = rw (batches.world_is w g b z i body t e, batches.stores-is w g b z i body t e) (same (batches.disk-is w g b z i body t e))

  open-files : (lent : Lent) (o : AccessMode) → refused_by (Open o lent) w g ≡ 0 → Leaves (Open o lent)
  unfolding world_after stored_all opens_as
  open-files lent mode.ReadOnly e = never w g b z i lent e
  open-files lent mode.ReadWrite e =
      let k : DiskOk (disk_of w) b z = disk-now w g b z i lent in
      let a : Areas lent (disk_of w) = areas-of w g b z i lent mode.ReadWrite e in
      let n : ℕ = chunk_at (length k.S) in
      let l : content (read_into lent (disk_of w)).log ≡ content (disk_of w).log = laid-content (disk_of w).log lent.log (log-inside k.on) in
      rw (opening.world_is k lent a w, open-stores w g b z i lent mode.ReadWrite a, len-file (disk_of w).log n (committed-len k.on)) (record {
        main = record { len = refl; bytes = laid-content (disk_of w).main lent.main (main-inside k.on) };
        log =
            record {
              len = open-len (on k lent a w);
              bytes =
                  ap (λ (x : ℕ). take x (read_into lent (disk_of w)).log.area) (open-len (on k lent a w))
                  ∙ part_same (read_into lent (disk_of w)).log.area w.log w.pager.wal.len 0 n l (omega (arith, committed-len k.on));
            };
      })

  leaves : (c : Call) → Typed c → refused_by c w g ≡ 0 → Leaves c
  unfolding refused_by stores_of world_after stored_all
  leaves (Ask q) t e = same refl
  leaves (Open o lent) t e = open-files lent o e
  leaves (Stage n bytes) t e = same refl
  leaves Clear t e = same (clear-files w (busy_refusal w.pager) refl)
  leaves (Append body) t e = append-files body t e
  leaves (Observe c) t e = same (rw (clock.pager-is w g b z i c t e) (clock.disk-is w g b z i c t e))
  leaves (Commit h salt) t e = same (commit-done g w h salt (accepted _ e) m.slots).disk
  leaves (Checkpoint salt) t e = same (checkpoint-goes-by salt t e (checkpoint_begins g w) refl)
  leaves (BeginCommit h salt) t e = same (begin-files g w h salt (commit_refusal g w h) refl)
  leaves (BeginCheckpoint salt) t e = same (checkpoint-files g w salt (checkpoint_begins g w) refl)
  leaves Step t e = same (step_by (next-step g w b z w.pager.job refl i))

-- ---- in any history

pub inv-history : (es : List Event) (r : Run) → AllTyped es → InvRun r → InvRun (after es r)
unfolding after
inv-history [] r t i = i
inv-history (e ∷ es) r t i = inv-history es (next e r) t.1 (goes_on e r t.0 i)

pub files-after : FilesAfter
unfolding FilesAfter
files-after t l m g salt f small es typed c k e =
    let r : Run = after es (start t l m g salt) in
    rw (world-after c r)
    (leaves r.world r.staging r.model r.kept (inv-history es (start t l m g salt) typed (created-inv t l m g salt f small))
    (made-history es (start t l m g salt) (new-made t l m g salt f)) c k e)

-- ---- the committed bytes

-- one store
grows : (a : Act) (d : Disk) (z : List ℕ) → (kind_of a ≡ Emptied → ⊥) → (more : List ℕ) × (kept_by a d z ≡ z ++ more)
grows (Put CommitFrame f at bs flush) d z n = (drop (header_size + length z) (take (at + length bs) (content d.log)), refl)
grows (Put Batched f at bs flush) d z n = ([], sym (append-nil z))
grows (Put Emptied f at bs flush) d z n = absurd (n refl)
grows (Put Other f at bs flush) d z n = ([], sym (append-nil z))
grows (SetLen CommitFrame f at flush) d z n = ([], sym (append-nil z))
grows (SetLen Batched f at flush) d z n = ([], sym (append-nil z))
grows (SetLen Emptied f at flush) d z n = absurd (n refl)
grows (SetLen Other f at flush) d z n = ([], sym (append-nil z))

all-grow : (acts : List Act) (d : Disk) (z : List ℕ) → Unemptied acts → (more : List ℕ) × (kept_after acts d z ≡ z ++ more)
unfolding kept_after
all-grow [] d z u = ([], sym (append-nil z))
all-grow (a ∷ acts) d z u =
    let x = grows a (stored a d) z u.0 in
    let y = all-grow acts (stored a d) (kept_by a (stored a d) z) u.1 in
    (x.0 ++ y.0, y.1 ∙ ap (λ (k : List ℕ). k ++ y.0) x.1 ∙ append_assoc z x.0 y.0)

pub committed-grow : CommittedGrow
unfolding CommittedGrow
committed-grow acts d z u = all-grow acts d z u
