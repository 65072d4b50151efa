-- What a commit or checkpoint that was begun tells of the store, and that what the laws of steps ask holds then. Assumes nothing.
use mathlib.Core.Path.{◌≡◌, refl, sym}
use mathlib.Core.Bool.{Bool, true, false, not}
use mathlib.Core.List.{List, append-nil}
use Prim.Native.Nat.{ℕ, ◌+◌, ◌*◌, ◌≤◌}
use borrow.Author.Tests.{leb-true}
use lib.Dec.{leb}
use lib.ListN.{length}
use Rattle.std.specs.Prelude.{None}
use Rattle.le.specs.Choice.{pick, both}
use Rattle.le.proofs.Compare.{no_test, both_true}
use Rattle.refusal.specs.Refusal.{accepts}
use Rattle.refusal.specs.declared.Refusal.TheVariants as refusal
use Rattle.refusal.proofs.Judged.{met, accepts-none}
use Rattle.header.specs.Header.{is_version}
use Rattle.header.specs.declared.DbHeader.{DbHeader}
use Rattle.frame.specs.Frame.{frame_size}
use Rattle.wal.specs.Recovery.{wal_area}
use Rattle.pager_state.specs.World.{World, page_limit, staged_limit, count_of, fine, busy_with, busy, read_only, with_job}
use Rattle.pager_state.specs.Overlay.{is_staged}
use Rattle.pager_state.specs.Pages.{pages_from, differs}
use Rattle.pager_state.specs.Checkpoint.{checkpoint_todo}
use Rattle.pager_state.specs.Commit.{frames_todo, commit_todo}
use Rattle.pager_state.specs.Steps.{header_good, differing, lacking, room_for, table_fits, commit_fine, commit_refusal, begin_commit, nothing_to_checkpoint, checkpoint_refusal, checkpoint_begins, checkpoint_count, begin_checkpoint, todo, step_fine, on_store}
use Rattle.pager_state.specs.declared.Job.{Job}
use Rattle.pager_state.specs.declared.Job.TheVariants as job
use Rattle.pager_state.proofs.Stored.{AllInside}
use Rattle.pager_state.proofs.Made.{ready-fine, PlacedOf, Names, Made, Ready, ReadyOf}
use Rattle.pager_state.proofs.Before.{stands-frame, before-staged}
use Rattle.pager_state.proofs.Inside.{checkpoint-stores-inside, frames-inside}

pub off : (b : Bool) → not b ≡ true → b ≡ false
off true e = no_test e
off false e = refl

-- nothing part done
pub not-busy : (j : Job) → busy_with j ≡ false → j ≡ job.Idle
not-busy job.Idle e = refl
not-busy (job.Commit h salt page answer) e = no_test (sym e)
not-busy (job.Checkpoint salt page answer) e = no_test (sym e)
not-busy (job.MainLength salt answer) e = no_test (sym e)
not-busy (job.LogLength salt answer) e = no_test (sym e)
not-busy (job.LogHeader salt answer) e = no_test (sym e)

-- ---- a commit

pub record CommitBegun (g : List ℕ) (w : World) (h : DbHeader) : Type 0 where
  pub right : step_fine g w ≡ true
  pub before : table_fits w ≡ true
  pub idle : w.pager.job ≡ job.Idle
  pub writes : read_only w.pager ≡ false
  pub low : 1 ≤ count_of h
  pub high : count_of h ≤ page_limit
  pub version : is_version h.format_version ≡ true
  pub joined : page_limit ≤ lacking w h
  pub room : w.pager.wal.len + frame_size * (differing g w + 1) ≤ wal_area

module _ (g : List ℕ) (w : World) (h : DbHeader) (e : commit_refusal g w h ≡ None) where
  pub commit-begun : CommitBegun g w h
  unfolding commit_refusal
  commit-begun =
      let a = met (commit_fine g w) refusal.Area _ e in
      let f = both_true (step_fine g w) (pick (busy w.pager) true (table_fits w)) a.0 in
      let b = met (not (busy w.pager)) refusal.Busy _ a.1 in
      let c = met (not (read_only w.pager)) refusal.ReadOnly _ b.1 in
      let d = met (header_good h) refusal.NewHeader _ c.1 in
      let i = met (leb page_limit (lacking w h)) (refusal.Joining (lacking w h)) _ d.1 in
      let k = met (room_for w (differing g w + 1)) refusal.LogFull None i.1 in
      let q : busy w.pager ≡ false = off _ b.0 in
      let x = both_true (leb 1 (count_of h)) (both (leb (count_of h) page_limit) (is_version h.format_version)) d.0 in
      let y = both_true (leb (count_of h) page_limit) (is_version h.format_version) x.1 in
      record {
        right = f.0;
        before = rw q at f.1;
        idle = not-busy w.pager.job q;
        writes = off _ c.0;
        low = leb-true 1 (count_of h) x.0;
        high = leb-true (count_of h) page_limit y.0;
        version = y.1;
        joined = leb-true _ _ i.0;
        room = leb-true _ _ k.0;
      }

  -- the store that it leaves
  pub begun-commit : (salt : ℕ) → (begin_commit g w h salt).pager ≡ with_job w.pager (job.Commit h salt 0 (differing g w))
  unfolding begin_commit
  begun-commit salt = rw e

  -- no step of it is refused on the way
  commit-todo : (salt n : ℕ) → todo g (on_store w (with_job w.pager (job.Commit h salt 0 n)))
      ≡ frames_todo g h salt n (pages_from (differs g w) 0) (on_store w (with_job w.pager (job.Commit h salt 0 n)))
  unfolding todo commit_todo checkpoint_todo
  commit-todo salt n = append-nil _

  pub commit-inside : (salt : ℕ) → AllInside (todo g (on_store w (begin_commit g w h salt).pager))
  unfolding differing
  commit-inside salt =
      let b = commit-begun in
      rw (begun-commit salt, commit-todo salt (differing g w))
      (frames-inside g h salt (differing g w) (pages_from (differs g w) 0) (on_store w (with_job w.pager (job.Commit h salt 0 (differing g w)))) b.high b.room)

  ready_by : {P : ℕ → Bool} → (salt : ℕ) → length w.pager.staged.pages ≡ staged_limit → PlacedOf P w → Names P w → ReadyOf P g (on_store w (begin_commit g w h salt).pager)
  unfolding fine
  ready_by salt s p n =
      let b = commit-begun in
      rw (begun-commit salt) (record { right = b.right; made = record { slots = s; asked = (p, (n, b.high)) } })

  -- in any store: the start has judged what the laws of steps ask of the staged pages
  pub commit-ready : (salt : ℕ) → length w.pager.staged.pages ≡ staged_limit → ReadyOf (is_staged w.pager.staged) g (on_store w (begin_commit g w h salt).pager)
  commit-ready salt s =
      ready_by salt s
      (λ n l o i. stands-frame w.table w.pager.wal.len n (before-staged w.table w.pager.wal.len w.pager.staged commit-begun.before n o) i)
      (λ n o. o)

  -- in a store that the calls make
  pub commit-made : (salt : ℕ) → Made w → Ready g (on_store w (begin_commit g w h salt).pager)
  commit-made salt m = ready_by salt m.slots (rw commit-begun.idle at m.asked) (λ n o. refl)

-- ---- a checkpoint

pub record CheckpointBegun (g : List ℕ) (w : World) : Type 0 where
  pub right : step_fine g w ≡ true
  pub idle : w.pager.job ≡ job.Idle
  pub writes : read_only w.pager ≡ false
  pub some : nothing_to_checkpoint w ≡ false

module _ (g : List ℕ) (w : World) (e : checkpoint_begins g w ≡ true) where
  pub checkpoint-begun : CheckpointBegun g w
  unfolding checkpoint_refusal
  checkpoint-begun =
      let x = both_true (accepts (checkpoint_refusal g w)) (not (nothing_to_checkpoint w)) e in
      let a = met (step_fine g w) refusal.Area _ (accepts-none _ x.0) in
      let b = met (not (busy w.pager)) refusal.Busy _ a.1 in
      let c = met (not (read_only w.pager)) refusal.ReadOnly None b.1 in
      record { right = a.0; idle = not-busy w.pager.job (off _ b.0); writes = off _ c.0; some = off _ x.1 }

  pub begun-checkpoint : (salt : ℕ) → (begin_checkpoint g w salt).pager ≡ with_job w.pager (job.Checkpoint salt 0 (checkpoint_count w))
  unfolding begin_checkpoint
  begun-checkpoint salt = rw e

  checkpoint-todo : (salt n : ℕ) → todo g (on_store w (with_job w.pager (job.Checkpoint salt 0 n)))
      ≡ checkpoint_todo (job.Checkpoint salt 0 n) (on_store w (with_job w.pager (job.Checkpoint salt 0 n)))
  unfolding todo commit_todo
  checkpoint-todo salt n = refl

  pub checkpoint-inside : (salt : ℕ) → AllInside (todo g (on_store w (begin_checkpoint g w salt).pager))
  checkpoint-inside salt =
      rw (begun-checkpoint salt, checkpoint-todo salt (checkpoint_count w))
      (checkpoint-stores-inside (job.Checkpoint salt 0 (checkpoint_count w)) (on_store w (with_job w.pager (job.Checkpoint salt 0 (checkpoint_count w)))) (ready-fine g w checkpoint-begun.right).0.count)

  checkpoint-is-ready : {P : ℕ → Bool} → (salt : ℕ) → length w.pager.staged.pages ≡ staged_limit → PlacedOf P w → ReadyOf P g (on_store w (begin_checkpoint g w salt).pager)
  unfolding fine
  checkpoint-is-ready salt s p = rw (begun-checkpoint salt) (record { right = checkpoint-begun.right; made = record { slots = s; asked = p } })

  -- in any store: of the table nothing is asked
  pub checkpoint-ready : (salt : ℕ) → length w.pager.staged.pages ≡ staged_limit → ReadyOf (λ (n : ℕ). false) g (on_store w (begin_checkpoint g w salt).pager)
  checkpoint-ready salt s = checkpoint-is-ready salt s (λ n l o i. no_test o)

  -- in a store that the calls make
  pub checkpoint-made : (salt : ℕ) → Made w → Ready g (on_store w (begin_checkpoint g w salt).pager)
  checkpoint-made salt m = checkpoint-is-ready salt m.slots (rw checkpoint-begun.idle at m.asked)

-- a checkpoint that is not refused and has something to do is begun
pub begins : (g : List ℕ) (w : World) → checkpoint_refusal g w ≡ None → nothing_to_checkpoint w ≡ false → checkpoint_begins g w ≡ true
begins g w e n = rw (e, n)
