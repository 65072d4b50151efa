-- A preview of a commit, and the run behind that commit. Assumes nothing.
use mathlib.Core.Path.{◌≡◌, refl, sym, ap, ◌∙◌}
use mathlib.Core.Bool.{false}
use mathlib.Core.List.{List, [], ◌∷◌, ◌++◌}
use mathlib.Core.Logic.{◌⊎◌, inl, inr}
use Prim.Native.Nat.{ℕ, ◌≤◌, ◌<◌}
use borrow.Author.Tests.{le-leb, lt-leb, ne_eqb}
use lib.Dec.{eqb}
use lib.ListN.{length}
use Rattle.std.specs.Prelude.{Option, None, Some, Ok}
use Rattle.le.specs.Choice.{pick}
use Rattle.le.proofs.Tests.{le-or-lt}
use Rattle.refusal.specs.Refusal.{number, number_of}
use Rattle.refusal.specs.declared.Refusal.{Refusal}
use Rattle.refusal.proofs.Rows.{numbered}
use Rattle.header.specs.declared.DbHeader.{DbHeader}
use Rattle.pager_state.specs.World.{World, staged_limit, count_of}
use Rattle.pager_state.specs.Commit.{checkpoint_frames}
use Rattle.pager_state.specs.Steps.{differing, commit_refusal, commit_answer, commit_world}
use Rattle.pager_state.specs.Commit.{page_frame_stored}
use Rattle.pager_state.proofs.CommitEnd.{commit-frame-idle, commit-frame-checkpoints}
use Rattle.pager_state.proofs.CommitEnd.{frames_world as frames_behind}
use Rattle.pager_state.proofs.Done.{commit-done}
use Rattle.pager_preview.specs.Preview.{preview_commit}
use Rattle.pager_preview.specs.Closed.{frames_after, end_of}
use Rattle.pager_preview.specs.declared.Preview.{Preview}
use Rattle.pager_preview.proofs.Closed.{seen_end, closed, refused}
use Rattle.history.specs.Calls.{Commit, refused_by, world_after}
use Rattle.history.specs.Run.{Run, whole}
use Rattle.history.specs.Guards.{Accepted}
use Rattle.history.proofs.Refused.{refused-stays}
use Rattle.history.proofs.GuardCommit.{frames_world}
use Rattle.history.proofs.GuardModel.{world-after, commit-batches, commit-drops}
use Rattle.commit_preview.specs.CommitPreview.{Told, Foretold, CommitsSo}

-- ---- any store

module _ (g : List ℕ) (w : World) (h : DbHeader) (salt : ℕ) (slots : length w.pager.staged.pages ≡ staged_limit) where
  pub told : Told g w h salt
  unfolding end_of
  told =
      record {
        refused = λ r e. refused g w h r e salt;
        kept = λ b k. closed g w h salt slots b ∙ rw (lt-leb checkpoint_frames (frames_after (differing g w) w.pager.wal) k);
        folded = λ b k. closed g w h salt slots b ∙ rw (le-leb checkpoint_frames (frames_after (differing g w) w.pager.wal) k);
      }

-- ---- a commit behind its preview

-- the world behind a commit's frames, as the end of a commit and as histories have it
same-frames : (g : List ℕ) (h : DbHeader) (salt answer : ℕ) (ns : List ℕ) (w : World) → frames_behind g h salt answer ns w ≡ frames_world g h salt answer ns w
unfolding frames_behind frames_world
same-frames g h salt answer [] w = refl
same-frames g h salt answer (n ∷ ns) w = same-frames g h salt answer ns (page_frame_stored g h salt answer n w)

module _ (r : Run) (slots : length r.world.pager.staged.pages ≡ staged_limit) (h : DbHeader) (salt : ℕ) where
  abbrev g : List ℕ
  g = r.staging

  abbrev w : World
  w = r.world

  -- the end in closed form
  abbrev end : Preview
  end = end_of (differing g w) w.pager.wal w.pager.storage.len (count_of h)

  -- refused
  module _ (x : Refusal) (e : commit_refusal g w h ≡ Some x) where
    refused-by : refused_by (Commit h salt) w g ≡ number x
    unfolding refused_by
    refused-by = ap number_of e

    not_taken : eqb (refused_by (Commit h salt) w g) 0 ≡ false
    not_taken = rw refused-by (ne_eqb (number x) 0 (numbered x))

    stays : whole (Commit h salt) r ≡ r
    unfolding whole
    stays =
        let s = refused-stays (Commit h salt) w g (λ z. numbered x (sym refused-by ∙ z)) in
        rw (not_taken, s.0)

  -- begun
  module _ (b : commit_refusal g w h ≡ None) where
    accepted : Accepted (Commit h salt) r
    unfolding refused_by
    accepted = ap number_of b

    committed-world : (whole (Commit h salt) r).world ≡ commit_world g w h salt
    unfolding world_after
    committed-world = world-after (Commit h salt) r

    batches-by : (checkpoint_frames ≤ frames_after (differing g w) w.pager.wal) ⊎ (frames_after (differing g w) w.pager.wal < checkpoint_frames)
        → (whole (Commit h salt) r).model.committed ≡ pick end.checkpointed [] (r.model.committed ++ r.model.waiting)
    unfolding end_of
    batches-by (inl k) = rw (le-leb checkpoint_frames _ k) (commit-drops h salt r accepted 0 (differing g w) (rw (same-frames g h salt (differing g w)) at (commit-frame-checkpoints g w h salt slots b k)))
    batches-by (inr k) = rw (lt-leb checkpoint_frames _ k) (commit-batches h salt r accepted (rw (same-frames g h salt (differing g w)) at (commit-frame-idle g w h salt slots b k)))

    ended : Foretold end h r (whole (Commit h salt) r)
    unfolding commit_answer end_of
    ended =
        let e = committed-world in
        let s = seen_end g w h salt slots b in
        record {
          answer = rw b (ap (λ (p : Preview). Ok p.answer) s);
          rests = rw e (commit-done g w h salt b slots).idle;
          frames = rw e (ap (λ (p : Preview). p.frame_count) s);
          log_file = rw e (ap (λ (p : Preview). p.log_len) s);
          main_file = rw e (ap (λ (p : Preview). p.main_len) s);
          batches = batches-by (le-or-lt checkpoint_frames (frames_after (differing g w) w.pager.wal));
        }

  pub foretold : (other : ℕ) → CommitsSo (preview_commit g w h other) h salt r
  foretold other = go (commit_refusal g w h) refl
    where
      go : (v : Option Refusal) → commit_refusal g w h ≡ v → CommitsSo (preview_commit g w h other) h salt r
      go None e = rw (closed g w h other slots e) (accepted e, ended e)
      go (Some x) e = rw (refused g w h x e other) (refused-by x e, stays x e)
