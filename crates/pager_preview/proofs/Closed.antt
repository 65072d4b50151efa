-- What a commit that is begun leaves is its end in closed form, in any store, made up or not, and with any salt. Assumes nothing.
use Rattle.std.proofs.Common.{◌≡◌, ℕ, ◌+◌, ◌*◌, ◌<◌, ◌≤◌, ◌⊎◌, List, length, ap, inl, inr, arith, ne_eqb, le-leb}
use Rattle.std.specs.Prelude.{None, Some, Err, Ok}
use borrow.Author.Tests.{lt-leb}
use Rattle.le.proofs.Tests.{le-or-lt}
use Rattle.refusal.specs.declared.Refusal.{Refusal}
use Rattle.header.specs.declared.DbHeader.{DbHeader}
use Rattle.frame.specs.Frame.{frame_size}
use Rattle.wal.specs.Header.{header_size}
use Rattle.pager_state.specs.World.{World, staged_limit, count_of}
use Rattle.pager_state.specs.Pages.{pages_from, in_checkpoint}
use Rattle.pager_state.specs.Commit.{checkpoint_frames}
use Rattle.pager_state.specs.Steps.{differing, commit_refusal, commit_answer, commit_world}
use Rattle.pager_state.proofs.CheckpointEnd.{end_is}
use Rattle.pager_state.proofs.CommitEnd.{committed, committed-is, ends-behind, ends-checkpointed}
use Rattle.pager_preview.specs.Preview.{seen, preview_commit}
use Rattle.pager_preview.specs.Closed.{frames_after, end_of}
use Rattle.pager_preview.specs.declared.Preview.{Preview}

module _ (g : List ℕ) (w : World) (h : DbHeader) where
  -- ---- begun

  -- the end in closed form
  abbrev pub end : Preview
  end = end_of (differing g w) w.pager.wal w.pager.storage.len (count_of h)

  -- to so many frames it brings the log
  abbrev frames : ℕ
  frames = frames_after (differing g w) w.pager.wal

  module _ (salt : ℕ) (slots : length w.pager.staged.pages ≡ staged_limit) (b : commit_refusal g w h ≡ None) where
    seen-behind : frames < checkpoint_frames → seen (differing g w) (commit_world g w h salt) ≡ end
    unfolding end_of
    seen-behind k =
        let c = committed-is g w h salt slots b in
        let n = ne_eqb (w.pager.wal.len + frame_size * (differing g w + 1)) header_size (λ e. omega arith) in
        rw (ends-behind g w h salt slots b k, c.frames, c.log_file, c.main_file, n, lt-leb checkpoint_frames _ k)

    seen-checkpointed : checkpoint_frames ≤ frames → seen (differing g w) (commit_world g w h salt) ≡ end
    unfolding end_of
    seen-checkpointed k =
        let v : World = committed g w h salt slots b in
        let e = end_is salt (differing g w) (pages_from (in_checkpoint v) 0) v in
        rw (ends-checkpointed g w h salt slots b k, e.frames, e.log_file, e.main_file, (committed-is g w h salt slots b).header, le-leb checkpoint_frames _ k)

    seen_by : (checkpoint_frames ≤ frames) ⊎ (frames < checkpoint_frames)
        → seen (differing g w) (commit_world g w h salt) ≡ end
    seen_by (inl k) = seen-checkpointed k
    seen_by (inr k) = seen-behind k

    pub seen_end : seen (differing g w) (commit_world g w h salt) ≡ end
    seen_end = seen_by (le-or-lt checkpoint_frames frames)

    pub closed : preview_commit g w h salt ≡ Ok end
    unfolding preview_commit commit_answer
    closed = rw b (ap Ok seen_end)

  -- ---- refused

  pub refused : (r : Refusal) → commit_refusal g w h ≡ Some r → (salt : ℕ) → preview_commit g w h salt ≡ Err r
  unfolding preview_commit commit_answer
  refused r e salt = rw e
