-- Document 02, P5: "Before committing, the desk wants to see the answer the call would give, the frame count, the log and main lengths
-- afterwards and whether it would fold. The preview must equal committing on a copy of all areas, refusals included, and alter nothing."
-- `commit-preview` of proofs/CommitPreview.antt proves it. What a preview answers is `preview_commit` of pager_preview.
use Rattle.std.specs.Prelude.{None, Some, Err, Ok, Result, ◌≡◌, List, [], ◌++◌, ℕ, ◌≤◌, ◌<◌, length}
use Rattle.le.specs.Choice.{pick}
use Rattle.refusal.specs.Refusal.{number}
use Rattle.refusal.specs.declared.Refusal.{Refusal}
use Rattle.header.specs.declared.DbHeader.{DbHeader}
use Rattle.pager_state.specs.World.{World, staged_limit, count_of}
use Rattle.pager_state.specs.Stores.{disk_of}
use Rattle.pager_state.specs.Commit.{checkpoint_frames}
use Rattle.pager_state.specs.Steps.{differing, commit_refusal, commit_answer}
use Rattle.pager_state.specs.declared.Job.TheVariants as job
use Rattle.pager_preview.specs.Preview.{preview_commit}
use Rattle.pager_preview.specs.Closed.{frames_after, longer_by, emptied_to}
use Rattle.pager_preview.specs.declared.Preview.{Preview}
use Rattle.history.specs.Calls.{Commit, refused_by}
use Rattle.history.specs.Run.{Run, whole}
use Rattle.history.specs.Guards.{Always, Accepted}

-- ---- any store

-- what is told of a store, made up or not, in numbers; whatever salt the commit is given
pub record Told (g : List ℕ) (w : World) (h : DbHeader) (salt : ℕ) : Type 0 where
  -- "refusals included": the commit's own, in its order, 14 with its page
  pub refused : (r : Refusal) → commit_refusal g w h ≡ Some r → preview_commit g w h salt ≡ Err r
  -- "A commit bringing frames to 99 doesn't fold": so many frames more, and the main file as it is ..
  pub kept : commit_refusal g w h ≡ None → frames_after (differing g w) w.pager.wal < checkpoint_frames
      → preview_commit g w h salt ≡ Ok (longer_by (differing g w) w.pager.wal w.pager.storage.len)
  -- .. "to 100 does": no frame, log length 32, the new page count's pages in the main file
  pub folded : commit_refusal g w h ≡ None → checkpoint_frames ≤ frames_after (differing g w) w.pager.wal
      → preview_commit g w h salt ≡ Ok (emptied_to (differing g w) (count_of h))

-- ---- histories

-- what p told of the commit is so in the run v behind it; r is the run before
pub record Foretold (p : Preview) (h : DbHeader) (r v : Run) : Type 0 where
  pub answer : commit_answer r.staging r.world h ≡ Ok p.answer
  pub rests : v.world.pager.job ≡ job.Idle
  pub frames : v.world.pager.wal.frame_count ≡ p.frame_count
  pub log_file : (disk_of v.world).log.len ≡ p.log_len
  pub main_file : (disk_of v.world).main.len ≡ p.main_len
  -- "whether it would fold": then no batch is committed any more, else those are that were and that waited
  pub batches : v.model.committed ≡ pick p.checkpointed [] (r.model.committed ++ r.model.waiting)

abbrev pub CommitsSo : Result Preview Refusal → DbHeader → ℕ → Run → Type 0
CommitsSo (Ok p) h salt r = Accepted (Commit h salt) r × Foretold p h r (whole (Commit h salt) r)
CommitsSo (Err x) h salt r = (refused_by (Commit h salt) r.world r.staging ≡ number x) × (whole (Commit h salt) r ≡ r)

pub record CommitPreview : Type 0 where
  pub told : (g : List ℕ) (w : World) (h : DbHeader) (salt : ℕ) → length w.pager.staged.pages ≡ staged_limit → Told g w h salt
  -- in any history, cuts and refused calls included: as it was told, so the commit does, whatever salt it is given
  pub foretold : Always (λ (r : Run). (h : DbHeader) (salt other : ℕ) → CommitsSo (preview_commit r.staging r.world h other) h salt r)
