-- The stores of a commit, each in the world that those before it leave: the differing pages, "ascending, then page 0 as seal, flush", and
-- the checkpoint that it brings on. g is the staging area.
use Rattle.std.specs.Prelude.{true, false, List, [], ◌∷◌, ℕ, suc, leb, set}
use Rattle.le.specs.Choice.{pick}
use Rattle.header.specs.Header.{encode_header}
use Rattle.header.specs.declared.DbHeader.{DbHeader}
use Rattle.frame.specs.Frame.{encode_frame}
use Rattle.wal.specs.Write.{with_frame}
use Rattle.wal.specs.declared.Wal.{Wal}
use Rattle.pager_state.specs.World.{World, count_of, with_job, with_wal, none_staged}
use Rattle.pager_state.specs.Overlay.{staged_bytes, on_main, entry}
use Rattle.pager_state.specs.Stores.{disk_of, Act, Put, CommitFrame, Other, stored}
use Rattle.pager_state.specs.Pages.{pages_from, differs}
use Rattle.pager_state.specs.Checkpoint.{checkpoint_todo}
use Rattle.pager_state.specs.declared.FileKind.TheVariants as file
use Rattle.pager_state.specs.declared.Job.{Job}
use Rattle.pager_state.specs.declared.Job.TheVariants as job
use Rattle.pager_state.specs.declared.Pager.{Pager}

abbrev pub salt_of : World → ℕ
salt_of w = w.pager.wal.header.salt

-- the table once page n's frame stands at `at`
abbrev pub with_entry : List ℕ → ℕ → ℕ → List ℕ
with_entry t n at = set t n (entry at (on_main t n))

-- ---- a page's frame

abbrev pub frame_act : List ℕ → World → ℕ → Act
frame_act g w n = Put Other file.Log w.pager.wal.len (encode_frame n 0 (salt_of w) (staged_bytes w.pager.staged g n)) false

unfoldable pub page_frame_stored : List ℕ → DbHeader → ℕ → ℕ → ℕ → World → World
page_frame_stored g h salt answer n w =
    record {
      pager = with_job (with_wal w.pager (with_frame w.pager.wal 0)) (job.Commit h salt (suc n) answer);
      table = with_entry w.table n w.pager.wal.len;
      log = (stored (frame_act g w n) (disk_of w)).log.area;
      main = w.main;
    }

-- ---- "page 0 as seal"

abbrev pub commit_frame_act : DbHeader → World → Act
commit_frame_act h w = Put CommitFrame file.Log w.pager.wal.len (encode_frame 0 (count_of h) (salt_of w) (encode_header h)) true

-- "At 100 frames or more it then folds"
abbrev pub checkpoint_frames : ℕ
checkpoint_frames = 100

abbrev pub job_after : Wal → ℕ → ℕ → Job
job_after v salt answer = pick (leb checkpoint_frames v.frame_count) (job.Checkpoint salt 0 answer) job.Idle

-- the store once the commit frame stands: the new header counts, "the staging is emptied"; v is the log then
abbrev pub committed_with : DbHeader → ℕ → ℕ → Wal → Pager → Pager
committed_with h salt answer v p =
    record {
      current_header = h;
      wal = v;
      recovered = p.recovered;
      storage = p.storage;
      staged = none_staged p.staged;
      job = job_after v salt answer;
      opening = p.opening;
    }

unfoldable pub committed_pager : DbHeader → ℕ → ℕ → Pager → Pager
committed_pager h salt answer p = committed_with h salt answer (with_frame p.wal (count_of h)) p

unfoldable pub committed_world : DbHeader → ℕ → ℕ → World → World
committed_world h salt answer w =
    record {
      pager = committed_pager h salt answer w.pager;
      table = with_entry w.table 0 w.pager.wal.len;
      log = (stored (commit_frame_act h w) (disk_of w)).log.area;
      main = w.main;
    }

-- ---- the stores that are left, and the world after the first of them

-- "The fold that a commit brings on belongs to the commit's stores"
unfoldable pub frames_todo : List ℕ → DbHeader → ℕ → ℕ → List ℕ → World → List Act
frames_todo g h salt answer [] w =
    let v = committed_world h salt answer w in
    commit_frame_act h w ∷ checkpoint_todo v.pager.job v
frames_todo g h salt answer (n ∷ ns) w = frame_act g w n ∷ frames_todo g h salt answer ns (page_frame_stored g h salt answer n w)

abbrev pub frames_advance : List ℕ → DbHeader → ℕ → ℕ → List ℕ → World → World
frames_advance g h salt answer [] w = committed_world h salt answer w
frames_advance g h salt answer (n ∷ ns) w = page_frame_stored g h salt answer n w

-- of a commit that is part done; none of another job
unfoldable pub commit_todo : List ℕ → Job → World → List Act
commit_todo g job.Idle w = []
commit_todo g (job.Commit h salt page answer) w = frames_todo g h salt answer (pages_from (differs g w) page) w
commit_todo g (job.Checkpoint salt page answer) w = []
commit_todo g (job.MainLength salt answer) w = []
commit_todo g (job.LogLength salt answer) w = []
commit_todo g (job.LogHeader salt answer) w = []

unfoldable pub commit_advance : List ℕ → Job → World → World
commit_advance g job.Idle w = w
commit_advance g (job.Commit h salt page answer) w = frames_advance g h salt answer (pages_from (differs g w) page) w
commit_advance g (job.Checkpoint salt page answer) w = w
commit_advance g (job.MainLength salt answer) w = w
commit_advance g (job.LogLength salt answer) w = w
commit_advance g (job.LogHeader salt answer) w = w
