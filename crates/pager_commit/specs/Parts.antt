-- What the private functions of a commit promise each other. g is the staging area, t the page table and l the log's area.
use Rattle.std.specs.Prelude.{Ok, Result, ◌≡◌, Bool, true, List, [], ℕ, ◌+◌, ◌*◌, ◌≤◌, length}
use Rattle.refusal.specs.declared.Refusal.{Refusal}
use Rattle.le.specs.Choice.{pick}
use Rattle.page.specs.Page.{page_size}
use Rattle.header.specs.Header.{encode_header}
use Rattle.header.specs.declared.DbHeader.{DbHeader}
use Rattle.frame.specs.Frame.{frame_size, encode_frame}
use Rattle.wal.specs.Recovery.{wal_area}
use Rattle.wal.specs.declared.Wal.{Wal}
use Rattle.pager_state.specs.World.{World, world, page_limit, count_of, busy_with, with_job, with_wal}
use Rattle.pager_state.specs.Overlay.{page_from}
use Rattle.pager_state.specs.Pages.{pages_from, differs}
use Rattle.pager_state.specs.Steps.{table_fits, step_fine, steps, on_store}
use Rattle.pager_state.specs.declared.FileKind.TheVariants as file
use Rattle.pager_state.specs.declared.Job.{Job}
use Rattle.pager_state.specs.declared.Job.TheVariants as job
use Rattle.pager_state.specs.declared.Pager.{Pager}
use Rattle.pager_state.specs.declared.Place.{Place}
use Rattle.pager_state.specs.declared.Step.TheVariants as step
use Rattle.pager_state.specs.declared.Step.{Step}
use Rattle.pager_differing.specs.Differing.{is_in, Marks}
use Rattle.pager_differing.specs.declared.Slot.{Slot}

-- ---- one store

-- the page table and the log's area have their lengths
pub record Lengths (t l : List ℕ) : Type 0 where
  pub table : length t ≡ page_limit
  pub log : length l ≡ wal_area

-- the frame of a slot's page, and the commit frame, for the log v
abbrev pub slot_frame : Wal → Slot → List ℕ → List ℕ
slot_frame v s g = encode_frame s.page 0 v.header.salt (page_from (page_size * s.index) g)

abbrev pub commit_frame_bytes : Wal → DbHeader → List ℕ
commit_frame_bytes v h = encode_frame 0 (count_of h) v.header.salt (encode_header h)

-- a frame's place at the log's length
abbrev pub log_place : Wal → Bool → Place
log_place v flush = record { file = file.Log; at = v.len; len = frame_size; flush = flush }

-- what a step that stored the commit frame answers, by the job that is left
abbrev pub commit_frame_answer : Job → Place → ℕ → Result Step Refusal
commit_frame_answer j p answer = pick (busy_with j) (Ok (step.Stored p)) (Ok (step.Last p answer))

-- ---- all stores up to the commit frame

-- how many pages are marked
abbrev pub marked_pages : List ℕ → ℕ
marked_pages marks = length (pages_from (is_in marks) 0)

-- their frames and the commit frame have room
abbrev pub HasRoomFor : Wal → List ℕ → Type 0
HasRoomFor v marks = v.len + frame_size * (marked_pages marks + 1) ≤ wal_area

-- what is known of a store whose commit was begun, and its marks
pub record Begun (g : List ℕ) (w : World) (marks : List ℕ) : Type 0 where
  pub right : step_fine g w ≡ true
  pub before : table_fits w ≡ true
  pub marked : Marks (differs g w) w.pager.staged marks

-- the store with a commit that has looked at the pages in front of `page`
abbrev pub committing : DbHeader → ℕ → ℕ → ℕ → World → World
committing h salt answer page w = on_store w (with_job w.pager (job.Commit h salt page answer))

-- k steps of a commit begun on w come to v, and the commit frame is next
pub record AtCommitFrame (g : List ℕ) (k : ℕ) (w v : World) : Type 0 where
  pub page : ℕ
  pub none : pages_from (differs g v) page ≡ []
  pub same : (h : DbHeader) (salt answer : ℕ) → committing h salt answer page v ≡ steps g k (committing h salt answer 0 w)

-- storing the marked pages' frames, the log u first and v behind, does that to every store with this log; m is the main file's area
abbrev pub FramesStored : List ℕ → List ℕ → Wal → List ℕ → List ℕ → Wal → List ℕ → List ℕ → Type 0
FramesStored marks g u t l v t' l' =
    (p : Pager) (m : List ℕ) → p.wal ≡ u → Begun g (world p t l m) marks
    → AtCommitFrame g (marked_pages marks) (world p t l m) (world (with_wal p v) t' l' m)

-- the store q is what the frames and the commit frame leave of the store p
abbrev pub RunToCommitFrame : List ℕ → List ℕ → DbHeader → ℕ → ℕ → Pager → List ℕ → List ℕ → Pager → List ℕ → List ℕ → Type 0
RunToCommitFrame marks g h salt answer p t l q t' l' =
    (m : List ℕ) → Begun g (world p t l m) marks
    → world q t' l' m ≡ steps g (marked_pages marks + 1) (committing h salt answer 0 (world p t l m))
