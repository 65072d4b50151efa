-- Statements which show that the definitions and demand 3 are not empty: what is refused and what is not, what a commit, a checkpoint and an
-- opening come to. Each is proved in proofs/Guards.antt. Numbers are document 01's.
use Rattle.std.specs.Prelude.{Option, Some, Err, Ok, ◌≡◌, true, false, List, [], ◌∷◌, ◌++◌, ℕ, suc, ◌+◌, ◌*◌, ◌^◌, ◌≤◌, ◌<◌, length, replicate, ℤ, pos}
use Rattle.std.proofs.Common.{SFits}
use Rattle.std.specs.Int.{w64}
use Rattle.le.specs.Le.{Bytes}
use Rattle.page.specs.Page.{page_size}
use Rattle.refusal.specs.declared.Refusal.TheVariants as refusal
use Rattle.header.specs.declared.DbHeader.{DbHeader}
use Rattle.frame.specs.Frame.{frame_size}
use Rattle.mvcc.specs.Batch.{tombstone, encode_body}
use Rattle.mvcc.specs.Seen.{refusal_of, decodes}
use Rattle.wal.specs.Header.{header_size}
use Rattle.wal.specs.Recovery.{wal_area}
use Rattle.pager_state.specs.Commit.{checkpoint_frames}
use Rattle.pager_state.specs.World.{World, main_area_size, staging_area, staged_limit, page_limit, count_of, header_of, read_only, with_staged}
use Rattle.pager_state.specs.Overlay.{page_from, is_staged, frame_of, in_log, on_main, log_bytes, find_page, read_page}
use Rattle.pager_state.specs.Queries.{header}
use Rattle.pager_state.specs.Batches.{append_batch}
use Rattle.pager_state.specs.Opening.{first_header, create_fine}
use Rattle.pager_state.specs.Steps.{differing, commit_start, commit_answer, commit_world, step_fine, checkpoint_start, checkpoint_count, checkpoint_answer, checkpoint_world, on_store}
use Rattle.pager_state.specs.declared.AccessMode.TheVariants as mode
use Rattle.pager_state.specs.declared.Staged.{Staged}
use Rattle.pager_state.specs.declared.Job.TheVariants as job
use Rattle.pager_state.specs.declared.Pager.{Pager}
use Rattle.pager_state.specs.declared.CheckpointStart.TheVariants as checkpoint
use Rattle.history.specs.Model.{batch_in}
use Rattle.history.specs.Calls.{Lent, ReadMode, Call, Ask, Open, Stage, Append, Commit, Checkpoint, Words, refused_by}
use Rattle.history.specs.Run.{Run, whole, Attempt, Event, Whole, Cut, next, start}
use Rattle.history.specs.Demand3.{reading_at, walked, Sized, AllSized, AllTyped}

-- ---- a new store

-- what creation leaves
abbrev pub new_store : List ℕ → List ℕ → List ℕ → List ℕ → ℕ → World
new_store t l m g salt = (start t l m g salt).world

-- ---- LogFull comes exactly where the table says

-- not 13: "commit count 0 or above 1,024, version not 4..6"
pub record GoodHeader (h : DbHeader) : Type 0 where
  pub low : 1 ≤ count_of h
  pub high : count_of h ≤ page_limit
  pub oldest : 4 ≤ h.format_version
  pub newest : h.format_version ≤ 6

-- not 14: "a page, 1 or higher, from old count to below new count isn't staged"
abbrev pub Joined : World → DbHeader → Type 0
Joined w h = (n : ℕ) → 1 ≤ n → count_of (header_of w.pager) ≤ n → n < count_of h → is_staged w.pager.staged n ≡ true

-- not 1, of the table: what staged pages are compared with lies inside the log
abbrev pub Compared : World → Type 0
Compared w = (n : ℕ) → n < page_limit → is_staged w.pager.staged n ≡ true → in_log w.table n ≡ true → frame_of w.table n + frame_size ≤ w.pager.wal.len

-- the areas that a store is lent
abbrev pub areas_of : List ℕ → World → Lent
areas_of g w = record { table = w.table; staging = g; log = w.log; main = w.main }

-- of a commit's refusals 1, 9, 10, 13 and 14 none applies
pub record Unrefused (g : List ℕ) (w : World) (h : DbHeader) : Type 0 where
  pub areas : Sized (areas_of g w)
  pub log_file : w.pager.wal.len ≤ wal_area
  pub main_file : w.pager.storage.len ≤ main_area_size
  pub pages : count_of (header_of w.pager) ≤ page_limit
  pub compared : Compared w
  pub rests : w.pager.job ≡ job.Idle
  pub writes : read_only w.pager ≡ false
  pub header : GoodHeader h
  pub joined : Joined w h

-- 15: "length + 4,112 × frames to add is above 4,210,720"
abbrev pub Full : Pager → ℕ → Type 0
Full p n = wal_area < p.wal.len + frame_size * n

-- a commit adds its differing pages and the commit frame
unfoldable pub LogFullGuard : Type 0
LogFullGuard =
    (g : List ℕ) (w : World) (h : DbHeader)
    → (commit_start g w h ≡ Err refusal.LogFull → Unrefused g w h × Full w.pager (differing g w + 1))
    × (Unrefused g w h → Full w.pager (differing g w + 1) → commit_start g w h ≡ Err refusal.LogFull)

-- and it is begun exactly where no refusal applies
unfoldable pub BegunGuard : Type 0
BegunGuard =
    (g : List ℕ) (w : World) (h : DbHeader)
    → (commit_start g w h ≡ Ok tt → Unrefused g w h × (w.pager.wal.len + frame_size * (differing g w + 1) ≤ wal_area))
    × (Unrefused g w h → w.pager.wal.len + frame_size * (differing g w + 1) ≤ wal_area → commit_start g w h ≡ (Ok tt))

-- of a batch append's refusals 1, 2, 3, 9 and 10 none applies
pub record UnrefusedBatch (p : Pager) (l body : List ℕ) : Type 0 where
  pub log : length l ≡ wal_area
  pub log_file : p.wal.len ≤ wal_area
  pub page : length body ≤ page_size
  pub long : refusal_of body ≡ 2 → ⊥
  pub marked : refusal_of body ≡ 3 → ⊥
  pub rests : p.job ≡ job.Idle
  pub writes : read_only p ≡ false

-- a batch adds one frame
unfoldable pub BatchFullGuard : Type 0
BatchFullGuard =
    (p : Pager) (l body : List ℕ)
    → ((append_batch p l body).answer ≡ Err refusal.LogFull → UnrefusedBatch p l body × Full p 1)
    × (UnrefusedBatch p l body → Full p 1 → (append_batch p l body).answer ≡ Err refusal.LogFull)

-- ---- a commit in a new store is not refused

-- the store with these pages staged
abbrev pub with_slots : World → Staged → World
with_slots w s = on_store w (with_staged w.pager s)

-- with any slots and any staging area, if the joining pages are staged
unfoldable pub CommitGuard : Type 0
CommitGuard =
    (t l m g : List ℕ) (salt : ℕ) → create_fine t l m g ≡ true → (s : Staged) → length s.pages ≡ staged_limit → (h : DbHeader) → GoodHeader h
    → Joined (with_slots (new_store t l m g salt) s) h → (staging : List ℕ) → length staging ≡ staging_area
    → commit_start staging (with_slots (new_store t l m g salt) s) h ≡ Ok tt

-- ---- what a commit that is begun comes to

-- v is w with a log longer by so many frames, its header as it was, and nothing staged, at rest
pub record LongerBy (w v : World) (n : ℕ) : Type 0 where
  pub rests : v.pager.job ≡ job.Idle
  pub unstaged : v.pager.staged.count ≡ 0
  pub opening : v.pager.opening ≡ w.pager.opening
  pub header : v.pager.wal.header ≡ w.pager.wal.header
  pub log_file : v.pager.wal.len ≡ w.pager.wal.len + frame_size * n
  pub frames : v.pager.wal.frame_count ≡ w.pager.wal.frame_count + n

-- a store at rest whose log has its header alone
pub record Empty (v : World) : Type 0 where
  pub rests : v.pager.job ≡ job.Idle
  pub log_file : v.pager.wal.len ≡ header_size
  pub frames : v.pager.wal.frame_count ≡ 0
  pub none : (n : ℕ) → in_log v.table n ≡ false

-- "answer: number of differing pages"; "At 100 frames or more it then folds": "A commit bringing frames to 99 doesn't fold; to 100 does"
pub record Ends (g : List ℕ) (w : World) (h : DbHeader) (salt : ℕ) : Type 0 where
  pub answer : commit_answer g w h ≡ Ok (differing g w)
  pub below : w.pager.wal.frame_count + (differing g w + 1) < checkpoint_frames → LongerBy w (commit_world g w h salt) (differing g w + 1)
  pub above : checkpoint_frames ≤ w.pager.wal.frame_count + (differing g w + 1) → Empty (commit_world g w h salt)

-- in any store, made up or not, whose frame count does not wrap
unfoldable pub CommitEndsGuard : Type 0
CommitEndsGuard =
    (g : List ℕ) (w : World) (h : DbHeader) (salt : ℕ) → length w.pager.staged.pages ≡ staged_limit → w.pager.wal.frame_count ≤ 1024
    → commit_start g w h ≡ Ok tt → Ends g w h salt

-- with nothing staged in a new store: one frame, the commit frame
pub record CommittedAlone (g : List ℕ) (w : World) (h : DbHeader) (salt : ℕ) : Type 0 where
  pub begun : commit_start g w h ≡ Ok tt
  pub answer : commit_answer g w h ≡ Ok 0
  pub rests : (commit_world g w h salt).pager.job ≡ job.Idle
  pub log_file : (commit_world g w h salt).pager.wal.len ≡ header_size + frame_size
  pub frames : (commit_world g w h salt).pager.wal.frame_count ≡ 1

unfoldable pub EmptyCommitGuard : Type 0
EmptyCommitGuard =
    (t l m g : List ℕ) (salt : ℕ) → create_fine t l m g ≡ true → (h : DbHeader) → GoodHeader h → count_of h ≤ 2 → (next : ℕ)
    → CommittedAlone g (new_store t l m g salt) h next

-- ---- a checkpoint leaves log length 32 and its pages in the main file

-- v is the store that a checkpoint of w leaves: each page below the count that the log had is in the main file, and the main file's own stay;
-- so does the clock
pub record CheckpointedTo (w v : World) : Type 0 where
  pub empty : Empty v
  pub clock : v.pager.wal.header.clock_high_water ≡ w.pager.wal.header.clock_high_water
  pub staged : v.pager.staged ≡ w.pager.staged
  pub main_file : v.pager.storage.len ≡ page_size * count_of (header_of w.pager)
  pub brought : (n : ℕ) → 1 ≤ n → n < count_of (header_of w.pager) → in_log w.table n ≡ true
      → (page_from (page_size * n) v.main ≡ log_bytes w.table w.log n) × (on_main v.table n ≡ true)
  pub stayed : (n : ℕ) → 1 ≤ n → n < count_of (header_of w.pager) → in_log w.table n ≡ false → on_main w.table n ≡ true
      → page_size * suc n ≤ w.pager.storage.len → (page_from (page_size * n) v.main ≡ page_from (page_size * n) w.main) × (on_main v.table n ≡ true)

-- the frames that the table names lie inside the log
abbrev pub FramesInside : World → Type 0
FramesInside w = (n : ℕ) → n < page_limit → in_log w.table n ≡ true → frame_of w.table n + frame_size ≤ w.pager.wal.len

-- "It answers the pages written"
unfoldable pub CheckpointGuard : Type 0
CheckpointGuard =
    (g : List ℕ) (w : World) (salt : ℕ) → length w.pager.staged.pages ≡ staged_limit → FramesInside w → checkpoint_start g w ≡ (Ok checkpoint.Begun)
    → (checkpoint_answer g w ≡ Ok (checkpoint_count w)) × CheckpointedTo w (checkpoint_world g w salt)

-- ---- histories

-- where one stands after these events
unfoldable pub after : List Event → Run → Run
after [] r = r
after (e ∷ es) r = after es (next e r)

-- of every new store; of every history, wherever it stands
abbrev pub AtFirst : (Run → Type 0) → Type 0
AtFirst P = (t l m g : List ℕ) (salt : ℕ) → create_fine t l m g ≡ true → salt < 2 ^ 32 → P (start t l m g salt)

abbrev pub Always : (Run → Type 0) → Type 0
Always P = AtFirst (λ (r : Run). (es : List Event) → AllTyped es → P (after es r))

-- what the guards of commits and checkpoints ask, and more
abbrev pub Sound : Run → Type 0
Sound r = (length r.world.pager.staged.pages ≡ staged_limit) × (r.world.pager.job ≡ job.Idle → FramesInside r.world)

unfoldable pub SoundGuard : Type 0
SoundGuard = Always Sound

-- the call is not refused
abbrev pub Accepted : Call → Run → Type 0
Accepted c r = refused_by c r.world r.staging ≡ 0

-- refusal 1 of a commit is of the lengths alone: no table that the calls make is refused, whatever is part done
unfoldable pub TableGuard : Type 0
TableGuard = Always (λ (r : Run). (h : DbHeader) → step_fine r.staging r.world ≡ true → commit_start r.staging r.world h ≡ Err refusal.Area → ⊥)

-- a clean opening, read-write, in areas of the right lengths, is not, cut or no cut before it
unfoldable pub OpeningGuard : Type 0
OpeningGuard = Always (λ (r : Run). (lent : Lent) → Sized lent → Accepted (Open mode.ReadWrite lent) r)

-- ---- a committed header and a committed page read back

-- the header that a commit was given
unfoldable pub HeaderGuard : Type 0
HeaderGuard =
    Always (λ (r : Run).
    (h : DbHeader) (salt : ℕ) → Words h → salt < 2 ^ 32 → Accepted (Commit h salt) r → header (whole (Commit h salt) r).world.pager ≡ Ok h)

-- a page's reading: its bytes, or none
abbrev pub reading : Run → ℕ → Option (List ℕ)
reading r n = reading_at r.world r.staging (find_page r.world r.staging n)

-- at once, after a clean opening, after the power is lost there and in openings too, and after a checkpoint
pub record ReadsBack (r : Run) (n : ℕ) (x : List ℕ) : Type 0 where
  pub now : reading r n ≡ Some x
  pub bytes : read_page r.world r.staging n ≡ x
  pub opens : (lent : Lent) → Sized lent → Accepted (Open mode.ReadWrite lent) r
  pub opened : (lent : Lent) → Sized lent → reading (whole (Open mode.ReadWrite lent) r) n ≡ Some x
  pub lost : (attempts : List Attempt) → AllSized attempts → (lent : Lent) → Sized lent → reading (next (Cut (Ask ReadMode) 0 0 attempts lent) r) n ≡ Some x
  pub checkpointed : (salt : ℕ) → salt < 2 ^ 32 → Accepted (Checkpoint salt) r → reading (whole (Checkpoint salt) r) n ≡ Some x

-- the store with the page staged and then committed
abbrev pub committed_page : ℕ → List ℕ → DbHeader → ℕ → Run → Run
committed_page n bytes h salt r = whole (Commit h salt) (whole (Stage n bytes) r)

-- in any history, a page below the new count
unfoldable pub PageGuard : Type 0
PageGuard =
    Always (λ (r : Run).
    (n : ℕ) (bytes : List ℕ) (h : DbHeader) (salt : ℕ) → Bytes bytes → Words h → salt < 2 ^ 32 → Accepted (Stage n bytes) r
    → Accepted (Commit h salt) (whole (Stage n bytes) r) → 1 ≤ n → n < count_of h → ReadsBack (committed_page n bytes h salt r) n bytes)

-- in a new store neither is refused, nor is a checkpoint behind them, which leaves the page in the main file
pub record Keeps (r : Run) (bytes : List ℕ) (h : DbHeader) (salt : ℕ) : Type 0 where
  pub staged : Accepted (Stage 1 bytes) r
  pub committed : Accepted (Commit h salt) (whole (Stage 1 bytes) r)
  pub reads : ReadsBack (committed_page 1 bytes h salt r) 1 bytes
  pub begins : checkpoint_start (committed_page 1 bytes h salt r).staging (committed_page 1 bytes h salt r).world ≡ (Ok checkpoint.Begun)
  pub checkpointed : (next : ℕ) → next < 2 ^ 32 → page_from page_size (whole (Checkpoint next) (committed_page 1 bytes h salt r)).world.main ≡ bytes

unfoldable pub NewPageGuard : Type 0
NewPageGuard =
    AtFirst (λ (r : Run).
    (bytes : List ℕ) (h : DbHeader) (salt : ℕ) → length bytes ≡ page_size → Bytes bytes → Words h → GoodHeader h → count_of h ≡ 2 → salt < 2 ^ 32
    → Keeps r bytes h salt)

-- ---- a batch that is appended and committed is returned

-- the store with the batch appended and then a commit
abbrev pub committed_batch : List ℕ → DbHeader → ℕ → Run → Run
committed_batch body h salt r = whole (Commit h salt) (whole (Append body) r)

-- by the model, and by a clean opening; unless the commit brings on a checkpoint
pub record Returned (r : Run) (body : List ℕ) (h : DbHeader) (salt : ℕ) : Type 0 where
  pub batches : (committed_batch body h salt r).model.committed ≡ r.model.committed ++ (r.model.waiting ++ (batch_in body ∷ []))
  pub opened : (lent : Lent) → Sized lent
      → walked 1025 (whole (Open mode.ReadWrite lent) (committed_batch body h salt r)).world 0 ≡ r.model.committed ++ (r.model.waiting ++ (batch_in body ∷ []))

-- to so many frames a commit brings the log
abbrev pub frames_after : Run → ℕ
frames_after r = r.world.pager.wal.frame_count + (differing r.staging r.world + 1)

-- in any history
unfoldable pub BatchGuard : Type 0
BatchGuard =
    Always (λ (r : Run).
    (body : List ℕ) (h : DbHeader) (salt : ℕ) → Bytes body → Words h → salt < 2 ^ 32 → Accepted (Append body) r
    → Accepted (Commit h salt) (whole (Append body) r) → frames_after (whole (Append body) r) < checkpoint_frames → Returned r body h salt)

-- in a new store neither is refused, and this batch is all
pub record Recovers (r : Run) (body : List ℕ) (h : DbHeader) (salt : ℕ) : Type 0 where
  pub appended : Accepted (Append body) r
  pub committed : Accepted (Commit h salt) (whole (Append body) r)
  pub batches : (committed_batch body h salt r).model.committed ≡ batch_in body ∷ []
  pub opened : (lent : Lent) → Sized lent → walked 1025 (whole (Open mode.ReadWrite lent) (committed_batch body h salt r)).world 0 ≡ batch_in body ∷ []

unfoldable pub NewBatchGuard : Type 0
NewBatchGuard =
    AtFirst (λ (r : Run).
    (body : List ℕ) (h : DbHeader) (salt : ℕ) → length body ≤ page_size → Bytes body → decodes body ≡ true → Words h → GoodHeader h → count_of h ≤ 2
    → salt < 2 ^ 32 → Recovers r body h salt)

-- 1,024 batches fill a log: up to 1,023 of them leave room for a commit with nothing staged, which from 99 of them on brings on a checkpoint
pub record Filled (r : Run) (body : List ℕ) (h : DbHeader) (k : ℕ) : Type 0 where
  pub log_file : r.world.pager.wal.len ≡ header_size + frame_size * k
  pub longer : k < 99 → (salt : ℕ) → LongerBy r.world (commit_world r.staging r.world h salt) 1
  pub checkpointed : 99 ≤ k → k < 1024 → (salt : ℕ) → Empty (commit_world r.staging r.world h salt)
  pub room : k < 1024 → commit_start r.staging r.world h ≡ Ok tt
  pub full : k ≡ 1024 → commit_start r.staging r.world h ≡ Err refusal.LogFull
  pub full_batch : k ≡ 1024 → (append_batch r.world.pager r.world.log body).answer ≡ Err refusal.LogFull

unfoldable pub FilledGuard : Type 0
FilledGuard =
    AtFirst (λ (r : Run).
    (body : List ℕ) (h : DbHeader) (k : ℕ) → length body ≤ page_size → Bytes body → decodes body ≡ true → GoodHeader h → count_of h ≤ 2 → k ≤ 1024
    → Filled (after (replicate k (Whole (Append body))) r) body h k)

-- there are such bodies: at any time, the deletion of any row of the table with the empty name
pub record Body (time : ℕ) (row : ℤ) (body : List ℕ) : Type 0 where
  pub long : length body ≡ page_size
  pub bytes : Bytes body
  pub decoded : decodes body ≡ true
  pub says : batch_in body ≡ record { time = time; rows = tombstone [] row ∷ [] }

unfoldable pub BodyGuard : Type 0
BodyGuard = (time : ℕ) (row : ℤ) → time < 2 ^ 64 → SFits w64 row → Body time row (encode_body time (tombstone [] row ∷ []))

-- ---- what the guards ask can be met

-- so many zeros
unfoldable pub zeros : ℕ → List ℕ
zeros n = replicate n 0

unfoldable pub zero_areas : Lent
zero_areas = record { table = zeros page_limit; staging = zeros staging_area; log = zeros wal_area; main = zeros main_area_size }

-- by areas of zeros, the header that creation writes, a page of zeros and the row 0
pub record Met : Type 0 where
  pub areas : create_fine zero_areas.table zero_areas.log zero_areas.main zero_areas.staging ≡ true
  pub lent : Sized zero_areas
  pub good : GoodHeader first_header
  pub words : Words first_header
  pub two : count_of first_header ≡ 2
  pub long : length (zeros page_size) ≡ page_size
  pub bytes : Bytes (zeros page_size)
  pub row : SFits w64 (pos 0)
