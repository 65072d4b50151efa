-- The calls of a history: "any list of pager calls but creation and plain openings, refused ones included", and the table of what each does.
use Rattle.std.specs.Prelude.{Bool, true, false, List, [], ◌∷◌, ◌++◌, ℕ, ◌<◌, ◌^◌, eqb, take, drop}
use Rattle.le.specs.Le.{Bytes}
use Rattle.le.specs.Choice.{pick}
use Rattle.header.specs.declared.DbHeader.{DbHeader}
use Rattle.refusal.specs.Refusal.{number_of}
use Rattle.pager_state.specs.World.{World, world, busy, busy_refusal}
use Rattle.pager_state.specs.Overlay.{read_refusal}
use Rattle.pager_state.specs.Staging.{stage_refusal, stage_page, stage_after, clear_staged}
use Rattle.pager_state.specs.Queries.{observe_clock}
use Rattle.pager_state.specs.Batches.{append_refusal, batch_frame, append_batch, append_after, recovered_refusal}
use Rattle.pager_state.specs.Stores.{File, Disk, content, disk_of, Batched, Act, Put}
use Rattle.pager_state.specs.Opening.{How, open_pager, open_refusal, open_stores, open_table, open_log_area}
use Rattle.pager_state.specs.Steps.{commit_refusal, begin_commit, checkpoint_refusal, begin_checkpoint, todo, step_answer, stepped, step_refusal, on_store, commit_world, checkpoint_world}
use Rattle.pager_state.specs.declared.AccessMode.{AccessMode}
use Rattle.pager_state.specs.declared.FileKind.TheVariants as file
use Rattle.pager_state.specs.declared.Pager.{Pager}
use Rattle.pager_state.specs.Opened.{Opens}
use Rattle.pager_state.specs.Opened as opened
use Rattle.history.specs.Model.{Model, model_header, model_stage, model_clear, model_open}

-- the areas lent to an opening, with whatever bytes they had; both files are read into them
pub record Lent : Type 0 where
  pub table : List ℕ
  pub staging : List ℕ
  pub log : List ℕ
  pub main : List ℕ

-- "read": the calls that only answer
pub data Query : Type 0 where
  ReadHeader : Query
  ReadMode : Query
  ReadClock : Query
  ReadPage : ℕ → Query
  ReadBatch : ℕ → Query

pub data Call : Type 0 where
  Ask : Query → Call
  Open : AccessMode → Lent → Call  -- a clean opening that is told that the log exists
  Stage : ℕ → List ℕ → Call
  Clear : Call
  Append : List ℕ → Call
  Observe : ℕ → Call
  Commit : DbHeader → ℕ → Call
  Checkpoint : ℕ → Call
  BeginCommit : DbHeader → ℕ → Call
  BeginCheckpoint : ℕ → Call
  Step : Call

-- ---- openings

-- "told that the log exists"; "a clean one"
abbrev pub cleanly : AccessMode → How
cleanly m = record { clean = true; access = m; exists = true; salt = 0 }

-- "Each opening is given both files as they lie": a file read into an area that had any bytes
abbrev pub file_read_into : List ℕ → File → File
file_read_into area f = record { area = content f ++ drop f.len area; len = f.len }

abbrev pub read_into : Lent → Disk → Disk
read_into lent d = record { main = file_read_into lent.main d.main; log = file_read_into lent.log d.log }

-- what one answers
abbrev pub opening : AccessMode → Lent → Disk → Opens
opening m lent d = open_pager (cleanly m) lent.table (read_into lent d) lent.staging

-- the store that it gives; a refusal leaves the one before
abbrev pub opened_or : Opens → World → List ℕ → List ℕ → List ℕ → World
opened_or (opened.Opened p) w t l m = world p t l m
opened_or (opened.Refused r) w t l m = w

unfoldable pub opened_world : AccessMode → Lent → Disk → World → World
opened_world m lent d w =
    let x = read_into lent d in
    let t = lent.table in
    let g = lent.staging in
    opened_or (opening m lent d) w (open_table (cleanly m) t x g) (open_log_area (cleanly m) t x g) x.main.area

-- ---- the table

-- what a call does to a store w with staging area g and to the model
pub record Effect : Type 1 where
  pub refusal : World → List ℕ → ℕ  -- its number; 0: not refused
  pub stores : World → List ℕ → List Act  -- "the stores that this document gives the call"
  pub world : World → List ℕ → World  -- the store after it
  pub staging : World → List ℕ → List ℕ  -- the staging area after it
  pub model : Model → Model  -- "Staging", "Clean opening", the header that a commit is given: the model before the stores
  pub body : List ℕ  -- the batch body that it is lent
  pub opens : Bool  -- whether it is an opening
  pub typed : Type 0  -- what the types of its arguments let through

-- "Idle, read, clock: no change"; of a batch append and a checkpoint the model hears the stores alone
abbrev pub unchanged : Model → Model
unchanged b = b

-- a call that is no opening, is lent no batch and leaves the staging area
abbrev pub storing : (World → List ℕ → ℕ) → (World → List ℕ → List Act) → (World → List ℕ → World) → (Model → Model) → Type 0 → Effect
storing refusal stores world model typed =
    record {
      refusal = refusal;
      stores = stores;
      world = world;
      staging = λ w g. g;
      model = model;
      body = [];
      opens = false;
      typed = typed;
    }

-- one that changes the open store alone
abbrev pub unstored : (World → List ℕ → ℕ) → (World → List ℕ → Pager) → (Model → Model) → Type 0 → Effect
unstored refusal pager model typed = storing refusal (λ w g. []) (λ w g. on_store w (pager w g)) model typed

-- one that changes nothing
abbrev pub query : (World → List ℕ → ℕ) → Effect
query refusal = storing refusal (λ w g. []) (λ w g. w) unchanged (Unit {0})

-- the words of a header that a commit is given
pub record Words (h : DbHeader) : Type 0 where
  pub count : h.page_count < 2 ^ 32
  pub root : h.schema_root_page < 2 ^ 32
  pub version : h.format_version < 2 ^ 16
  pub freelist : h.freelist_head < 2 ^ 32

abbrev pub query_refusal : Query → World → List ℕ → ℕ
query_refusal ReadHeader w g = number_of (busy_refusal w.pager)
query_refusal ReadMode w g = number_of (busy_refusal w.pager)
query_refusal ReadClock w g = number_of (busy_refusal w.pager)
query_refusal (ReadPage n) w g = number_of (read_refusal w g)
query_refusal (ReadBatch i) w g = number_of (recovered_refusal w.pager w.log)

abbrev pub effect : Call → Effect
effect (Ask q) = query (query_refusal q)
effect (Open m lent) =
    record {
      refusal = λ w g. open_refusal (opening m lent (disk_of w));
      stores = λ w g. open_stores (cleanly m) (read_into lent (disk_of w));
      world = λ w g. opened_world m lent (disk_of w) w;
      -- it is lent another, unless it is refused
      staging = λ w g. pick (eqb (open_refusal (opening m lent (disk_of w))) 0) lent.staging g;
      model = model_open;
      body = [];
      opens = true;
      typed = Unit {0};
    }
effect (Stage n bytes) =
    record {
      refusal = λ w g. number_of (stage_refusal (busy w.pager) w.pager.staged g n bytes);
      stores = λ w g. [];
      world = λ w g. on_store w (stage_page w.pager g n bytes).pager;
      staging = λ w g. stage_after w.pager g n bytes;
      model = model_stage n bytes;
      body = [];
      opens = false;
      typed = Bytes bytes;
    }
effect Clear = unstored (λ w g. number_of (busy_refusal w.pager)) (λ w g. (clear_staged w.pager).pager) model_clear (Unit {0})
effect (Append body) =
    record {
      refusal = λ w g. number_of (append_refusal w.pager w.log body);
      stores = λ w g. Put Batched file.Log w.pager.wal.len (batch_frame w.pager body) false ∷ [];
      world = λ w g. world (append_batch w.pager w.log body).pager w.table (append_after w.pager w.log body) w.main;
      staging = λ w g. g;
      model = unchanged;
      body = body;
      opens = false;
      typed = Bytes body;
    }
effect (Observe c) = unstored (λ w g. number_of (busy_refusal w.pager)) (λ w g. (observe_clock w.pager c).pager) unchanged (c < 2 ^ 64)
effect (Commit h salt) =
    storing (λ w g. number_of (commit_refusal g w h)) (λ w g. todo g (on_store w (begin_commit g w h salt).pager)) (λ w g. commit_world g w h salt) (model_header h)
    (Words h × (salt < 2 ^ 32))
effect (Checkpoint salt) =
    storing (λ w g. number_of (checkpoint_refusal g w)) (λ w g. todo g (on_store w (begin_checkpoint g w salt).pager)) (λ w g. checkpoint_world g w salt) unchanged
    (salt < 2 ^ 32)
effect (BeginCommit h salt) =
    unstored (λ w g. number_of (commit_refusal g w h)) (λ w g. (begin_commit g w h salt).pager) (model_header h) (Words h × (salt < 2 ^ 32))
effect (BeginCheckpoint salt) =
    unstored (λ w g. number_of (checkpoint_refusal g w)) (λ w g. (begin_checkpoint g w salt).pager) unchanged (salt < 2 ^ 32)
effect Step = storing (λ w g. step_refusal (step_answer g w)) (λ w g. take 1 (todo g w)) (λ w g. stepped g w) unchanged (Unit {0})

-- ---- its columns

unfoldable pub refused_by : Call → World → List ℕ → ℕ
refused_by c w g = (effect c).refusal w g

unfoldable pub stores_of : Call → World → List ℕ → List Act
stores_of c w g = (effect c).stores w g

unfoldable pub world_after : Call → World → List ℕ → World
world_after c w g = (effect c).world w g

abbrev pub staging_after : Call → World → List ℕ → List ℕ
staging_after c w g = (effect c).staging w g

abbrev pub model_first : Call → Model → Model
model_first c b = (effect c).model b

abbrev pub body_lent : Call → List ℕ
body_lent c = (effect c).body
