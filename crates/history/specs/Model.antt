-- The model (document 01's plain book): what the store must come to, told of calls and of whole stores, never of files.
use Rattle.std.specs.Prelude.{Option, None, Some, List, [], ◌∷◌, ◌++◌, ℕ, leb, ltb, eqb}
use Rattle.le.specs.Choice.{pick}
use Rattle.page.specs.Page.{empty_table_page}
use Rattle.header.specs.declared.DbHeader.{DbHeader}
use Rattle.mvcc.specs.Batch.{Rec}
use Rattle.mvcc.specs.Seen.{commit_ts_of, records}
use Rattle.pager_state.specs.World.{count_of}
use Rattle.pager_state.specs.Stores.{Kind, Batched, CommitFrame, Emptied, Other}
use Rattle.pager_state.specs.Opening.{first_header}

-- "batches (commit time and records)"
pub record Batch : Type 0 where
  pub time : ℕ
  pub rows : List Rec

unfoldable pub batch_in : List ℕ → Batch
batch_in body = record { time = commit_ts_of body; rows = records body }

-- "It holds a header, the header given to the commit under way, pages by number, staged pages, waiting and sealed batches"
pub record Model : Type 0 where
  pub header : DbHeader
  pub given : DbHeader
  pub pages : ℕ → Option (List ℕ)
  pub staged : ℕ → Option (List ℕ)
  pub waiting : List Batch
  pub committed : List Batch

-- the first that is there
abbrev pub or_else : {A : Type 0} → Option A → Option A → Option A
or_else None y = y
or_else (Some a) y = Some a

abbrev pub nothing : ℕ → Option (List ℕ)
nothing n = None

-- "A page reads as staged, else as entered, else none"
unfoldable pub model_read : Model → ℕ → Option (List ℕ)
model_read b n = or_else (b.staged n) (b.pages n)

-- "It starts with what creation writes"
unfoldable pub first_model : Model
first_model =
    record {
      header = first_header;
      given = first_header;
      pages = λ (n : ℕ). pick (eqb n 1) (Some empty_table_page) None;
      staged = nothing;
      waiting = [];
      committed = [];
    }

-- ---- what calls do to it

-- a commit that is begun gives its header
abbrev pub model_header : DbHeader → Model → Model
model_header h b = record { header = b.header; given = h; pages = b.pages; staged = b.staged; waiting = b.waiting; committed = b.committed }

-- "Staging: that page is staged anew"
abbrev pub model_stage : ℕ → List ℕ → Model → Model
model_stage m bytes b =
    record {
      header = b.header;
      given = b.given;
      pages = b.pages;
      staged = λ (n : ℕ). pick (eqb n m) (Some bytes) (b.staged n);
      waiting = b.waiting;
      committed = b.committed;
    }

-- "A call that drops the staging ..: nothing is staged"
abbrev pub model_clear : Model → Model
model_clear b = record { header = b.header; given = b.given; pages = b.pages; staged = nothing; waiting = b.waiting; committed = b.committed }

-- "Clean opening: nothing is staged or waits"
abbrev pub model_open : Model → Model
model_open b = record { header = b.header; given = b.given; pages = b.pages; staged = nothing; waiting = []; committed = b.committed }

-- ---- what whole stores do to it

-- "Batch frame whole: the batch waits"
abbrev pub model_wait : Batch → Model → Model
model_wait x b =
    record {
      header = b.header;
      given = b.given;
      pages = b.pages;
      staged = b.staged;
      waiting = b.waiting ++ (x ∷ []);
      committed = b.committed;
    }

-- "the staged pages from 1 are entered, pages at or above the new count dropped"
unfoldable pub model_pages : Model → ℕ → Option (List ℕ)
model_pages b n = pick (ltb n (count_of b.given)) (pick (leb 1 n) (or_else (b.staged n) (b.pages n)) (b.pages n)) None

-- "Seal whole: the given header and the staged pages from 1 are entered, pages at or above the new count dropped, the staging emptied,
-- waiting batches sealed, in order"
abbrev pub model_commit : Model → Model
model_commit b =
    record { header = b.given; given = b.given; pages = model_pages b; staged = nothing; waiting = []; committed = b.committed ++ b.waiting }

-- "A fold's log length 32 whole: no batch waits or is sealed"
abbrev pub model_empty : Model → Model
model_empty b = record { header = b.header; given = b.given; pages = b.pages; staged = b.staged; waiting = []; committed = [] }

-- a store of a call that is lent the batch body `body`, where it is lent one
abbrev pub model_store : List ℕ → Kind → Model → Model
model_store body Batched b = model_wait (batch_in body) b
model_store body CommitFrame b = model_commit b
model_store body Emptied b = model_empty b
model_store body Other b = b

unfoldable pub model_stores : List ℕ → List Kind → Model → Model
model_stores body [] b = b
model_stores body (k ∷ ks) b = model_stores body ks (model_store body k b)
