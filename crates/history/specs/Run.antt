-- A history as it runs: each call is the definition that its contract cites, on the very records, and is cut after any stored byte.
use Rattle.std.specs.Prelude.{List, [], ◌∷◌, ◌++◌, map, ℕ, ◌+◌, eqb, length, take, drop}
use Rattle.le.specs.Choice.{pick}
use Rattle.wal.specs.Header.{header_size}
use Rattle.pager_state.specs.World.{World, world}
use Rattle.pager_state.specs.Stores.{Disk, content, disk_of, Kind, Batched, CommitFrame, Emptied, Other, Act, Put, SetLen, kind_of, stored, cut_all, whole_of}
use Rattle.pager_state.specs.Opening.{open_stores, created_pager, create_table, create_log, create_main}
use Rattle.pager_state.specs.declared.AccessMode.TheVariants as mode
use Rattle.pager_state.specs.Opened.{Opens}
use Rattle.history.specs.Model.{Model, model_open, first_model, model_stores}
use Rattle.history.specs.Calls.{Lent, Call, cleanly, read_into, opening, opened_world, refused_by, stores_of, world_after, staging_after, model_first, body_lent}

-- ---- where a history stands

pub record Run : Type 0 where
  pub world : World
  pub staging : List ℕ
  pub model : Model
  pub kept : List ℕ  -- the committed log bytes, as they lay when their commit frame became whole

-- ---- "Sealed log bytes: from 32 to the last whole seal's end, until a fold's log length 32"

-- after a whole store; d are the files then. "no sealed log byte alters between folds": the bytes committed before stay in front, and a commit frame
-- adds those up to its end
abbrev pub kept_by : Act → Disk → List ℕ → List ℕ
kept_by (Put CommitFrame f at bs flush) d z = z ++ drop (header_size + length z) (take (at + length bs) (content d.log))
kept_by (Put Batched f at bs flush) d z = z
kept_by (Put Emptied f at bs flush) d z = []
kept_by (Put Other f at bs flush) d z = z
kept_by (SetLen CommitFrame f n flush) d z = z
kept_by (SetLen Batched f n flush) d z = z
kept_by (SetLen Emptied f n flush) d z = []
kept_by (SetLen Other f n flush) d z = z

unfoldable pub kept_after : List Act → Disk → List ℕ → List ℕ
kept_after [] d z = z
kept_after (a ∷ acts) d z = kept_after acts (stored a d) (kept_by a (stored a d) z)

-- ---- a call that is not cut

abbrev pub kinds : List Act → List Kind
kinds acts = map kind_of acts

-- a refused call's own definitions leave store and areas as they were; the model is told of no refused call
unfoldable pub whole : Call → Run → Run
whole c r =
    let acts = stores_of c r.world r.staging in
    let taken = eqb (refused_by c r.world r.staging) 0 in
    record {
      world = world_after c r.world r.staging;
      staging = staging_after c r.world r.staging;
      model = pick taken (model_stores (body_lent c) (kinds acts) (model_first c r.model)) r.model;
      kept = pick taken (kept_after acts (disk_of r.world) r.kept) r.kept;
    }

-- ---- a call that is cut: the open store is lost, the files, the model and the committed bytes are left

pub record Left : Type 0 where
  pub disk : Disk
  pub model : Model
  pub kept : List ℕ

-- after j whole stores and k bytes of the next
unfoldable pub cut_call : Call → ℕ → ℕ → Run → Left
cut_call c j k r =
    let acts = stores_of c r.world r.staging in
    let d = disk_of r.world in
    pick (eqb (refused_by c r.world r.staging) 0)
    (record {
      disk = cut_all acts j k d;
      model = model_stores (body_lent c) (kinds (whole_of acts j k)) (model_first c r.model);
      kept = kept_after (whole_of acts j k) d r.kept;
    })
    (record { disk = d; model = r.model; kept = r.kept })

-- "each cut followed by a clean opening", read-write, in areas of the right lengths; it may itself be cut after so many stored bytes
pub record Attempt : Type 0 where
  pub lent : Lent
  pub bytes : ℕ

unfoldable pub cut_opening : Attempt → Left → Left
cut_opening a x =
    let d = read_into a.lent x.disk in
    let acts = open_stores (cleanly mode.ReadWrite) d in
    record {
      disk = cut_all acts 0 a.bytes d;
      model = model_stores [] (kinds (whole_of acts 0 a.bytes)) (model_open x.model);
      kept = kept_after (whole_of acts 0 a.bytes) d x.kept;
    }

unfoldable pub cut_openings : List Attempt → Left → Left
cut_openings [] x = x
cut_openings (a ∷ rest) x = cut_openings rest (cut_opening a x)

-- what the opening that is not cut answers
unfoldable pub reopening : Lent → Left → Opens
reopening lent x = opening mode.ReadWrite lent x.disk

-- and where the history then stands; w is the store that was lost
unfoldable pub reopened : Lent → World → Left → Run
reopened lent w x =
    let d = read_into lent x.disk in
    record {
      world = opened_world mode.ReadWrite lent x.disk w;
      staging = lent.staging;
      model = model_stores [] (kinds (open_stores (cleanly mode.ReadWrite) d)) (model_open x.model);
      kept = kept_after (open_stores (cleanly mode.ReadWrite) d) d x.kept;
    }

-- ---- events

-- `Cut c j k as lent`: the power is cut after j of the call's stores and k bytes of the next; then come openings that are cut too, and one that is not
pub data Event : Type 0 where
  Whole : Call → Event
  Cut : Call → ℕ → ℕ → List Attempt → Lent → Event

unfoldable pub next : Event → Run → Run
next (Whole c) r = whole c r
next (Cut c j k attempts lent) r = reopened lent r.world (cut_openings attempts (cut_call c j k r))

-- "from a newly created store", in areas that had any bytes
unfoldable pub start : List ℕ → List ℕ → List ℕ → List ℕ → ℕ → Run
start t l m g salt =
    record {
      world = world (created_pager salt) (create_table t l m g) (create_log t l m g salt) (create_main t l m g salt);
      staging = g;
      model = first_model;
      kept = [];
    }
