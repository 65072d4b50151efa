-- Document 02, P14: "how many items it read: a record counts after its row id if a tombstone, after its column count if present; a column
-- after its value. The count is that of the format's definition, refused bodies included up to the refusal. Show that no 4,096-byte body
-- gives more than 1,356, and write one that gives exactly that." `batch-items` of proofs/BatchItems.antt proves it.
-- The count is `batch_items` of mvcc. A batch of 1,356 items, and that the builder writes it, are rows of `cases`.
use Rattle.std.specs.Prelude.{Err, None, Ok, Option, Result, Some, ◌≡◌, true, List, [], ◌∷◌, ◌++◌, map, ℕ, zero, suc, ◌+◌, ◌-◌, ◌*◌, ◌^◌, ◌≤◌, ◌<◌, leb, length, take, pos}
use Rattle.le.specs.Choice.{pick}
use Rattle.le.specs.Le.{Bytes}
use Rattle.refusal.specs.declared.Refusal.{Refusal}
use Rattle.mvcc.specs.Batch.{body_size, heading_size, Col, Rec, tombstone, present, encode_text, encode_column, encode_record, encode_batch, Each, GoodBatch}
use Rattle.mvcc.specs.Seen.{heading_refusal, decodes, records, canonical}
use Rattle.mvcc.specs.Items.{batch_items, rows_items, most_items, body_items}
use Rattle.wal.specs.declared.BatchAt.{BatchAt}
use Rattle.mvcc_build.specs.Build.{started_bytes}
use Rattle.mvcc_build.specs.Built.{builder_of}
use Rattle.mvcc_build.specs.Run.{Addition, HeldCall, run_body, run_records}
use Rattle.cases.specs.Cases.{null_row}
use Rattle.pager_state.specs.World.{World}
use Rattle.pager_state.specs.Overlay.{page_from}
use Rattle.pager_state.specs.Batches.{next_recovered}
use Rattle.pager_state.specs.declared.AccessMode.TheVariants as mode
use Rattle.history.specs.Model.{Batch}
use Rattle.history.specs.Calls.{Lent, Call, Open}
use Rattle.history.specs.Run.{Run, whole, Attempt, Cut, next}
use Rattle.history.specs.Demand3.{Sized, TypedEvent}
use Rattle.history.specs.Guards.{Always}

-- ---- where the items of encoded records count, each behind its last byte

-- "a column after its value"
unfoldable pub column_places : ℕ → List Col → List ℕ
column_places at [] = []
column_places at (c ∷ cs) = (at + length (encode_column c)) ∷ column_places (at + length (encode_column c)) cs

-- "a record counts after its row id if a tombstone", behind op (1), table and row id (8); "after its column count if present", 2 bytes further
abbrev pub record_places : ℕ → Rec → List ℕ
record_places at (tombstone t row) = (at + (1 + length (encode_text 2 t) + 8)) ∷ []
record_places at (present t row cs) = (at + (1 + length (encode_text 2 t) + 8 + 2)) ∷ column_places (at + (1 + length (encode_text 2 t) + 8 + 2)) cs

unfoldable pub places_from : ℕ → List Rec → List ℕ
places_from at [] = []
places_from at (r ∷ rs) = record_places at r ++ places_from (at + length (encode_record r)) rs

-- how many of them lie in the first n bytes
unfoldable pub places_in : ℕ → List ℕ → ℕ
places_in n [] = 0
places_in n (p ∷ ps) = pick (leb p n) 1 0 + places_in n ps

-- ---- those of an open store's batches, walked from a frame's index on; no log has more than 1,024 frames

abbrev pub items_at : Result (Option BatchAt) Refusal → List ℕ → (ℕ → List ℕ) → List ℕ
items_at (Ok (Some b)) l rest = batch_items (page_from (b.offset + 16) l) ∷ rest (b.index + 1)
items_at (Ok None) l rest = []
items_at (Err r) l rest = []

unfoldable pub items_from : ℕ → World → ℕ → List ℕ
items_from zero w i = []
items_from (suc k) w i = items_at (next_recovered w.pager w.log i) w.log (items_from k w)

-- they are those of the sealed batches of the model (document 01's plain book), and none has more than 1,356
pub record Counts (r : Run) : Type 0 where
  pub same : items_from 1025 r.world 0 ≡ map (λ (b : Batch). rows_items b.rows) r.model.committed
  pub few : Each (λ (n : ℕ). n ≤ body_items) (items_from 1025 r.world 0)

-- a body of a length that gives so many items
pub record Giving (len n : ℕ) : Type 0 where
  pub body : List ℕ
  pub bytes : Bytes body
  pub long : length body ≡ len
  pub gives : batch_items body ≡ n

pub record BatchItems : Type 0 where
  -- a body that decodes gives an item for each record and each column ..
  pub bodies : (s : List ℕ) → decodes s ≡ true → batch_items s ≡ rows_items (records s)
  -- .. one that is refused for its heading none ..
  pub headings : (s : List ℕ) (r : Refusal) → heading_refusal s ≡ Some r → batch_items s ≡ 0
  -- .. and "refused bodies included up to the refusal": a batch cut after any byte gives the items that are whole before the cut
  pub cuts : (t : ℕ) (rs : List Rec) (pad : List ℕ) (n : ℕ) → GoodBatch t rs → n ≤ length (encode_batch t rs ++ pad)
      → batch_items (take n (encode_batch t rs ++ pad)) ≡ places_in n (places_from heading_size rs)
  -- encoding keeps the items, whatever lies behind the batch, and so do building, by any calls, refused ones included, and the canonical form
  pub encoded : (t : ℕ) (rs : List Rec) (pad : List ℕ) → GoodBatch t rs → batch_items (encode_batch t rs ++ pad) ≡ rows_items rs
  pub built : (ks : List Addition) (t : ℕ) (body : List ℕ) → length body ≡ body_size → t < 256 ^ 8 → Each HeldCall ks
      → batch_items (run_body ks (builder_of t []) (started_bytes t body)) ≡ rows_items (run_records t ks [])
  pub rewritten : (s : List ℕ) → Bytes s → decodes s ≡ true → batch_items (canonical s) ≡ batch_items s
  -- no body, any bytes, gives more than its length allows, and a body of each length gives as many, up to 65,535 columns
  pub most : (s : List ℕ) → batch_items s ≤ most_items (length s - heading_size)
  pub reached : (len : ℕ) → len ≤ heading_size + 13 + 3 * 65535 → Giving len (most_items (len - heading_size))
  -- "no 4,096-byte body gives more than 1,356": nor does one of 4,098 bytes; one of 4,099 may
  pub few : (s : List ℕ) → length s ≤ body_size → batch_items s ≤ body_items
  pub few-4098 : (s : List ℕ) → length s ≤ 4098 → batch_items s ≤ body_items
  pub more-4099 : Giving 4099 (body_items + 1)
  -- a body that is cut off gives as many, whatever its column count: 1,355 null columns of n stand before the cut
  pub cut-1356 : (n : ℕ) → 1355 ≤ n → n ≤ 65535 → batch_items (take body_size (encode_batch 0 (null_row (pos 0) n))) ≡ body_items
  -- in any history, cuts and refused calls included: a clean opening ..
  pub opened : Always (λ (r : Run). (lent : Lent) → Sized lent → Counts (whole (Open mode.ReadWrite lent) r))
  -- .. and the one behind a cut and other openings that were cut, of any call, after any stored byte
  pub reopened : Always (λ (r : Run).
      (c : Call) (j k : ℕ) (attempts : List Attempt) (lent : Lent) → TypedEvent (Cut c j k attempts lent) → Counts (next (Cut c j k attempts lent) r))
