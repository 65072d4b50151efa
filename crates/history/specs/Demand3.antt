-- The statement of demand 3.
use Rattle.std.specs.Prelude.{Option, Err, None, Ok, Result, Some, ◌≡◌, true, false, List, [], ◌∷◌, ℕ, zero, suc, ◌+◌, ◌<◌, ◌≤◌, ◌^◌, length, take, drop}
use Rattle.refusal.specs.declared.Refusal.{Refusal}
use Rattle.wal.specs.Header.{header_size}
use Rattle.wal.specs.Recovery.{wal_area}
use Rattle.wal.specs.declared.BatchAt.{BatchAt}
use Rattle.pager_state.specs.World.{World, main_area_size, staging_area, page_limit, busy}
use Rattle.pager_state.specs.Overlay.{page_from, find_page, find_refusal, bytes_at}
use Rattle.pager_state.specs.Batches.{next_recovered}
use Rattle.pager_state.specs.Queries.{header}
use Rattle.pager_state.specs.Stores.{content}
use Rattle.pager_state.specs.Opening.{open_refusal, create_fine}
use Rattle.pager_state.specs.declared.PageFound.{PageFound}
use Rattle.pager_state.specs.declared.PageFound.TheVariants as found
use Rattle.history.specs.Model.{Batch, batch_in, model_read}
use Rattle.history.specs.Calls.{Lent, Call, effect, refused_by}
use Rattle.history.specs.Run.{Run, Left, cut_call, Attempt, cut_opening, reopening, reopened, whole, Event, Whole, Cut, next, start}

-- ---- "header, pages and recovered batches are exactly the plain book's"

-- "its bytes or none"
abbrev pub reading_at : World → List ℕ → Result PageFound Refusal → Option (List ℕ)
reading_at w g (Ok (found.Staged at)) = Some (bytes_at w g (Ok (found.Staged at)))
reading_at w g (Ok (found.Log at)) = Some (bytes_at w g (Ok (found.Log at)))
reading_at w g (Ok (found.Main at)) = Some (bytes_at w g (Ok (found.Main at)))
reading_at w g (Ok found.Nothing) = None
reading_at w g (Err r) = None

-- "the store's header and the reading of every page from 1 up"; neither is refused
pub record Same (r : Run) : Type 0 where
  pub same_header : header r.world.pager ≡ Ok r.model.header
  pub answered : (n : ℕ) → find_refusal (find_page r.world r.staging n) ≡ 0
  pub same_page : (n : ℕ) → 1 ≤ n → reading_at r.world r.staging (find_page r.world r.staging n) ≡ model_read r.model n

-- "with nothing part done"
abbrev pub AtRest : Run → Type 0 → Type 0
AtRest r A = busy r.world.pager ≡ false → A

-- the batches that an open store gives, walked from a frame's index on; no log has more than 1,024 frames
abbrev pub walked_at : Result (Option BatchAt) Refusal → List ℕ → (ℕ → List Batch) → List Batch
walked_at (Ok (Some b)) l rest = batch_in (page_from (b.offset + 16) l) ∷ rest (b.index + 1)
walked_at (Ok None) l rest = []
walked_at (Err r) l rest = []

unfoldable pub walked : ℕ → World → ℕ → List Batch
walked zero w i = []
walked (suc k) w i = walked_at (next_recovered w.pager w.log i) w.log (walked k w)

-- "each opening that isn't refused or cut returns exactly the book's sealed batches .., in order"
abbrev pub Returns : Run → Type 0
Returns r = walked 1025 r.world 0 ≡ r.model.committed

-- ---- "no sealed log byte alters between folds"

-- they lie there, inside the file, wherever the power is cut
abbrev pub Kept : Left → Type 0
Kept x = drop header_size (take (header_size + length x.kept) (content x.disk.log)) ≡ x.kept

abbrev pub Intact : Call → Run → Type 0
Intact c r = (j k : ℕ) → Kept (cut_call c j k r)

-- ---- events

-- a call that opens and is not refused
abbrev pub OpenedWhole : Call → Run → Type 0
OpenedWhole c r = (effect c).opens ≡ true → refused_by c r.world r.staging ≡ 0 → Returns (whole c r)

-- the openings after a cut: committed bytes lie there before and after each, also where it is cut; the last is not refused and returns the model's batches
abbrev pub Reopens : List Attempt → Lent → World → Left → Type 0
Reopens [] lent w x = Kept x × ((open_refusal (reopening lent x) ≡ 0) × Returns (reopened lent w x))
Reopens (a ∷ rest) lent w x = Kept x × Reopens rest lent w (cut_opening a x)

abbrev pub Answers : Event → Run → Type 0
Answers (Whole c) r = Intact c r × OpenedWhole c r
Answers (Cut c j k attempts lent) r = Intact c r × Reopens attempts lent r.world (cut_call c j k r)

-- at every event, and after the list
abbrev pub Holds : List Event → Run → Type 0
Holds [] r = AtRest r (Same r)
Holds (e ∷ es) r = Answers e r × Holds es (next e r)

-- ---- what the types of the arguments let through

abbrev pub Typed : Call → Type 0
Typed c = (effect c).typed

-- "in areas of the lengths below": an opening after a cut
pub record Sized (lent : Lent) : Type 0 where
  pub table : length lent.table ≡ page_limit
  pub staging : length lent.staging ≡ staging_area
  pub log : length lent.log ≡ wal_area
  pub main : length lent.main ≡ main_area_size

abbrev pub AllSized : List Attempt → Type 0
AllSized [] = Unit {0}
AllSized (a ∷ rest) = Sized a.lent × AllSized rest

abbrev pub TypedEvent : Event → Type 0
TypedEvent (Whole c) = Typed c
TypedEvent (Cut c j k attempts lent) = Typed c × (AllSized attempts × Sized lent)

abbrev pub AllTyped : List Event → Type 0
AllTyped [] = Unit {0}
AllTyped (e ∷ es) = TypedEvent e × AllTyped es

-- ---- demand 3
unfoldable pub Demand3 : Type 0
Demand3 =
    (t l m g : List ℕ) (salt : ℕ) → create_fine t l m g ≡ true → salt < 2 ^ 32
    → (es : List Event) → AllTyped es → Holds es (start t l m g salt)
