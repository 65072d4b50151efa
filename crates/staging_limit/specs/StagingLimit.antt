-- Document 02, P9: "Make that the limit: staging area 98,304 bytes, refusal 12 when 24 other pages are staged, refusal 1 for the former size."
-- `staging-limit` of proofs/StagingLimit.antt proves it. The two numbers are `staged_limit` and `staging_area` of pager_state/specs/World.antt.
use Rattle.std.specs.Prelude.{Option, None, Some, Err, Ok, ◌≡◌, Bool, true, false, not, List, ℕ, ◌+◌, max, ◌≤◌, ◌<◌, leb, eqb, length}
use Rattle.le.specs.Choice.{pick}
use Rattle.refusal.specs.declared.Refusal.TheVariants as refusal
use Rattle.page.specs.Page.{page_size}
use Rattle.header.specs.declared.DbHeader.{DbHeader}
use Rattle.pager_state.specs.World.{World, staged_limit, staging_area, page_limit, count_of, header_of, busy, read_only}
use Rattle.pager_state.specs.Pages.{pages_from}
use Rattle.pager_state.specs.Stores.{Disk}
use Rattle.pager_state.specs.Opening.{How, open_pager, open_refusal, create_refusal}
use Rattle.pager_state.specs.Steps.{header_good, lacking, commit_fine, commit_start}
use Rattle.history.specs.Model.{Model}
use Rattle.history.specs.Calls.{Query, ReadHeader, ReadMode, ReadClock, ReadPage, ReadBatch, Call, Ask, Open, Stage, Clear, Append, Observe, Commit, Checkpoint, BeginCommit, BeginCheckpoint, Step, refused_by}
use Rattle.history.specs.Run.{Run}
use Rattle.history.specs.Guards.{Always}

-- ---- the pages that the model (document 01's plain book) has staged

abbrev pub there : Option (List ℕ) → Bool
there None = false
there (Some x) = true

-- how many there are
unfoldable pub pages_staged : Model → ℕ
pages_staged b = length (pages_from (λ (p : ℕ). there (b.staged p)) 0)

-- "other pages": but for page n
unfoldable pub others_staged : Model → ℕ → ℕ
others_staged b n = length (pages_from (λ (p : ℕ). pick (eqb p n) false (there (b.staged p))) 0)

-- what staging page n comes to, told of the model; 0 is no refusal. "refusal 12 when 24 other pages are staged"
unfoldable pub staging_number : Run → ℕ → List ℕ → ℕ
staging_number r n bytes =
    pick (not (eqb (length bytes) page_size)) 1
    (pick (busy r.world.pager) 9
    (pick (leb page_limit n) 11
    (pick (eqb (others_staged r.model n) staged_limit) 12 0)))

-- ---- the calls that are lent the staging area, but for creation and openings

abbrev pub asks_staging : Query → Bool
asks_staging ReadHeader = false
asks_staging ReadMode = false
asks_staging ReadClock = false
asks_staging (ReadPage n) = true
asks_staging (ReadBatch i) = false

abbrev pub lent_staging : Call → Bool
lent_staging (Ask q) = asks_staging q
lent_staging (Open m lent) = false
lent_staging (Stage n bytes) = true
lent_staging Clear = false
lent_staging (Append body) = false
lent_staging (Observe c) = false
lent_staging (Commit h salt) = true
lent_staging (Checkpoint salt) = true
lent_staging (BeginCommit h salt) = true
lent_staging (BeginCheckpoint salt) = true
lent_staging Step = true

abbrev pub Wrong : List ℕ → Type 0
Wrong g = length g ≡ staging_area → ⊥

-- ---- commits

-- the page count that a commit can bring a store to: page 0 is made of the header and need not be staged
abbrev pub most_pages : World → ℕ
most_pages w = max 1 (count_of (header_of w.pager)) + staged_limit

pub record StagingLimit : Type 0 where
  -- "Make that the limit": in any history, cuts and refused calls included, no more pages are staged ..
  pub few : Always (λ (r : Run). pages_staged r.model ≤ staged_limit)
  -- .. and each call that stages answers just so
  pub judged : Always (λ (r : Run). (n : ℕ) (bytes : List ℕ) → refused_by (Stage n bytes) r.world r.staging ≡ staging_number r n bytes)
  -- "refusal 1 for the former size", and for every other: of any store and any call, creation and openings too
  pub area : (c : Call) → lent_staging c ≡ true → (w : World) (g : List ℕ) → Wrong g → refused_by c w g ≡ 1
  pub opened : (how : How) (t : List ℕ) (d : Disk) (g : List ℕ) → Wrong g → open_refusal (open_pager how t d g) ≡ 1
  pub created : (t l m g : List ℕ) → Wrong g → create_refusal t l m g ≡ Some refusal.Area
  -- a commit that is begun, in any store, grows by no more ..
  pub grows : (g : List ℕ) (w : World) (h : DbHeader) → length w.pager.staged.pages ≡ staged_limit → commit_start g w h ≡ Ok tt → count_of h ≤ most_pages w
  -- .. and one that would is refused with 14 and the lowest page that isn't staged, where 1, 9, 10 and 13 don't come first
  pub joining : (g : List ℕ) (w : World) (h : DbHeader) → length w.pager.staged.pages ≡ staged_limit → commit_fine g w ≡ true
      → busy w.pager ≡ false → read_only w.pager ≡ false → header_good h ≡ true → most_pages w < count_of h
      → commit_start g w h ≡ Err (refusal.Joining (lacking w h))
