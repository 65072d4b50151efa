-- Reading a page: document 01's line on `pager.rs`, "Reading a page: staged; else none if at or above the page count; else log; else
-- the main file's pages from 1 to below its own header's count; else none".
use Rattle.std.specs.Prelude.{Result, Ok, Err, Option, None, Bool, not, List, [], ◌∷◌, ℕ, suc, ◌+◌, ◌*◌, ◌/◌, ◌%◌, leb, ltb, eqb, length, take, drop, get_or}
use Rattle.le.specs.Choice.{pick, both}
use Rattle.page.specs.Page.{page_size}
use Rattle.refusal.specs.Refusal.{number, unless, answered}
use Rattle.refusal.specs.declared.Refusal.{Refusal}
use Rattle.refusal.specs.declared.Refusal.TheVariants as refusal
use Rattle.pager_state.specs.World.{World, count_of, header_of, fine, staging_fine, busy}
use Rattle.pager_state.specs.declared.Staged.{Staged}
use Rattle.pager_state.specs.declared.Pager.{Pager}
use Rattle.pager_state.specs.declared.PageFound.{PageFound}
use Rattle.pager_state.specs.declared.PageFound.TheVariants as found

-- the page's length from a place on, or what there is of it
abbrev pub page_from : ℕ → List ℕ → List ℕ
page_from at l = take page_size (drop at l)

-- ---- staged pages

-- the index of the first p in a list, or the list's length
abbrev pub find_in : List ℕ → ℕ → ℕ
find_in [] p = 0
find_in (x ∷ xs) p = pick (eqb x p) 0 (suc (find_in xs p))

-- the first k of the numbers s
abbrev pub slots : ℕ → List ℕ → Staged
slots k s = record { count = k; pages = s }

abbrev pub staged_pages : Staged → List ℕ
staged_pages s = take s.count s.pages

-- the slot that has the page, else the next free one
unfoldable pub slot_of : Staged → ℕ → ℕ
slot_of s n = find_in (staged_pages s) n

unfoldable pub is_staged : Staged → ℕ → Bool
is_staged s n = ltb (slot_of s n) (length (staged_pages s))

abbrev pub staged_at : Staged → ℕ → ℕ
staged_at s n = page_size * slot_of s n

-- the bytes staged for a page
unfoldable pub staged_bytes : Staged → List ℕ → ℕ → List ℕ
staged_bytes s g n = page_from (staged_at s n) g

-- ---- the page table: twice the place of the page's frame in the log (0: none), and 1 more if the main file has the page

-- where the log has the page
unfoldable pub frame_of : List ℕ → ℕ → ℕ
frame_of t n = get_or t n 0 / 2

unfoldable pub in_log : List ℕ → ℕ → Bool
in_log t n = not (eqb (frame_of t n) 0)

unfoldable pub on_main : List ℕ → ℕ → Bool
on_main t n = eqb (get_or t n 0 % 2) 1

-- the entry of a page whose frame stands at `at`
abbrev pub entry : ℕ → Bool → ℕ
entry at flag = 2 * at + pick flag 1 0

-- the page's bytes inside the log and inside the main file
abbrev pub log_at : List ℕ → ℕ → ℕ
log_at t n = frame_of t n + 16

abbrev pub main_at : ℕ → ℕ
main_at n = page_size * n

unfoldable pub log_bytes : List ℕ → List ℕ → ℕ → List ℕ
log_bytes t l n = page_from (log_at t n) l

-- "the log's, else the main file's", or no byte: by the page table, the log and the main file
unfoldable pub committed_in : List ℕ → List ℕ → List ℕ → ℕ → List ℕ
committed_in t l m n = pick (in_log t n) (log_bytes t l n) (pick (on_main t n) (page_from (main_at n) m) [])

abbrev pub committed_bytes : World → ℕ → List ℕ
committed_bytes w n = committed_in w.table w.log w.main n

-- ---- the overlay

-- of a page that isn't staged: "none if at or above the page count; else log; else the main file's pages ..; else none"
unfoldable pub below : ℕ → List ℕ → ℕ → PageFound
below count t n =
    pick (leb count n) found.Nothing
    (pick (in_log t n) (found.Log (log_at t n))
    (pick (on_main t n) (found.Main (main_at n)) found.Nothing))

-- by the page count, the staged pages and the page table
unfoldable pub place_page : ℕ → Staged → List ℕ → ℕ → PageFound
place_page count s t n = pick (is_staged s n) (found.Staged (staged_at s n)) (below count t n)

abbrev pub overlay : Pager → List ℕ → ℕ → PageFound
overlay p t n = place_page (count_of (header_of p)) p.staged t n

-- refusals 1 and 9: whether the areas are fine, and whether something is part done
abbrev pub read_refusal_by : Bool → Bool → Option Refusal
read_refusal_by ok busy = unless ok refusal.Area (unless (not busy) refusal.Busy None)

unfoldable pub read_refusal : World → List ℕ → Option Refusal
read_refusal w g = read_refusal_by (both (fine w) (staging_fine g)) (busy w.pager)

-- then the overlay
unfoldable pub find_page : World → List ℕ → ℕ → Result PageFound Refusal
find_page w g n = answered Err (Ok (overlay w.pager w.table n)) (read_refusal w g)

-- "Page reads answer with the page's own bytes inside log, main or staging area"; no byte where there is no page
abbrev pub bytes_at : World → List ℕ → Result PageFound Refusal → List ℕ
bytes_at w g (Ok (found.Staged at)) = page_from at g
bytes_at w g (Ok (found.Log at)) = page_from at w.log
bytes_at w g (Ok (found.Main at)) = page_from at w.main
bytes_at w g (Ok found.Nothing) = []
bytes_at w g (Err r) = []

unfoldable pub read_page : World → List ℕ → ℕ → List ℕ
read_page w g n = bytes_at w g (find_page w g n)

-- 0 is no refusal
abbrev pub find_refusal : Result PageFound Refusal → ℕ
find_refusal (Ok (found.Staged at)) = 0
find_refusal (Ok (found.Log at)) = 0
find_refusal (Ok (found.Main at)) = 0
find_refusal (Ok found.Nothing) = 0
find_refusal (Err r) = number r
