-- What the searches for differing pages promise each other, and the marks of the pages that differ. g is the staging area; t, l and m are
-- the page table, the log and the main file.
use Rattle.std.specs.Prelude.{◌≡◌, ℕ, ◌*◌, ◌<◌, Bool, true, not, List, length, ◌==◌, nat_lt}
use Rattle.le.specs.Choice.{both}
use Rattle.le.specs.Le.{same_bytes}
use Rattle.page.specs.Page.{page_size}
use Rattle.pager_state.specs.World.{page_limit}
use Rattle.pager_state.specs.Overlay.{page_from, find_in, slot_of, committed_in}
use Rattle.pager_state.specs.Pages.{pages_from, first_of}
use Rattle.pager_state.specs.declared.Staged.{Staged}
use Rattle.pager_differing.specs.declared.Slot.{Slot}

-- a list has a page
unfoldable pub is_in : List ℕ → ℕ → Bool
is_in l n = nat_lt (find_in l n) (length l)

-- the first page from `page` on that a list has; 1,024 if there is none
abbrev pub next_in : List ℕ → ℕ → ℕ
next_in l page = first_of (pages_from (is_in l) page)

-- q is found, and the slot has it and its place
pub record Found (q : ℕ) (place : ℕ → ℕ) (slot : Slot) : Type 0 where
  pub page : slot.page ≡ q
  pub page_lt_page_limit : slot.page < page_limit
  pub index : slot.index ≡ place slot.page

-- the bytes of a slot of the staging area differ from a page's
unfoldable pub slot_differs : List ℕ → List ℕ → List ℕ → List ℕ → ℕ → ℕ → Bool
slot_differs g t l m n slot = not (same_bytes (page_from (page_size * slot) g) (committed_in t l m n))

-- a slot has a page that differs, and it is the first that has that page
unfoldable pub counts_at : ℕ → List ℕ → List ℕ → List ℕ → List ℕ → ℕ → ℕ → Bool
counts_at first g t l m n slot = both (nat_lt n page_limit) (both (first == slot) (slot_differs g t l m n slot))

-- among the marks stand just the pages for which f holds, each in its slot
pub record Marks (f : ℕ → Bool) (s : Staged) (marks : List ℕ) : Type 0 where
  pub same : (n : ℕ) → n < page_limit → is_in marks n ≡ f n
  pub slot : (n : ℕ) → n < page_limit → is_in marks n ≡ true → find_in marks n ≡ slot_of s n
