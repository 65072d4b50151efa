-- The pages that a commit or checkpoint looks for, ascending.
use Rattle.std.specs.Prelude.{Bool, not, List, [], ◌∷◌, ℕ, zero, suc, ◌-◌, leb, ltb}
use Rattle.le.specs.Choice.{pick, both}
use Rattle.le.specs.Le.{same_bytes}
use Rattle.pager_state.specs.World.{World, page_limit, count_of, header_of}
use Rattle.pager_state.specs.Overlay.{is_staged, staged_bytes, in_log, committed_in}
use Rattle.pager_state.specs.declared.Staged.{Staged}

-- k numbers from p on: those for which f holds
unfoldable pub among : (ℕ → Bool) → ℕ → ℕ → List ℕ
among f zero p = []
among f (suc k) p =
    let rest = among f k (suc p) in
    pick (f p) (p ∷ rest) rest

-- the pages from p on
unfoldable pub pages_from : (ℕ → Bool) → ℕ → List ℕ
pages_from f p = among f (page_limit - p) p

-- the lowest; 1,024 if there is none
abbrev pub first_of : List ℕ → ℕ
first_of [] = page_limit
first_of (n ∷ ns) = n

-- "staged pages whose bytes differ from the log's, else the main file's .., even at or above the page count, or that are in neither":
-- by the staged pages, the staging area, the page table, the log and the main file
unfoldable pub differs_in : Staged → List ℕ → List ℕ → List ℕ → List ℕ → ℕ → Bool
differs_in s g t l m n = both (is_staged s n) (not (same_bytes (staged_bytes s g n) (committed_in t l m n)))

abbrev pub differs : List ℕ → World → ℕ → Bool
differs g w n = differs_in w.pager.staged g w.table w.log w.main n

-- "log pages from 1 below the page count": by the count and the page table
unfoldable pub in_checkpoint_by : ℕ → List ℕ → ℕ → Bool
in_checkpoint_by count t n = both (leb 1 n) (both (ltb n count) (in_log t n))

abbrev pub in_checkpoint : World → ℕ → Bool
in_checkpoint w n = in_checkpoint_by (count_of (header_of w.pager)) w.table n

-- 14: "a page, 1 or higher, from old count to below new count isn't staged"
unfoldable pub lacks : Staged → ℕ → ℕ → ℕ → Bool
lacks s old new n = both (leb 1 n) (both (leb old n) (both (ltb n new) (not (is_staged s n))))
