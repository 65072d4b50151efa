-- What a commit's start judges of the table: the frames of the staged pages end at the log's length or before. Assumes nothing.
use mathlib.Core.Path.{◌≡◌, refl, sym, ap, ◌∙◌}
use mathlib.Core.Bool.{Bool, true, false}
use mathlib.Core.List.{List, [], ◌∷◌}
use mathlib.Core.Logic.{⊎_elim}
use Prim.Native.Nat.{ℕ, zero, suc, ◌+◌, ◌≤◌, ◌<◌}
use native.Mathlib.Omega.{arith}
use borrow.Author.Tests.{leb-true, le-leb, lt-ltb, ltb-true}
use lib.Dec.{leb}
use lib.ListN.{length, take, get_or}
use Rattle.le.specs.Choice.{pick, both}
use Rattle.le.proofs.Compare.{both_true, no_test}
use Rattle.le.proofs.Tests.{le-or-lt}
use Rattle.pager_state.specs.Overlay.{find_in, staged_pages, slot_of, is_staged, frame_of, in_log}
use Rattle.pager_state.specs.Steps.{stands_before, all_before}
use Rattle.pager_state.specs.declared.Staged.{Staged}
use Rattle.pager_state.proofs.Slots.{find-there, find-most}
use Rattle.pager_state.proofs.Entries.{log-past}

module _ (t : List ℕ) (len : ℕ) where
  -- ---- one page

  pub stands-frame : (n : ℕ) → stands_before t n len ≡ true → in_log t n ≡ true → frame_of t n + 4112 ≤ len
  stands-frame n e i = leb-true _ _ (rw i at e)

  stands_by : (n : ℕ) (b : Bool) → in_log t n ≡ b → (in_log t n ≡ true → frame_of t n + 4112 ≤ len) → pick b (leb (frame_of t n + 4112) len) true ≡ true
  stands_by n true e h = le-leb (frame_of t n + 4112) len (h e)
  stands_by n false e h = refl

  frame-stands : (n : ℕ) → (in_log t n ≡ true → frame_of t n + 4112 ≤ len) → stands_before t n len ≡ true
  frame-stands n h = stands_by n (in_log t n) refl h

  -- ---- a list of pages

  before_at : (l : List ℕ) → all_before t len l ≡ true → (j : ℕ) → j < length l → stands_before t (get_or l j 0) len ≡ true
  unfolding all_before
  before_at [] e j h = absurd (omega arith)
  before_at (x ∷ l) e zero h = (both_true (stands_before t x len) (all_before t len l) e).0
  before_at (x ∷ l) e (suc j) h = before_at l (both_true (stands_before t x len) (all_before t len l) e).1 j (omega arith)

  before-all : (l : List ℕ) → ((j : ℕ) → j < length l → stands_before t (get_or l j 0) len ≡ true) → all_before t len l ≡ true
  unfolding all_before
  before-all [] h = refl
  before-all (x ∷ l) h = rw (h 0 (omega arith), before-all l (λ j k. h (suc j) (omega arith)))

  -- one more
  swapped : (a : Bool) → both a true ≡ both true a
  swapped true = refl
  swapped false = refl

  grouped : (a b c : Bool) → both a (both b c) ≡ both (both a b) c
  grouped true b c = refl
  grouped false b c = refl

  pub before-next : (l : List ℕ) (i : ℕ) → i < length l → all_before t len (take (suc i) l) ≡ both (all_before t len (take i l)) (stands_before t (get_or l i 0) len)
  unfolding all_before
  before-next [] i h = absurd (omega arith)
  before-next (x ∷ l) zero h = swapped (stands_before t x len)
  before-next (x ∷ l) (suc i) h =
      ap (both (stands_before t x len)) (before-next l i (omega arith)) ∙ grouped (stands_before t x len) (all_before t len (take i l)) (stands_before t (get_or l i 0) len)

  -- ---- the staged pages

  module _ (s : Staged) where
    pub before-staged : all_before t len (staged_pages s) ≡ true → (n : ℕ) → is_staged s n ≡ true → stands_before t n len ≡ true
    unfolding is_staged slot_of
    before-staged e n o =
        let h = ltb-true (find_in (staged_pages s) n) (length (staged_pages s)) o in
        rw (find-there (staged_pages s) n h) at (before_at (staged_pages s) e (find_in (staged_pages s) n) h)

    in-slot : (j : ℕ) → j < length (staged_pages s) → is_staged s (get_or (staged_pages s) j 0) ≡ true
    unfolding is_staged slot_of
    in-slot j h =
        let k = find-most (staged_pages s) j (get_or (staged_pages s) j 0) h refl in
        lt-ltb (find_in (staged_pages s) (get_or (staged_pages s) j 0)) (length (staged_pages s)) (omega arith)

    -- a page behind the table's end is not in the log
    in_table : (n : ℕ) → in_log t n ≡ true → n < length t
    in_table n i = ⊎_elim (λ (h : length t ≤ n). no_test (sym (log-past t n h) ∙ i)) (λ (h : n < length t). h) (le-or-lt (length t) n)

    pub staged-before : ((n : ℕ) → n < length t → is_staged s n ≡ true → in_log t n ≡ true → frame_of t n + 4112 ≤ len) → all_before t len (staged_pages s) ≡ true
    staged-before h =
        before-all (staged_pages s)
        (λ j k. frame-stands (get_or (staged_pages s) j 0) (λ i. h (get_or (staged_pages s) j 0) (in_table (get_or (staged_pages s) j 0) i) (in-slot j k) i))
