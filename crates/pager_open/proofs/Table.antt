-- The page table: entering frames one behind the other gives, for each page, the place of its last frame. Assumes nothing.
use mathlib.Core.Path.{◌≡◌, refl, sym, ap, ◌∙◌}
use mathlib.Core.Bool.{Bool, true, false}
use mathlib.Core.List.{List, [], ◌∷◌, ◌++◌}
use mathlib.Core.Logic.{⊎_elim}
use Prim.Native.Nat.{ℕ, zero, suc, ◌+◌, ◌-◌, ◌*◌, ◌/◌, ◌%◌, ◌≤◌, ◌<◌}
use native.Mathlib.Nat.{add-zero, zero-add}
use native.Mathlib.Numerals.{add-one}
use native.Mathlib.Omega.{arith}
use borrow.Author.Tests.{eq-eqb, ne_eqb}
use lib.Dec.{eqb}
use lib.ListN.{length, take, get_or, set, length-set}
use lib.Seq.{set_out, take-suc-set, get_or-set_same, get_or-set_other, ext_get_or}
use Rattle.le.specs.Choice.{pick, both}
use Rattle.le.proofs.Tests.{le-or-lt, eq-or-not}
use Rattle.frame.specs.Frame.{frame_at}
use Rattle.header.specs.declared.DbHeader.{DbHeader}
use Rattle.wal.specs.Recovery.{chunks, chunk_at, page_of}
use Rattle.pager_state.specs.Overlay.{on_main, entry}
use Rattle.pager_state.specs.Opening.{tabulate, place_from, has_page, table_of}
use Rattle.pager_state.specs.Commit.{with_entry}
use Rattle.pager_open.proofs.Front.{front-length, front-more}

-- ---- tabulated lists

module _ (g : ℕ → ℕ) where
  pub length-tabulate : (i k : ℕ) → length (tabulate g i k) ≡ k
  unfolding tabulate
  length-tabulate i zero = refl
  length-tabulate i (suc k) = ap suc (length-tabulate (suc i) k)

  pub tabulate-snoc : (i k : ℕ) → tabulate g i (suc k) ≡ tabulate g i k ++ (g (i + k) ∷ [])
  unfolding tabulate
  tabulate-snoc i zero = rw add-zero
  tabulate-snoc i (suc k) =
      let e : suc i + k ≡ i + suc k = omega arith in
      ap (λ (l : List ℕ). g i ∷ l) (rw e at (tabulate-snoc (suc i) k))

  get_from : (i k n : ℕ) → n < k → get_or (tabulate g i k) n 0 ≡ g (i + n)
  unfolding tabulate
  get_from i zero n h = absurd (omega arith)
  get_from i (suc k) zero h = rw add-zero
  get_from i (suc k) (suc n) h =
      let e : suc i + n ≡ i + suc n = omega arith in
      rw e at (get_from (suc i) k n (omega arith))

  pub get-tabulate : (k n : ℕ) → n < k → get_or (tabulate g 0 k) n 0 ≡ g n
  get-tabulate k n h = rw zero-add at (get_from 0 k n h)

-- two that agree below k
pub tabulate-like : (g h : ℕ → ℕ) (k : ℕ) → ((n : ℕ) → n < k → g n ≡ h n) → tabulate g 0 k ≡ tabulate h 0 k
tabulate-like g h k same =
    ext_get_or 0 (tabulate g 0 k) (tabulate h 0 k) (length-tabulate g 0 k ∙ sym (length-tabulate h 0 k))
    (λ n b. let m : n < k = rw (length-tabulate g 0 k) at b in get-tabulate g k n m ∙ same n m ∙ sym (get-tabulate h k n m))

-- one entry set
module _ (g h : ℕ → ℕ) (k p v : ℕ) (below : p < k) (here : h p ≡ v) (other : (n : ℕ) → (n ≡ p → ⊥) → h n ≡ g n) where
  set_at : (n : ℕ) → n < k → get_or (set (tabulate g 0 k) p v) n 0 ≡ h n
  set_at n m =
      ⊎_elim
      (λ e. rw e (get_or-set_same (tabulate g 0 k) p v 0 (rw (length-tabulate g 0 k) below) ∙ sym here))
      (λ e. get_or-set_other (tabulate g 0 k) p n v 0 e ∙ get-tabulate g k n m ∙ sym (other n e))
      (eq-or-not n p)

  pub set-tabulate : set (tabulate g 0 k) p v ≡ tabulate h 0 k
  set-tabulate =
      let w : length (set (tabulate g 0 k) p v) ≡ k = rw (length-set, length-tabulate g 0 k) in
      ext_get_or 0 (set (tabulate g 0 k) p v) (tabulate h 0 k) (w ∙ sym (length-tabulate h 0 k))
      (λ n b. let m : n < k = rw w at b in set_at n m ∙ sym (get-tabulate h k n m))

-- filling one from the front
pub tabulate-next : (g : ℕ → ℕ) (t : List ℕ) (n v : ℕ) → n < length t → take n t ≡ tabulate g 0 n → v ≡ g n
    → take (n + 1) (set t n v) ≡ tabulate g 0 (n + 1)
tabulate-next g t n v h e k = rw (add-one, take-suc-set t n v h, tabulate-snoc g 0 n, e, k, zero-add)

-- ---- the last frame of a page

later-place : (b : Bool) (c : ℕ) (x : ℕ) → pick (both (eqb (chunk_at c) 0) b) x (chunk_at c) ≡ chunk_at c
later-place b c x = rw (ne_eqb (chunk_at c) 0 (λ e. omega arith))

pub place-snoc : (n i : ℕ) (fs : List (List ℕ)) (f : List ℕ)
    → place_from n i (fs ++ (f ∷ [])) ≡ pick (eqb (page_of f) n) (chunk_at (i + length fs)) (place_from n i fs)
unfolding place_from
place-snoc n i [] f = rw add-zero
place-snoc n i (g ∷ fs) f = rw (place-snoc n (suc i) fs f) (by (eqb (page_of f) n))
  where
    by : (b : Bool) → pick (both (eqb (pick b (chunk_at (suc i + length fs)) (place_from n (suc i) fs)) 0) (eqb (page_of g) n)) (chunk_at i)
        (pick b (chunk_at (suc i + length fs)) (place_from n (suc i) fs))
        ≡ pick b (chunk_at (i + suc (length fs)))
        (pick (both (eqb (place_from n (suc i) fs) 0) (eqb (page_of g) n)) (chunk_at i) (place_from n (suc i) fs))
    by true =
        let e : suc i + length fs ≡ i + suc (length fs) = omega arith in
        later-place (eqb (page_of g) n) (suc i + length fs) (chunk_at i) ∙ rw e
    by false = refl

-- ---- the table

entry-flag : (at : ℕ) (b : Bool) → eqb (entry at b % 2) 1 ≡ b
entry-flag at true = let e : (2 * at + 1) % 2 ≡ 1 = omega arith in rw e
entry-flag at false = let e : (2 * at + 0) % 2 ≡ 0 = omega arith in rw e

-- an entry keeps its flag
flag-kept : (x : ℕ) → x % 2 ≡ pick (eqb (x % 2) 1) 1 0
flag-kept x =
    ⊎_elim (λ e. rw (eq-eqb (x % 2) 1 e) e) (λ e. rw (ne_eqb (x % 2) 1 e) (zero-or-one (x % 2) (omega arith) e)) (eq-or-not (x % 2) 1)
  where
    zero-or-one : (r : ℕ) → r < 2 → (r ≡ 1 → ⊥) → r ≡ 0
    zero-or-one r h e = omega arith

pub entered-as : (t : List ℕ) (n at : ℕ) → set t n (2 * at + get_or t n 0 % 2) ≡ with_entry t n at
unfolding on_main
entered-as t n at = ap (λ (r : ℕ). set t n (2 * at + r)) (flag-kept (get_or t n 0))

module _ (h : DbHeader) (fs : List (List ℕ)) (f : List ℕ) where
  before : ℕ → ℕ
  before n = entry (place_from n 0 fs) (has_page h n)

  after : ℕ → ℕ
  after n = entry (place_from n 0 (fs ++ (f ∷ []))) (has_page h n)

  after-other : (n : ℕ) → (page_of f ≡ n → ⊥) → after n ≡ before n
  unfolding before after
  after-other n e = rw (place-snoc n 0 fs f, ne_eqb (page_of f) n e)

  after-here : after (page_of f) ≡ entry (chunk_at (length fs)) (has_page h (page_of f))
  unfolding after
  after-here = rw (place-snoc (page_of f) 0 fs f, eq-eqb (page_of f) (page_of f) refl, zero-add)

  flag-here : page_of f < 1024 → on_main (tabulate before 0 1024) (page_of f) ≡ has_page h (page_of f)
  unfolding before on_main
  flag-here b = rw (get-tabulate before 1024 (page_of f) b) (entry-flag (place_from (page_of f) 0 fs) (has_page h (page_of f)))

  entered_below : page_of f < 1024 → with_entry (table_of h fs) (page_of f) (chunk_at (length fs)) ≡ table_of h (fs ++ (f ∷ []))
  unfolding table_of before after
  entered_below b =
      rw (flag-here b)
      (set-tabulate before after 1024 (page_of f) (entry (chunk_at (length fs)) (has_page h (page_of f))) b after-here
      (λ n e. after-other n (λ s. e (sym s))))

  entered-above : 1024 ≤ page_of f → with_entry (table_of h fs) (page_of f) (chunk_at (length fs)) ≡ table_of h (fs ++ (f ∷ []))
  unfolding table_of before after
  entered-above b =
      set_out (tabulate before 0 1024) (page_of f) _ (rw (length-tabulate before 0 1024) b)
      ∙ tabulate-like before after 1024 (λ n m. sym (after-other n (λ e. omega arith)))

  -- a frame behind some frames, entered behind them
  pub entered_frame : with_entry (table_of h fs) (page_of f) (chunk_at (length fs)) ≡ table_of h (fs ++ (f ∷ []))
  entered_frame = ⊎_elim entered-above entered_below (le-or-lt 1024 (page_of f))

-- without frames
pub table_empty : (h : DbHeader) (t : List ℕ) → length t ≡ 1024 → ((n : ℕ) → n < 1024 → get_or t n 0 ≡ entry 0 (has_page h n)) → t ≡ table_of h []
unfolding table_of place_from
table_empty h t e a =
    let g : ℕ → ℕ = λ n. entry 0 (has_page h n) in
    ext_get_or 0 t (tabulate g 0 1024) (e ∙ sym (length-tabulate g 0 1024)) (λ n b. let m : n < 1024 = rw e at b in a n m ∙ sym (get-tabulate g 1024 n m))

-- ---- entering the frames of a log, one behind the other

pub entering-on : (h : DbHeader) (l t : List ℕ) (i : ℕ) {u : List ℕ} → t ≡ table_of h (take i (chunks l)) → i < (length l - 32) / 4112
    → u ≡ with_entry t (page_of (frame_at (chunk_at i) l)) (chunk_at i) → u ≡ table_of h (take (i + 1) (chunks l))
entering-on h l t i e b f =
    let n = front-length l i (omega arith) in
    f ∙ rw (e, front-more l i b) (rw n at (entered_frame h (take i (chunks l)) (frame_at (chunk_at i) l)))
