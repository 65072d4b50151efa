-- The searches for differing and for lacking pages, and how many differ. Assumes nothing.
use Rattle.std.proofs.Common.{◌≡◌, ℕ, suc, ◌+◌, ◌<◌, ◌≤◌, min, max, Bool, true, false, not, eqb, ltb, leb, List, [], length, get_or, take, sym, refl, ap, ◌∙◌, ⊎_elim, add-one, arith, length-take, get_or-take, ltb-true, le-ltb, lt-ltb, eq-eqb, eqb-true, le-leb}
use Rattle.std.specs.Prelude.{Option, None, Some, MatchOption}
use borrow.Author.Tests.{lt-leb}
use Rattle.le.specs.Choice.{pick, both}
use Rattle.le.proofs.Tests.{le-or-lt, eq-or-not}
use Rattle.le.proofs.Compare.{both_true}
use Rattle.pager_state.specs.World.{page_limit, staged_limit}
use Rattle.pager_state.specs.Overlay.{find_in, staged_pages, slot_of, is_staged, staged_bytes}
use Rattle.pager_state.specs.Pages.{pages_from, first_of, differs_in, lacks}
use Rattle.pager_state.specs.declared.Staged.{Staged}
use Rattle.pager_state.proofs.Searches.{pages-hit, pages-miss, lowest, pages-same}
use Rattle.pager_state.proofs.Slots.{find-there}
use Rattle.pager_state.proofs.Walks.{pages-skip, none_is, first-is, first-before, pages-more}
use Rattle.pager_differing.specs.Differing.{is_in, next_in, slot_differs, counts_at, Found}
use Rattle.pager_differing.specs.declared.Slot.{Slot}

both_false : (b : Bool) → both b false ≡ false
both_false true = refl
both_false false = refl

-- ---- differing pages, by the staging, the table and the areas

staged-by : (s : Staged) (p : ℕ) → pages_from (is_in (take s.count s.pages)) p ≡ pages_from (is_staged s) p
unfolding is_in is_staged slot_of
staged-by s p = refl

pub found-staged : (s : Staged) (p : ℕ) {slot : Slot} → Found (next_in (take s.count s.pages) p) (find_in (take s.count s.pages)) slot
    → Found (first_of (pages_from (is_staged s) p)) (slot_of s) slot
unfolding slot_of
found-staged s p f = record { page = f.page ∙ ap first_of (staged-by s p); page_lt_page_limit = f.page_lt_page_limit; index = f.index }

-- whether a page is staged, by its slot
module _ (s : Staged) (long : length s.pages ≡ staged_limit) (q : ℕ) {r n : ℕ} (e : r ≡ find_in (staged_pages s) q) (f : n ≡ min s.count staged_limit) where
  size : length (staged_pages s) ≡ n
  size = let c = length-take s.count s.pages in omega (arith, c, long, f)

  pub by-slot : ltb r n ≡ is_staged s q
  unfolding is_staged slot_of
  by-slot = rw (e, size)

-- a page that is found has a place in the list
pub place-within : (s : List ℕ) (n p q : ℕ) → q ≡ next_in (take n s) p → q < page_limit → find_in (take n s) q < length s
unfolding is_in
place-within s n p q e h =
    let f : find_in (take n s) q < length (take n s) = ltb-true (find_in (take n s) q) (length (take n s)) (lowest (is_in (take n s)) p q e h).holds in
    let c : length (take n s) ≡ min n (length s) = length-take n s in
    omega (arith, f, c)

module _ (s : Staged) (g t l m : List ℕ) where
  abbrev pub D : ℕ → Bool
  D = differs_in s g t l m

  -- by its slot
  pub differs-slot : (n : ℕ) → D n ≡ both (is_staged s n) (slot_differs g t l m n (slot_of s n))
  unfolding differs_in slot_differs staged_bytes
  differs-slot n = refl

  not-staged : (n : ℕ) → is_staged s n ≡ false → D n ≡ false
  not-staged n e = differs-slot n ∙ rw e

  -- of a staged page its slot tells
  differs_at : (q index : ℕ) {r : Bool} → is_staged s q ≡ true → index ≡ slot_of s q → r ≡ slot_differs g t l m q index → D q ≡ r
  differs_at q index e f a = differs-slot q ∙ rw (e, a, f)

  -- ---- from staged page to staged page

  -- none is left
  pub none-differs : (p : ℕ) → next_in (take s.count s.pages) p ≡ page_limit → first_of (pages_from D p) ≡ page_limit
  none-differs p e =
      let k : page_limit ≡ first_of (pages_from (is_staged s) p) = sym e ∙ ap first_of (staged-by s p) in
      ap first_of (none_is D p (λ n a b. not-staged n (first-before (is_staged s) p page_limit n k a (omega arith) b)))

  module _ (p : ℕ) (slot : Slot) (f : Found (first_of (pages_from (is_staged s) p)) (slot_of s) slot) where
    abbrev q : ℕ
    q = slot.page

    pub staged-from : p ≤ q
    staged-from = (lowest (is_staged s) p q f.page f.page_lt_page_limit).from

    over : pages_from D p ≡ pages_from D q
    over = pages-skip D p q staged-from (λ n a b. not-staged n (first-before (is_staged s) p q n f.page a b (omega (arith, f.page_lt_page_limit))))

    at_slot : {r : Bool} → r ≡ slot_differs g t l m q slot.index → D q ≡ r
    at_slot a = differs_at q slot.index (lowest (is_staged s) p q f.page f.page_lt_page_limit).holds f.index a

    -- it differs
    pub differs-here : {r : Bool} → r ≡ slot_differs g t l m q slot.index → r ≡ true → Found (first_of (pages_from D p)) (slot_of s) slot
    differs-here a b = record { page = sym (ap first_of (over ∙ pages-hit D q f.page_lt_page_limit (at_slot a ∙ b))); page_lt_page_limit = f.page_lt_page_limit; index = f.index }

    -- or not
    pub same_here : {r : Bool} → r ≡ slot_differs g t l m q slot.index → r ≡ false → pages_from D p ≡ pages_from D (q + 1)
    same_here a b = over ∙ pages-miss D q f.page_lt_page_limit (at_slot a ∙ b) ∙ ap (pages_from D) (sym (add-one q))

  -- ---- how many there are, slot by slot

  -- those in front of slot i
  abbrev pub Upto : ℕ → ℕ → Bool
  Upto i n = both (D n) (ltb (slot_of s n) i)

  pub count_none : 0 ≡ length (pages_from (Upto 0) 0)
  count_none =
      let e : pages_from (Upto 0) 0 ≡ [] = none_is (Upto 0) 0 (λ n a b. rw (le-ltb (slot_of s n) 0 (omega arith)) (both_false (D n))) in
      sym (ap length e)

  -- a slot with another page tells nothing of a page
  upto-other : (i n : ℕ) → (slot_of s n ≡ i → ⊥) → Upto (i + 1) n ≡ Upto i n
  upto-other i n h =
      ⊎_elim (λ k. rw (le-ltb (slot_of s n) i k, le-ltb (slot_of s n) (i + 1) (omega (arith, k, h))))
      (λ k. rw (lt-ltb (slot_of s n) i k, lt-ltb (slot_of s n) (i + 1) (omega (arith, k)))) (le-or-lt i (slot_of s n))

  module _ (i page : ℕ) (h : i < length (staged_pages s)) (e : page ≡ get_or s.pages i 0) where
    -- the page that has slot i
    slot-page : (n : ℕ) → slot_of s n ≡ i → n ≡ page
    unfolding slot_of
    slot-page n k =
        let f : find_in (staged_pages s) n < length (staged_pages s) = rw k h in
        let a : get_or (staged_pages s) i 0 ≡ n = rw k at (find-there (staged_pages s) n f) in
        let c : length (staged_pages s) ≡ min s.count (length s.pages) = length-take s.count s.pages in
        sym a ∙ get_or-take s.count s.pages i 0 (omega (arith, c)) ∙ sym e

    is-staged : slot_of s page ≡ i → is_staged s page ≡ true
    unfolding is_staged
    is-staged k = rw k (lt-ltb i (length (staged_pages s)) h)

    -- a slot that counts has its own page, which differs
    pub counts-told : counts_at (slot_of s page) g t l m page i ≡ true → (page < page_limit) × ((slot_of s page ≡ i) × (D page ≡ true))
    unfolding counts_at
    counts-told c =
        let a = both_true (ltb page page_limit) (both (eqb (slot_of s page) i) (slot_differs g t l m page i)) c in
        let b = both_true (eqb (slot_of s page) i) (slot_differs g t l m page i) a.1 in
        let k : slot_of s page ≡ i = eqb-true _ _ b.0 in
        (ltb-true page page_limit a.0, (k, differs_at page i (is-staged k) (sym k) (sym b.1)))

    counted : counts_at (slot_of s page) g t l m page i ≡ true → length (pages_from (Upto (i + 1)) 0) ≡ suc (length (pages_from (Upto i) 0))
    counted c =
        let a = counts-told c in
        let k : slot_of s page ≡ i = a.1.0 in
        let d : D page ≡ true = a.1.1 in
        let x : Upto i page ≡ false = rw (d, le-ltb (slot_of s page) i (omega arith)) in
        let y : Upto (i + 1) page ≡ true = rw (d, lt-ltb (slot_of s page) (i + 1) (omega arith)) in
        pages-more (Upto i) (Upto (i + 1)) page x y (λ n z. upto-other i n (λ j. z (slot-page n j))) a.0

    not-counted : counts_at (slot_of s page) g t l m page i ≡ false → (n : ℕ) → n < page_limit → slot_of s n ≡ i → Upto (i + 1) n ≡ Upto i n
    unfolding counts_at
    not-counted c n b k =
        let f : n ≡ page = slot-page n k in
        let j : slot_of s page ≡ i = rw f at k in
        let d : slot_differs g t l m page i ≡ false = rw (lt-ltb page page_limit (omega arith), eq-eqb (slot_of s page) i j) at c in
        let z : D n ≡ false = rw f (differs_at page i (is-staged j) (sym j) (sym d)) in
        rw z

    passed : counts_at (slot_of s page) g t l m page i ≡ false → pages_from (Upto (i + 1)) 0 ≡ pages_from (Upto i) 0
    passed c =
        pages-same (Upto (i + 1)) (Upto i) 0
        (λ n a b. ⊎_elim (λ k. not-counted c n b k) (λ k. upto-other i n k) (eq-or-not (slot_of s n) i))

    count_by : (n : ℕ) (b : Bool) → counts_at (slot_of s page) g t l m page i ≡ b → n ≡ length (pages_from (Upto i) 0) → pick b (n + 1) n ≡ length (pages_from (Upto (i + 1)) 0)
    count_by n true c f = let z = counted c in omega arith
    count_by n false c f = f ∙ sym (ap length (passed c))

    -- one slot more
    pub count-step : {n first : ℕ} {yes : Bool} → first ≡ find_in (staged_pages s) page → yes ≡ counts_at first g t l m page i
        → n ≡ length (pages_from (Upto i) 0) → pick yes (n + 1) n ≡ length (pages_from (Upto (i + 1)) 0)
    unfolding slot_of
    count-step {n} {first} {yes} z a c =
        let d : yes ≡ counts_at (slot_of s page) g t l m page i = a ∙ ap (λ (f : ℕ). counts_at f g t l m page i) z in
        count_by n yes (sym d) c

  -- all of them
  upto_all : (n : ℕ) (b : Bool) → is_staged s n ≡ b → both (both b (slot_differs g t l m n (slot_of s n))) b ≡ both b (slot_differs g t l m n (slot_of s n))
  upto_all n true e = both-true-right (slot_differs g t l m n (slot_of s n))
    where
      both-true-right : (b : Bool) → both b true ≡ b
      both-true-right true = refl
      both-true-right false = refl
  upto_all n false e = refl

  upto_is : (i n : ℕ) → i ≡ length (staged_pages s) → Upto i n ≡ D n
  unfolding is_staged
  upto_is i n e = rw (e, differs-slot n) (upto_all n (is_staged s n) refl)

  pub count-all : (i : ℕ) → i ≡ length (staged_pages s) → length (pages_from (Upto i) 0) ≡ length (pages_from D 0)
  count-all i e = ap length (pages-same (Upto i) D 0 (λ n a b. upto_is i n e))

-- ---- joining pages that aren't staged

module _ (s : Staged) (old new : ℕ) where
  abbrev pub L : ℕ → Bool
  L = lacks s old new

  lack-below : (n : ℕ) → n < max 1 old → L n ≡ false
  unfolding lacks
  lack-below n h =
      ⊎_elim (λ k. let i : n < old = omega (arith, k) in rw (le-leb 1 n k, lt-leb old n i)) (λ k. rw (lt-leb 1 n k)) (le-or-lt 1 n)

  pub lack-start : pages_from L 0 ≡ pages_from L (max 1 old)
  lack-start = pages-skip L 0 (max 1 old) (omega arith) (λ n a b. lack-below n b)

  module _ (p : ℕ) (h : max 1 old ≤ p) (k : p < new) (b : p < page_limit) where
    lack-at : (x : Bool) → is_staged s p ≡ x → L p ≡ not x
    unfolding lacks
    lack-at x e =
        let i : 1 ≤ p = omega arith in
        let j : old ≤ p = omega arith in
        rw (le-leb 1 p i, le-leb old p j, lt-ltb p new k, e)

  staged-before : (start q : ℕ) → start ≡ max 1 old → q ≤ min new page_limit → ((n : ℕ) → start ≤ n → n < q → is_staged s n ≡ true) → (n : ℕ) → n < q → L n ≡ false
  staged-before start q e h a n b =
      ⊎_elim (λ k. lack-at n (omega (arith, k, e)) (omega (arith, h, b)) (omega (arith, h, b)) true (a n k b)) (λ k. lack-below n (omega (arith, k, e))) (le-or-lt start n)

  lack-above : (n : ℕ) → new ≤ n → L n ≡ false
  unfolding lacks
  lack-above n h = rw (le-ltb n new h, both_false (leb old n), both_false (leb 1 n))

  pub lack-found : (start end : ℕ) (r : Option ℕ) → start ≡ max 1 old → end ≡ min new page_limit
      → MatchOption r ((n : ℕ) → start ≤ n → n < end → is_staged s n ≡ true) (λ p. (start ≤ p) × (p < end) × (is_staged s p ≡ false) × ((n : ℕ) → start ≤ n → n < p → is_staged s n ≡ true))
      → MatchOption r (first_of (pages_from L 0) ≡ page_limit) (λ p. (p ≡ first_of (pages_from L 0)) × (p < page_limit))
  lack-found start end None e f a =
      ap first_of (none_is L 0 (λ n _ b. ⊎_elim (λ k. lack-above n (omega (arith, k, f, b))) (λ k. staged-before start end e (omega (arith, f)) a n k) (le-or-lt end n)))
  lack-found start end (Some p) e f a =
      let b : p < page_limit = omega (arith, a.1, f) in
      let x : L p ≡ true = lack-at p (omega (arith, a.0, e)) (omega (arith, a.1, f)) b false a.2 in
      (sym (first-is L 0 p (omega arith) b x (λ n _ k. staged-before start p e (omega (arith, a.1, f)) a.3 n k)), b)
