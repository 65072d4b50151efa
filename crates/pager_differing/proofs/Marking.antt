-- The marks of the pages that differ, slot by slot. Assumes nothing.
use Rattle.std.proofs.Common.{◌≡◌, ℕ, ◌+◌, ◌<◌, ◌≤◌, min, Bool, true, false, List, length, get_or, take, set, replicate, sym, refl, ◌∙◌, ⊎_elim, arith, length-set, length-take, get_or-set_other, get_or-take, get_or-set_same, ltb-true, lt-ltb, eq-eqb}
use lib.ListN.{length-replicate, get_or-replicate}
use Rattle.le.specs.Choice.{pick}
use Rattle.le.proofs.Tests.{eq-or-not}
use Rattle.le.proofs.Compare.{both_true}
use Rattle.pager_state.specs.World.{page_limit, staged_limit}
use Rattle.pager_state.specs.Overlay.{find_in, staged_pages, slot_of, is_staged}
use Rattle.pager_state.specs.Pages.{differs_in}
use Rattle.pager_state.specs.declared.Staged.{Staged}
use Rattle.pager_state.proofs.Slots.{find-there, find-most}
use Rattle.pager_differing.specs.Differing.{is_in, slot_differs, counts_at, Marks}
use Rattle.pager_differing.proofs.Differing.{differs-slot, counts-told}

module _ (s : Staged) (g t l m : List ℕ) where
  abbrev page_at : ℕ → ℕ
  page_at j = get_or s.pages j 0

  abbrev mark_at : ℕ → ℕ
  mark_at j = pick (counts_at (slot_of s (page_at j)) g t l m (page_at j) j) (page_at j) 65535

  -- the first i slots are marked
  pub record Front (i : ℕ) (marks : List ℕ) : Type 0 where
    pub long : length marks ≡ staged_limit
    pub front : (j : ℕ) → j < i → get_or marks j 0 ≡ mark_at j
    pub back : (j : ℕ) → i ≤ j → j < staged_limit → get_or marks j 0 ≡ 65535

  pub marks-none : Front 0 (replicate {A = ℕ} staged_limit 65535)
  marks-none = record { long = length-replicate {A = ℕ} staged_limit 65535; front = λ j h. absurd (omega (arith, h)); back = λ j h k. get_or-replicate staged_limit j 65535 0 k }

  -- one slot more, whose page is marked
  pub marks-more : (i : ℕ) {marks : List ℕ} → Front i marks → i < staged_limit → counts_at (slot_of s (page_at i)) g t l m (page_at i) i ≡ true
      → Front (i + 1) (set marks i (page_at i))
  marks-more i {marks} k h c = record {
    long = length-set marks i (page_at i) ∙ k.long;
    front = λ j f. ⊎_elim (λ (z : j ≡ i). rw (z, c) (get_or-set_same marks i (page_at i) 0 (omega (arith, k.long, h)))) (λ z. other j z ∙ k.front j (omega (arith, f, z))) (eq-or-not j i);
    back = λ j f o. other j (λ z. omega (arith, z, f)) ∙ k.back j (omega arith) o;
  }
    where
      other : (j : ℕ) → (j ≡ i → ⊥) → get_or (set marks i (page_at i)) j 0 ≡ get_or marks j 0
      other j d = get_or-set_other marks i j (page_at i) 0 d

  -- or not
  pub marks-kept : (i : ℕ) {marks : List ℕ} → Front i marks → i < staged_limit → counts_at (slot_of s (page_at i)) g t l m (page_at i) i ≡ false → Front (i + 1) marks
  marks-kept i k h c = record {
    long = k.long;
    front = λ j f. ⊎_elim (λ (z : j ≡ i). rw (z, c) (k.back i (omega arith) h)) (λ z. k.front j (omega (arith, f, z))) (eq-or-not j i);
    back = λ j f o. k.back j (omega arith) o;
  }

  -- ---- all of them

  module _ (i : ℕ) {marks : List ℕ} (k : Front i marks) (e : i ≡ length (staged_pages s)) (long : length s.pages ≡ staged_limit) where
    -- a staged page stands in its slot
    slot-in : (n : ℕ) → is_staged s n ≡ true → slot_of s n < i
    unfolding is_staged
    slot-in n o = let h = ltb-true (slot_of s n) (length (staged_pages s)) o in omega (arith, h, e)

    slot_has : (n : ℕ) → is_staged s n ≡ true → page_at (slot_of s n) ≡ n
    unfolding slot_of is_staged
    slot_has n o =
        let h : find_in (staged_pages s) n < length (staged_pages s) = ltb-true (find_in (staged_pages s) n) (length (staged_pages s)) o in
        let c : length (staged_pages s) ≡ min s.count (length s.pages) = length-take s.count s.pages in
        sym (get_or-take s.count s.pages (find_in (staged_pages s) n) 0 (omega (arith, h, c))) ∙ find-there (staged_pages s) n h

    -- what stands among the marks differs, and has that slot
    mark-by : (n j : ℕ) (b : Bool) → n < page_limit → j < i → counts_at (slot_of s (page_at j)) g t l m (page_at j) j ≡ b → pick b (page_at j) 65535 ≡ n
        → (differs_in s g t l m n ≡ true) × (slot_of s n ≡ j)
    mark-by n j true h f c z =
        let a = counts-told s g t l m j (page_at j) (omega (arith, f, e)) refl c in
        (rw (← z) a.1.1, rw (← z) a.1.0)
    mark-by n j false h f c z = absurd (omega (arith, h, z))

    -- the marks of the slots that are taken
    abbrev L : List ℕ
    L = take s.count marks

    size : length L ≡ i
    size =
        let c : length (staged_pages s) ≡ min s.count (length s.pages) = length-take s.count s.pages in
        let d : length L ≡ min s.count (length marks) = length-take s.count marks in
        omega (arith, c, d, e, long, k.long)

    mark-in : (j : ℕ) → j < i → get_or L j 0 ≡ mark_at j
    mark-in j h =
        let d : length L ≡ min s.count (length marks) = length-take s.count marks in
        get_or-take s.count marks j 0 (omega (arith, d, size, h)) ∙ k.front j h

    found-mark : (n : ℕ) → n < page_limit → is_in L n ≡ true → (differs_in s g t l m n ≡ true) × (slot_of s n ≡ find_in L n)
    unfolding is_in
    found-mark n h o =
        let f = ltb-true (find_in L n) (length L) o in
        let j : find_in L n < i = omega (arith, f, size) in
        mark-by n (find_in L n) (counts_at (slot_of s (page_at (find_in L n))) g t l m (page_at (find_in L n)) (find_in L n)) h j refl (sym (mark-in (find_in L n) j) ∙ find-there L n f)

    -- a page that differs stands there
    counts-own : (n : ℕ) → n < page_limit → slot_differs g t l m n (slot_of s n) ≡ true → counts_at (slot_of s n) g t l m n (slot_of s n) ≡ true
    unfolding counts_at
    counts-own n h d = rw (lt-ltb n page_limit h, eq-eqb (slot_of s n) (slot_of s n) refl, d)

    has-mark : (n : ℕ) → n < page_limit → differs_in s g t l m n ≡ true → is_in L n ≡ true
    unfolding is_in
    has-mark n h d =
        let c = both_true (is_staged s n) (slot_differs g t l m n (slot_of s n)) (sym (differs-slot s g t l m n) ∙ d) in
        let p = slot_has n c.0 in
        let o = slot-in n c.0 in
        let y : get_or L (slot_of s n) 0 ≡ n = mark-in (slot_of s n) o ∙ rw (p, counts-own n h c.1) in
        let f = find-most L (slot_of s n) n (omega (arith, o, size)) y in
        lt-ltb (find_in L n) (length L) (omega (arith, f, o, size))

    same_by : (n : ℕ) → n < page_limit → (a b : Bool) → is_in L n ≡ a → differs_in s g t l m n ≡ b → a ≡ b
    same_by n h true b x y = sym (found-mark n h x).0 ∙ y
    same_by n h false true x y = sym x ∙ has-mark n h y
    same_by n h false false x y = refl

    pub marks-all : Marks (differs_in s g t l m) s L
    marks-all = record { same = λ n h. same_by n h (is_in L n) (differs_in s g t l m n) refl refl; slot = λ n h o. sym (found-mark n h o).1 }
