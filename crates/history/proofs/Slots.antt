-- The staged pages by their slots: what is staged for a page, and a page staged anew. Assumes nothing.
use mathlib.Core.Path.{◌≡◌, refl, sym, ap, subst, ◌∙◌}
use mathlib.Core.Bool.{Bool, true, false}
use mathlib.Core.List.{List, [], ◌∷◌, ◌++◌}
use mathlib.Core.Logic.{◌⊎◌, inl, inr, ⊎_elim}
use Prim.Native.Nat.{ℕ, suc, ◌+◌, ◌*◌, max, ◌≤◌, ◌<◌}
use native.Mathlib.Omega.{arith}
use borrow.Author.Tests.{eq-eqb, ne_eqb, lt-ltb, le-ltb, ltb-true}
use lib.Dec.{ltb, eqb}
use lib.ListN.{length, drop, get_or, set, length-append, length-take, length-drop, length-set}
use lib.Seq.{length-take-le, get_or-take, get_or-set_same, get_or-set_other, set-get_or, take-suc-set}
use Rattle.std.specs.Prelude.{Option, None, Some}
use Rattle.le.specs.Choice.{pick}
use Rattle.le.specs.Le.{put}
use Rattle.le.proofs.Tests.{le-or-lt, eq-or-not}
use Rattle.page.specs.Page.{page_size}
use Rattle.pager_state.specs.Overlay.{page_from, find_in, staged_pages, slot_of, is_staged, staged_bytes}
use Rattle.pager_state.specs.Staging.{with_slot}
use Rattle.pager_state.specs.declared.Staged.{Staged}
use Rattle.pager_state.proofs.Slots.{find-length, find-there}
use Rattle.pager_state.specs.World.{staging_area, staged_limit, page_limit}
use Rattle.history.proofs.Files.{page-other, page-same}

-- what is staged for a page
abbrev pub staged_for : Staged → List ℕ → ℕ → Option (List ℕ)
staged_for s g n = pick (is_staged s n) (Some (staged_bytes s g n)) None

pub record Slots (s : Staged) : Type 0 where
  pub few : s.count ≤ staged_limit
  pub long : length s.pages ≡ staged_limit
  pub low : (i : ℕ) → i < s.count → get_or s.pages i 0 < page_limit
  pub once : (i : ℕ) → i < s.count → slot_of s (get_or s.pages i 0) ≡ i  -- no page has two

-- ---- finding a page

find-in : (xs ys : List ℕ) (n : ℕ) → find_in xs n < length xs → find_in (xs ++ ys) n ≡ find_in xs n
find-in [] ys n h = absurd (omega arith)
find-in (x ∷ xs) ys n h = go (eqb x n) h (find-in xs ys n)
  where
    go : (t : Bool) → pick t 0 (suc (find_in xs n)) < suc (length xs) → (find_in xs n < length xs → find_in (xs ++ ys) n ≡ find_in xs n)
        → pick t 0 (suc (find_in (xs ++ ys) n)) ≡ pick t 0 (suc (find_in xs n))
    go true k later = refl
    go false k later = ap suc (later (omega arith))

find-out : (xs ys : List ℕ) (n : ℕ) → length xs ≤ find_in xs n → find_in (xs ++ ys) n ≡ length xs + find_in ys n
find-out [] ys n h = omega arith
find-out (x ∷ xs) ys n h = go (eqb x n) h (find-out xs ys n)
  where
    go : (t : Bool) → suc (length xs) ≤ pick t 0 (suc (find_in xs n)) → (length xs ≤ find_in xs n → find_in (xs ++ ys) n ≡ length xs + find_in ys n)
        → pick t 0 (suc (find_in (xs ++ ys) n)) ≡ suc (length xs) + find_in ys n
    go true k later = absurd (omega arith)
    go false k later = let e : find_in (xs ++ ys) n ≡ length xs + find_in ys n = later (omega arith) in omega arith

-- ---- the view of a list of slots

abbrev slot_for : List ℕ → List ℕ → ℕ → Option (List ℕ)
slot_for xs g n = pick (ltb (find_in xs n) (length xs)) (Some (page_from (page_size * find_in xs n) g)) None

module _ (xs g bytes : List ℕ) (n : ℕ) (hb : length bytes ≡ page_size) (hg : page_size * length xs ≤ length g) where
  -- the page has a slot
  again : find_in xs n < length xs → (m : ℕ) → slot_for xs (put g (page_size * find_in xs n) bytes) m ≡ pick (eqb m n) (Some bytes) (slot_for xs g m)
  again h m = go (eq-or-not m n) (le-or-lt (suc (find_in xs m)) (length xs))
    where
      room : page_size * find_in xs n ≤ length g
      room = omega arith

      go : (m ≡ n) ⊎ (m ≡ n → ⊥) → (find_in xs m < length xs) ⊎ (length xs < suc (find_in xs m))
          → slot_for xs (put g (page_size * find_in xs n) bytes) m ≡ pick (eqb m n) (Some bytes) (slot_for xs g m)
      go (inl e) c = rw (e, eq-eqb n n refl, lt-ltb (find_in xs n) (length xs) h, page-same g (find_in xs n) bytes (omega arith) room hb)
      go (inr e) (inl c) =
          let ne : find_in xs m ≡ find_in xs n → ⊥ = λ q. e (sym (find-there xs m c) ∙ ap (λ (k : ℕ). get_or xs k 0) q ∙ find-there xs n h) in
          rw (ne_eqb m n e, lt-ltb (find_in xs m) (length xs) c, page-other g (find_in xs n) bytes (omega arith) room (find_in xs m) ne)
      go (inr e) (inr c) = rw (ne_eqb m n e, le-ltb (find_in xs m) (length xs) (omega arith))

  -- it gets the next
  more : length xs ≤ find_in xs n → (m : ℕ) → slot_for (xs ++ (n ∷ [])) (put g (page_size * find_in xs n) bytes) m ≡ pick (eqb m n) (Some bytes) (slot_for xs g m)
  more h m = go (eq-or-not m n) (le-or-lt (suc (find_in xs m)) (length xs))
    where
      here : find_in xs n ≡ length xs
      here = omega (arith, find-length xs n)

      room : page_size * find_in xs n ≤ length g
      room = omega (arith, here)

      long : length (xs ++ (n ∷ [])) ≡ length xs + 1
      long = length-append xs (n ∷ [])

      go : (m ≡ n) ⊎ (m ≡ n → ⊥) → (find_in xs m < length xs) ⊎ (length xs < suc (find_in xs m))
          → slot_for (xs ++ (n ∷ [])) (put g (page_size * find_in xs n) bytes) m ≡ pick (eqb m n) (Some bytes) (slot_for xs g m)
      go (inl e) c =
          let f : find_in (xs ++ (n ∷ [])) n ≡ find_in xs n = find-out xs (n ∷ []) n h ∙ rw (eq-eqb n n refl) (omega (arith, here)) in
          let lt : find_in xs n < length xs + 1 = omega (arith, here) in
          rw (e, eq-eqb n n refl, f, long, lt-ltb (find_in xs n) (length xs + 1) lt, page-same g (find_in xs n) bytes (omega arith) room hb)
      go (inr e) (inl c) =
          let ne : find_in xs m ≡ find_in xs n → ⊥ = λ q. omega (arith, here) in
          let lt : find_in xs m < length xs + 1 = omega arith in
          rw (
            ne_eqb m n e,
            find-in xs (n ∷ []) m c,
            long,
            lt-ltb (find_in xs m) (length xs + 1) lt,
            lt-ltb (find_in xs m) (length xs) c,
            page-other g (find_in xs n) bytes (omega arith) room (find_in xs m) ne,
          )
      go (inr e) (inr c) =
          let ne : n ≡ m → ⊥ = λ q. e (sym q) in
          let f : find_in (xs ++ (n ∷ [])) m ≡ length xs + 1 = find-out xs (n ∷ []) m (omega arith) ∙ rw (ne_eqb n m ne) in
          rw (ne_eqb m n e, f, long, le-ltb (length xs + 1) (length xs + 1) (omega arith), le-ltb (find_in xs m) (length xs) (omega arith))

-- ---- the staging

module _ (s : Staged) (k : Slots s) where
  pub slots-few : length (staged_pages s) ≡ s.count
  slots-few = length-take-le s.count s.pages (omega (arith, k.few, k.long))

  pub slot-most : (n : ℕ) → slot_of s n ≤ s.count
  unfolding slot_of
  slot-most n = omega (arith, find-length (staged_pages s) n, slots-few)

  pub slot-staged : (n : ℕ) → is_staged s n ≡ true → slot_of s n < staged_limit
  unfolding is_staged
  slot-staged n e = omega (arith, ltb-true (slot_of s n) (length (staged_pages s)) e, slots-few, k.few)

  pub staged-long : (g : List ℕ) (n : ℕ) → length g ≡ staging_area → is_staged s n ≡ true → length (staged_bytes s g n) ≡ page_size
  unfolding staged_bytes
  staged-long g n hg e =
      length-take page_size (drop (page_size * slot_of s n) g) ∙ omega (arith, length-drop (page_size * slot_of s n) g, slot-staged n e)

  module _ (n : ℕ) (low : slot_of s n < staged_limit) where
    slot-again : find_in (staged_pages s) n < length (staged_pages s) → with_slot s (slot_of s n) n ≡ s
    unfolding with_slot slot_of
    slot-again h =
        let i : ℕ = find_in (staged_pages s) n in
        let lt : i < s.count = omega (arith, slots-few) in
        let c : max s.count (i + 1) ≡ s.count = omega arith in
        let e : get_or s.pages i 0 ≡ n = sym (get_or-take s.count s.pages i 0 lt) ∙ find-there (staged_pages s) n h in
        let p : set s.pages i n ≡ s.pages = ap (λ (x : ℕ). set s.pages i x) (sym e) ∙ set-get_or s.pages i 0 in
        rw (c, p)

    pages-more : length (staged_pages s) ≤ find_in (staged_pages s) n → staged_pages (with_slot s (slot_of s n) n) ≡ staged_pages s ++ (n ∷ [])
    unfolding with_slot slot_of
    pages-more h =
        let i : ℕ = find_in (staged_pages s) n in
        let e : i ≡ s.count = omega (arith, find-length (staged_pages s) n, slots-few) in
        let c : max s.count (i + 1) ≡ suc s.count = omega arith in
        rw (c, e) (take-suc-set s.pages s.count n (omega (arith, k.long, slot-most n, low)))

    -- the next slot's page is n, the others are as they were
    page-new : get_or (with_slot s (slot_of s n) n).pages (slot_of s n) 0 ≡ n
    unfolding with_slot
    page-new = get_or-set_same s.pages (slot_of s n) n 0 (omega (arith, k.long, low))

    page-old : (i : ℕ) → (i ≡ slot_of s n → ⊥) → get_or (with_slot s (slot_of s n) n).pages i 0 ≡ get_or s.pages i 0
    unfolding with_slot
    page-old i h = get_or-set_other s.pages (slot_of s n) i n 0 h

    module _ (new : length (staged_pages s) ≤ find_in (staged_pages s) n) where
      at-end : slot_of s n ≡ s.count
      unfolding slot_of
      at-end = omega (arith, find-length (staged_pages s) n, slots-few, new)

      one-longer : (with_slot s (slot_of s n) n).count ≡ s.count + 1
      unfolding with_slot
      one-longer = omega (arith, at-end)

      -- an old page, or the new one
      slot_cases : {A : ℕ → Type 0} → ((i : ℕ) → i < s.count → A i) → A (slot_of s n) → (i : ℕ) → i < (with_slot s (slot_of s n) n).count → A i
      slot_cases {A} old here i h =
          ⊎_elim (λ (l : suc i ≤ s.count). old i l)
          (λ l. let e : slot_of s n ≡ i = omega (arith, at-end, one-longer, h, l) in subst A e here) (le-or-lt (suc i) s.count)

      more-low : n < page_limit → (i : ℕ) → i < (with_slot s (slot_of s n) n).count → get_or (with_slot s (slot_of s n) n).pages i 0 < page_limit
      more-low page =
          slot_cases (λ i h. rw (page-old i (λ e. omega (arith, at-end, e, h))) (k.low i h)) (rw page-new page)

      more-once : (i : ℕ) → i < (with_slot s (slot_of s n) n).count → slot_of (with_slot s (slot_of s n) n) (get_or (with_slot s (slot_of s n) n).pages i 0) ≡ i
      unfolding slot_of
      more-once =
          slot_cases
          (λ i h.
          let y : ℕ = get_or s.pages i 0 in
          let e : find_in (staged_pages s) y ≡ i = k.once i h in
          rw (page-old i (λ q. omega (arith, at-end, q, h)), pages-more new)
          (find-in (staged_pages s) (n ∷ []) y (omega (arith, e, h, slots-few)) ∙ e))
          (rw (page-new, pages-more new) (find-out (staged_pages s) (n ∷ []) n new ∙ rw (eq-eqb n n refl) (omega (arith, at-end, slots-few))))

    pub slotted-slots : n < page_limit → Slots (with_slot s (slot_of s n) n)
    unfolding with_slot
    slotted-slots page = go (le-or-lt (suc (find_in (staged_pages s) n)) (length (staged_pages s)))
      where
        go : (find_in (staged_pages s) n < length (staged_pages s)) ⊎ (length (staged_pages s) < suc (find_in (staged_pages s) n)) → Slots (with_slot s (slot_of s n) n)
        go (inl h) = rw (slot-again h) k
        go (inr h) =
            record {
              few = omega (arith, k.few);
              long = length-set s.pages (slot_of s n) n ∙ k.long;
              low = more-low (omega arith) page;
              once = more-once (omega arith);
            }

    -- "that page is staged anew"
    pub staged-anew : (g bytes : List ℕ) → length g ≡ staging_area → length bytes ≡ page_size → (m : ℕ)
        → staged_for (with_slot s (slot_of s n) n) (put g (page_size * slot_of s n) bytes) m ≡ pick (eqb m n) (Some bytes) (staged_for s g m)
    unfolding is_staged staged_bytes slot_of
    staged-anew g bytes hg hb m = go (le-or-lt (suc (find_in (staged_pages s) n)) (length (staged_pages s)))
      where
        room : page_size * length (staged_pages s) ≤ length g
        room = omega (arith, slots-few, k.few)

        go : (find_in (staged_pages s) n < length (staged_pages s)) ⊎ (length (staged_pages s) < suc (find_in (staged_pages s) n))
            → staged_for (with_slot s (slot_of s n) n) (put g (page_size * slot_of s n) bytes) m ≡ pick (eqb m n) (Some bytes) (staged_for s g m)
        go (inl h) = rw (slot-again h) (again (staged_pages s) g bytes n hb room h m)
        go (inr h) = rw (pages-more (omega arith)) (more (staged_pages s) g bytes n hb room (omega arith) m)
