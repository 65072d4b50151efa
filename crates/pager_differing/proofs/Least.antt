-- The search for the lowest page of a list that is not below another. Assumes nothing.
use Rattle.std.proofs.Common.{◌≡◌, ℕ, ◌+◌, ◌%◌, ◌<◌, ◌≤◌, min, Bool, true, false, ltb, List, [], length, get_or, sym, refl, ap, ◌∙◌, ⊎_elim, arith, ltb-true, lt-ltb}
use Rattle.le.proofs.Tests.{le-or-lt, eq-or-not}
use Rattle.pager_state.specs.World.{page_limit}
use Rattle.pager_state.specs.Overlay.{find_in}
use Rattle.pager_state.specs.Pages.{pages_from, first_of}
use Rattle.pager_state.proofs.Slots.{find-there, find-most}
use Rattle.pager_state.proofs.Walks.{first-is, none_is}
use Rattle.pager_differing.specs.Differing.{is_in}

-- ---- where a list has a page

-- a page that stands nowhere
not-by : (l : List ℕ) (x : ℕ) → ((j : ℕ) → j < length l → get_or l j 0 ≡ x → ⊥) → (b : Bool) → ltb (find_in l x) (length l) ≡ b → b ≡ false
not-by l x a true e = let h = ltb-true (find_in l x) (length l) e in absurd (a (find_in l x) h (find-there l x h))
not-by l x a false e = refl

not_in : (l : List ℕ) (x : ℕ) → ((j : ℕ) → j < length l → get_or l j 0 ≡ x → ⊥) → is_in l x ≡ false
unfolding is_in
not_in l x a = not-by l x a (ltb (find_in l x) (length l)) refl

-- ---- the search

-- x is one of the first i
pub record Stands (s : List ℕ) (i x : ℕ) : Type 0 where
  pub index : ℕ
  pub front : index < i
  pub there : get_or s index 0 ≡ x

-- of the first i from `page` on the lowest is `least` above it, if that is a page
pub record Least (s : List ℕ) (page i least : ℕ) : Type 0 where
  pub most : least < 65536
  pub low : (j : ℕ) → j < i → page ≤ get_or s j 0 → page + least ≤ get_or s j 0
  pub stands : page + least < page_limit → Stands s i (page + least)

pub least-none : (s : List ℕ) (page : ℕ) → Least s page 0 65535
least-none s page = record { most = omega arith; low = λ j h k. absurd (omega arith); stands = λ h. absurd (omega (arith, h)) }

module _ (s : List ℕ) (page i : ℕ) {least : ℕ} (v : Least s page i least) where
  old-stands : page + least < page_limit → Stands s (i + 1) (page + least)
  old-stands k = let u = v.stands k in record { index = u.index; front = omega (arith, u.front); there = u.there }

  -- with one more the least that both allow is at most either
  low-with : (d : ℕ) → d ≤ least → (page ≤ get_or s i 0 → page + d ≤ get_or s i 0) → (j : ℕ) → j < i + 1 → page ≤ get_or s j 0 → page + d ≤ get_or s j 0
  low-with d h l j k g = ⊎_elim (λ (e : j ≡ i). at e) (λ e. let z = v.low j (omega (arith, e)) g in omega arith) (eq-or-not j i)
    where
      at : j ≡ i → page + d ≤ get_or s j 0
      at e = let z = ap (λ (n : ℕ). get_or s n 0) e in let y = l (omega arith) in omega arith

  module _ (rise : ℕ) (h : rise < 65536) (p : page < page_limit) (e : (rise + page) % 65536 ≡ get_or s i 0) where
    rises : page ≤ get_or s i 0 → page + rise ≡ get_or s i 0
    rises g = omega (arith, e)

    -- the page at i is the lowest now, or the old one is
    new : rise < least → Least s page (i + 1) rise
    new l =
        record {
          most = h;
          low = low-with rise (omega arith) (λ g. omega (arith, rises g));
          stands = λ k. record { index = i; front = omega arith; there = omega (arith, e) };
        }

    old : least ≤ rise → Least s page (i + 1) least
    old l = record { most = v.most; low = low-with least (omega arith) (λ g. omega (arith, rises g)); stands = old-stands }

  -- one more
  pub least_step : (rise : ℕ) {next : ℕ} → rise < 65536 → page < page_limit → (rise + page) % 65536 ≡ get_or s i 0 → next ≡ min least rise
      → Least s page (i + 1) next
  least_step rise {next} h p e f =
      ⊎_elim (λ l. let z : next ≡ least = omega (arith, l) in rw z (old rise h p e l))
      (λ l. let z : next ≡ rise = omega (arith, l) in rw z (new rise h p e l)) (le-or-lt least rise)

module _ (s : List ℕ) (page : ℕ) {i least : ℕ} (all : i ≡ length s) (p : page < page_limit) (v : Least s page i least) where
  -- no page from `page` to below the lowest is in the list
  none-lower : (k : ℕ) → page ≤ k → k < page + least → is_in s k ≡ false
  none-lower k g l =
      not_in s k
      (λ j h e. let y = v.low j (omega arith) (omega arith) in omega arith)

  is-in : page + least < page_limit → is_in s (page + least) ≡ true
  unfolding is_in
  is-in h =
      let u = v.stands h in
      let k : u.index < length s = omega (arith, u.front) in
      let m = find-most s u.index (page + least) k u.there in
      lt-ltb (find_in s (page + least)) (length s) (omega (arith, m, k))

  some : page + least < page_limit → min page_limit (page + least) ≡ first_of (pages_from (is_in s) page)
  some h =
      let m : min page_limit (page + least) ≡ page + least = omega arith in
      m ∙ sym (first-is (is_in s) page (page + least) (omega arith) h (is-in h) none-lower)

  none : page_limit ≤ page + least → min page_limit (page + least) ≡ first_of (pages_from (is_in s) page)
  none h =
      let e : pages_from (is_in s) page ≡ [] = none_is (is_in s) page (λ k g l. none-lower k g (omega (arith, h))) in
      let m : min page_limit (page + least) ≡ page_limit = omega arith in
      m ∙ sym (ap first_of e)

  -- all of them
  pub least-page : min page_limit (page + least) ≡ first_of (pages_from (is_in s) page)
  least-page = ⊎_elim none some (le-or-lt page_limit (page + least))
