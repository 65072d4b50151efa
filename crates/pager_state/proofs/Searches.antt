-- Laws of the search for pages: one page looked at, the first page found, pages counted, and two tests that agree. Assumes nothing.
use mathlib.Core.Path.{◌≡◌, refl, sym, ap, ◌∙◌}
use mathlib.Core.Bool.{Bool, true, false}
use mathlib.Core.List.{List, [], ◌∷◌}
use mathlib.Core.Logic.{⊎_elim}
use Prim.Native.Nat.{ℕ, zero, suc, ◌+◌, ◌-◌, ◌≤◌, ◌<◌}
use native.Mathlib.Omega.{arith}
use lib.ListN.{length}
use Rattle.le.specs.Choice.{pick}
use Rattle.le.proofs.Tests.{le-or-lt}
use Rattle.pager_state.specs.World.{page_limit}
use Rattle.pager_state.specs.Pages.{among, pages_from, first_of}

-- ---- one page

module _ (f : ℕ → Bool) where
  pages-cons : (p : ℕ) → p < page_limit → pages_from f p ≡ pick (f p) (p ∷ pages_from f (suc p)) (pages_from f (suc p))
  unfolding pages_from among
  pages-cons p h =
      let e : 1024 - p ≡ suc (1024 - suc p) = omega arith in
      ap (λ (k : ℕ). among f k p) e

  -- the page is one of them
  pub pages-hit : (p : ℕ) → p < page_limit → f p ≡ true → pages_from f p ≡ p ∷ pages_from f (suc p)
  pages-hit p h e = pages-cons p h ∙ rw e

  -- or not
  pub pages-miss : (p : ℕ) → p < page_limit → f p ≡ false → pages_from f p ≡ pages_from f (suc p)
  pages-miss p h e = pages-cons p h ∙ rw e

  -- no page is left
  pub pages-end : (p : ℕ) → page_limit ≤ p → pages_from f p ≡ []
  unfolding pages_from among
  pages-end p h =
      let e : 1024 - p ≡ 0 = omega arith in
      ap (λ (k : ℕ). among f k p) e

  -- ---- the first page found

  -- q is the first page from p on
  pub record First (p q : ℕ) : Type 0 where
    pub from : p ≤ q
    pub below : q < page_limit
    pub holds : f q ≡ true
    pub before : (n : ℕ) → p ≤ n → n < q → f n ≡ false
    pub split : pages_from f p ≡ q ∷ pages_from f (suc q)

  missed : (p n : ℕ) → f p ≡ false → p ≤ n → (suc p ≤ n → f n ≡ false) → f n ≡ false
  missed p n t h k =
      ⊎_elim (λ (e : n ≤ p). let i : p ≡ n = omega arith in rw i at t) k (le-or-lt n p)

  first-at : (p q : ℕ) (qs : List ℕ) → pages_from f p ≡ q ∷ qs → p < page_limit → (pages_from f (suc p) ≡ q ∷ qs → First (suc p) q) → (b : Bool) → f p ≡ b
      → First p q
  first-at p q qs e l r true t =
      let s : pages_from f p ≡ p ∷ pages_from f (suc p) = pages-hit p l t in
      let i : q ≡ p = cc in
      rw i (record { from = omega arith; below = l; holds = t; before = λ n h k. absurd (omega arith); split = s })
  first-at p q qs e l r false t =
      let m : pages_from f p ≡ pages_from f (suc p) = pages-miss p l t in
      let x = r (sym m ∙ e) in
      record {
        from = omega (arith, x.from);
        below = x.below;
        holds = x.holds;
        before = λ n h k. missed p n t h (λ i. x.before n i k);
        split = m ∙ x.split;
      }

  first-of : (k p q : ℕ) (qs : List ℕ) → k ≡ page_limit - p → pages_from f p ≡ q ∷ qs → First p q
  first-of zero p q qs k e =
      let z : pages_from f p ≡ [] = pages-end p (omega arith) in
      absurd (let n = ap length (sym z ∙ e) in omega (arith, n))
  first-of (suc k) p q qs m e = first-at p q qs e (omega arith) (λ z. first-of k (suc p) q qs (omega arith) z) (f p) refl

  pub first : (p q : ℕ) (qs : List ℕ) → pages_from f p ≡ q ∷ qs → First p q
  first p q qs e = first-of (page_limit - p) p q qs refl e

  none-at : (p : ℕ) → pages_from f p ≡ [] → p < page_limit → (b : Bool) → f p ≡ b → (f p ≡ false) × (pages_from f (suc p) ≡ [])
  none-at p e l true t = absurd (let z = ap length (sym e ∙ pages-hit p l t) in omega (arith, z))
  none-at p e l false t = (t, sym (pages-miss p l t) ∙ e)

  none_of : (k p : ℕ) → k ≡ page_limit - p → pages_from f p ≡ [] → (n : ℕ) → p ≤ n → n < page_limit → f n ≡ false
  none_of zero p m e n h l = absurd (omega arith)
  none_of (suc k) p m e n h l =
      let x = none-at p e (omega arith) (f p) refl in
      missed p n x.0 h (λ i. none_of k (suc p) (omega arith) x.1 n i l)

  -- there is none from p on
  pub pages-none : (p : ℕ) → pages_from f p ≡ [] → (n : ℕ) → p ≤ n → n < page_limit → f n ≡ false
  pages-none p e = none_of (page_limit - p) p refl e

  -- the same by the lowest
  lowest-at : (p q : ℕ) (l : List ℕ) → pages_from f p ≡ l → q ≡ first_of l → q < page_limit → First p q
  lowest-at p q [] e i h = absurd (omega arith)
  lowest-at p q (n ∷ ns) e i h = rw i (first p n ns e)

  pub lowest : (p q : ℕ) → q ≡ first_of (pages_from f p) → q < page_limit → First p q
  lowest p q i h = lowest-at p q (pages_from f p) refl i h

  no-lowest-at : (p : ℕ) (l : List ℕ) → pages_from f p ≡ l → page_limit ≤ first_of l → l ≡ []
  no-lowest-at p [] e h = refl
  no-lowest-at p (n ∷ ns) e h = absurd (omega (arith, (first p n ns e).below))

  pub no-lowest : (p : ℕ) → page_limit ≤ first_of (pages_from f p) → pages_from f p ≡ []
  no-lowest p h = no-lowest-at p (pages_from f p) refl h

  -- ---- all of them

  length_at : (p : ℕ) (l : List ℕ) (k : ℕ) (b : Bool) → length l ≤ k → length (pick b (p ∷ l) l) ≤ suc k
  length_at p l k true h = omega arith
  length_at p l k false h = omega arith

  length-among : (k p : ℕ) → length (among f k p) ≤ k
  unfolding among
  length-among zero p = omega arith
  length-among (suc k) p = length_at p (among f k (suc p)) k (f p) (length-among k (suc p))

  -- how many there can be
  pub pages-length : (p : ℕ) → length (pages_from f p) ≤ page_limit - p
  unfolding pages_from
  pages-length p = length-among (page_limit - p) p

  -- a list of pages of which the test holds
  abbrev pub Each : List ℕ → Type 0
  Each [] = Unit {0}
  Each (q ∷ qs) = (f q ≡ true) × ((q < page_limit) × Each qs)

  each_at : (p : ℕ) (l : List ℕ) → p < page_limit → (b : Bool) → f p ≡ b → Each l → Each (pick b (p ∷ l) l)
  each_at p l h true e a = (e, (h, a))
  each_at p l h false e a = a

  each-among : (k p : ℕ) → p + k ≤ page_limit → Each (among f k p)
  unfolding among
  each-among zero p h = tt
  each-among (suc k) p h = each_at p (among f k (suc p)) (omega arith) (f p) refl (each-among k (suc p) (omega arith))

  each_over : (p : ℕ) → page_limit < p → Each (pages_from f p)
  each_over p h = rw (pages-end p (omega arith)) tt

  pub pages-each : (p : ℕ) → Each (pages_from f p)
  unfolding pages_from
  pages-each p = ⊎_elim (λ h. each-among (page_limit - p) p (omega (arith, h))) (each_over p) (le-or-lt p page_limit)

-- ---- two tests that agree

pub among_same : (f g : ℕ → Bool) (k p : ℕ) → ((n : ℕ) → p ≤ n → n < p + k → f n ≡ g n) → among f k p ≡ among g k p
unfolding among
among_same f g zero p h = refl
among_same f g (suc k) p h =
    let e : f p ≡ g p = h p (omega arith) (omega arith) in
    let r : among f k (suc p) ≡ among g k (suc p) = among_same f g k (suc p) (λ n a b. h n (omega arith) (omega arith)) in
    rw (e, r)

-- find the same pages
pub pages-same : (f g : ℕ → Bool) (p : ℕ) → ((n : ℕ) → p ≤ n → n < page_limit → f n ≡ g n) → pages_from f p ≡ pages_from g p
unfolding pages_from
pages-same f g p h = among_same f g (page_limit - p) p (λ n a b. h n a (omega arith))

-- where one holds of each, so does the other that follows from it
pub each_map : (f g : ℕ → Bool) (l : List ℕ) → ((n : ℕ) → f n ≡ true → g n ≡ true) → Each f l → Each g l
each_map f g [] h e = tt
each_map f g (q ∷ qs) h e = (h q e.0, (e.1.0, each_map f g qs h e.1.1))
