-- Laws of walks over pages: pages passed over, the first page as it is computed, and pages counted. Assumes nothing.
use mathlib.Core.Path.{◌≡◌, refl, sym, ap, ◌∙◌}
use mathlib.Core.Bool.{Bool, true, false}
use mathlib.Core.List.{[]}
use mathlib.Core.Logic.{⊎_elim}
use Prim.Native.Nat.{ℕ, zero, suc, ◌+◌, ◌-◌, ◌≤◌, ◌<◌}
use native.Mathlib.Numerals.{add-one}
use native.Mathlib.Omega.{arith}
use lib.ListN.{length}
use Rattle.le.specs.Choice.{pick}
use Rattle.le.proofs.Tests.{le-or-lt, eq-or-not}
use Rattle.pager_state.specs.World.{page_limit}
use Rattle.pager_state.specs.Pages.{among, pages_from, first_of}
use Rattle.pager_state.proofs.Searches.{pages-hit, pages-miss, pages-end, lowest, no-lowest, pages-none, among_same}

module _ (f : ℕ → Bool) where
  -- no page is found
  pub none_found : (p q : ℕ) → q ≡ first_of (pages_from f p) → page_limit ≤ q → pages_from f p ≡ []
  none_found p q g h = no-lowest f p (rw g at h)

  -- ---- pages passed over

  skip-one : (p q : ℕ) → p < q → f p ≡ false → pages_from f (suc p) ≡ pages_from f q → pages_from f p ≡ pages_from f q
  skip-one p q h e r =
      ⊎_elim (λ l. pages-end f p l ∙ sym (pages-end f q (omega (arith, l)))) (λ l. pages-miss f p l e ∙ r) (le-or-lt page_limit p)

  skip : (k p q : ℕ) → k ≡ q - p → p ≤ q → ((n : ℕ) → p ≤ n → n < q → f n ≡ false) → pages_from f p ≡ pages_from f q
  skip zero p q e h a = ap (pages_from f) {x = p} {y = q} (omega arith)
  skip (suc k) p q e h a =
      skip-one p q (omega arith) (a p (omega arith) (omega arith)) (skip k (suc p) q (omega arith) (omega arith) (λ n l m. a n (omega arith) m))

  -- pages of which the test doesn't hold
  pub pages-skip : (p q : ℕ) → p ≤ q → ((n : ℕ) → p ≤ n → n < q → f n ≡ false) → pages_from f p ≡ pages_from f q
  pages-skip p q h a = skip (q - p) p q refl h a

  -- a page that is found and has none before it is the first
  pub first-is : (p q : ℕ) → p ≤ q → q < page_limit → f q ≡ true → ((n : ℕ) → p ≤ n → n < q → f n ≡ false) → first_of (pages_from f p) ≡ q
  first-is p q h l e a = ap first_of (pages-skip p q h a ∙ pages-hit f q l e)

  -- none before the limit
  none_below : (p : ℕ) → p ≤ page_limit → ((n : ℕ) → p ≤ n → n < page_limit → f n ≡ false) → pages_from f p ≡ []
  none_below p h a = pages-skip p page_limit h a ∙ pages-end f page_limit (omega arith)

  pub none_is : (p : ℕ) → ((n : ℕ) → p ≤ n → n < page_limit → f n ≡ false) → pages_from f p ≡ []
  none_is p a = ⊎_elim (λ h. none_below p h a) (λ h. pages-end f p (omega (arith, h))) (le-or-lt p page_limit)

  -- before the first page found the test holds nowhere
  pub first-before : (p q n : ℕ) → q ≡ first_of (pages_from f p) → p ≤ n → n < q → n < page_limit → f n ≡ false
  first-before p q n g h k l =
      ⊎_elim (λ i. pages-none f p (none_found p q g i) n h l) (λ i. (lowest f p q g i).before n h k) (le-or-lt page_limit q)

  -- ---- pages counted

  pub tally-step : (n p : ℕ) {yes : Bool} {m : ℕ} → p < page_limit → yes ≡ f p → m ≡ pick yes (n + 1) n
      → (m ≤ n + 1) × (m + length (pages_from f (p + 1)) ≡ n + length (pages_from f p))
  tally-step n p {yes = true} l e k =
      let s = ap length (pages-hit f p l (sym e)) in
      let z = ap (λ (i : ℕ). length (pages_from f i)) (add-one p) in
      (omega (arith, k), omega (arith, k, s, z))
  tally-step n p {yes = false} l e k =
      let s = ap length (pages-miss f p l (sym e)) in
      let z = ap (λ (i : ℕ). length (pages_from f i)) (add-one p) in
      (omega (arith, k), omega (arith, k, s, z))

-- ---- two tests that agree but at x, where the second alone holds: they find one page more
module _ (f g : ℕ → Bool) (x : ℕ) (fx : f x ≡ false) (gx : g x ≡ true) (a : (n : ℕ) → (n ≡ x → ⊥) → g n ≡ f n) where
  more-at : (k p : ℕ) → p ≡ x → length (among g (suc k) p) ≡ suc (length (among f (suc k) p))
  unfolding among
  more-at k p e =
      let s : among g k (suc p) ≡ among f k (suc p) = among_same g f k (suc p) (λ n l m. a n (λ z. omega (arith, z, l))) in
      let u : f p ≡ false = ap f e ∙ fx in
      let v : g p ≡ true = ap g e ∙ gx in
      rw (u, v, s)

  more-past : (k p : ℕ) (b : Bool) → f p ≡ b → g p ≡ b → length (among g k (suc p)) ≡ suc (length (among f k (suc p)))
      → length (among g (suc k) p) ≡ suc (length (among f (suc k) p))
  unfolding among
  more-past k p true u v r = rw (u, v) (ap suc r)
  more-past k p false u v r = rw (u, v) r

  among-more : (k p : ℕ) → p ≤ x → x < p + k → length (among g k p) ≡ suc (length (among f k p))
  among-more zero p h l = absurd (omega arith)
  among-more (suc k) p h l =
      ⊎_elim (λ e. more-at k p e) (λ e. more-past k p (f p) refl (a p e) (among-more k (suc p) (omega (arith, e)) (omega (arith, e)))) (eq-or-not p x)

  pub pages-more : x < page_limit → length (pages_from g 0) ≡ suc (length (pages_from f 0))
  unfolding pages_from
  pages-more h = among-more page_limit 0 (omega arith) (omega arith)
