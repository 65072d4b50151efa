-- The scan for a checkpoint's pages: only those from 1 on, below the page count, that the table has need be looked at. Assumes nothing.
use mathlib.Core.Path.{◌≡◌, refl, sym, ap, ◌∙◌}
use mathlib.Core.Bool.{Bool, true, false}
use mathlib.Core.List.{List, [], ◌∷◌}
use mathlib.Core.Logic.{⊎_elim}
use Prim.Native.Nat.{ℕ, zero, suc, ◌+◌, ◌-◌, ◌/◌, ◌≤◌, ◌<◌, max}
use native.Mathlib.Nat.{add-zero}
use native.Mathlib.Omega.{arith}
use borrow.Author.Tests.{le-leb, lt-ltb, le-ltb, eq-eqb, ne_eqb}
use lib.Dec.{leb, ltb}
use lib.ListN.{length, get_or, take, drop}
use Rattle.std.specs.Int.{from_bool}
use Rattle.std.proofs.lemmas.List.{get_or-take, get_or-drop, length-take, length-drop}
use Rattle.le.specs.Choice.{both, pick}
use Rattle.le.proofs.Tests.{le-or-lt}
use Rattle.pager_state.specs.Overlay.{frame_of, in_log}
use Rattle.pager_state.specs.Pages.{pages_from, in_checkpoint_by}
use Rattle.pager_state.proofs.Searches.{pages-hit, pages-miss, pages-end}
use Rattle.pager_state.proofs.Entries.{get_d_past}
use Rattle.pager_state.proofs.Walks.{tally-step}
use Rattle.pager_checkpoint.specs.CheckpointStep.{checkpoint_end}

both_false : (a b : Bool) → b ≡ false → both a b ≡ false
both_false true b e = e
both_false false b e = refl

one_more : (n : ℕ) (b : Bool) → n + from_bool b ≡ pick b (n + 1) n
one_more n true = refl
one_more n false = add-zero n

module _ (count : ℕ) (t : List ℕ) where
  pub hit : (p : ℕ) → 1 ≤ p → p < count → 1 < get_or t p 0 → in_checkpoint_by count t p ≡ true
  unfolding in_checkpoint_by in_log frame_of
  hit p h k e =
      let z : get_or t p 0 / 2 ≡ 0 → ⊥ = λ q. omega (arith, q) in
      rw (le-leb 1 p h, lt-ltb p count k, ne_eqb _ _ z)

  pub miss : (p : ℕ) → get_or t p 0 ≤ 1 → in_checkpoint_by count t p ≡ false
  unfolding in_checkpoint_by in_log frame_of
  miss p e =
      let z : get_or t p 0 / 2 ≡ 0 = omega arith in
      both_false (leb 1 p) _ (both_false (ltb p count) _ (rw (eq-eqb _ _ z)))

  above : (p : ℕ) → count ≤ p → in_checkpoint_by count t p ≡ false
  unfolding in_checkpoint_by
  above p h = both_false (leb 1 p) _ (rw (le-ltb p count h))

  beyond : (p : ℕ) → p < 1024 → checkpoint_end count (length t) ≤ p → in_checkpoint_by count t p ≡ false
  beyond p l h = ⊎_elim (above p) (λ k. miss p (let e = get_d_past t p (omega arith) in omega (arith, e))) (le-or-lt count p)

  none_from : (k p : ℕ) → k ≡ 1024 - p → checkpoint_end count (length t) ≤ p → pages_from (in_checkpoint_by count t) p ≡ []
  none_from zero p m h = pages-end (in_checkpoint_by count t) p (omega arith)
  none_from (suc k) p m h =
      pages-miss (in_checkpoint_by count t) p (omega arith) (beyond p (omega arith) h) ∙ none_from k (suc p) (omega arith) (omega arith)

  -- the end: no page is left
  pub scanned : (p : ℕ) → checkpoint_end count (length t) ≤ p → pages_from (in_checkpoint_by count t) p ≡ []
  scanned p h = none_from (1024 - p) p refl h

  -- an entry passed over
  low : (p : ℕ) → get_or t p 0 ≤ 1 → pages_from (in_checkpoint_by count t) p ≡ pages_from (in_checkpoint_by count t) (suc p)
  low p e =
      ⊎_elim (λ h. pages-end (in_checkpoint_by count t) p h ∙ sym (pages-end (in_checkpoint_by count t) (suc p) (omega (arith, h))))
      (λ h. pages-miss (in_checkpoint_by count t) p h (miss p e)) (le-or-lt 1024 p)

  low_run : (d p : ℕ) → ((k : ℕ) → p ≤ k → k < p + d → get_or t k 0 ≤ 1) → pages_from (in_checkpoint_by count t) p ≡ pages_from (in_checkpoint_by count t) (p + d)
  low_run zero p a = rw add-zero
  low_run (suc d) p a =
      low p (a p (omega arith) (omega arith))
      ∙ low_run d (suc p) (λ k h l. a k (omega (arith, h)) (omega (arith, l)))
      ∙ ap (pages_from (in_checkpoint_by count t)) {x = suc p + d} {y = p + suc d} (omega arith)

  -- entries passed over
  pub past : (p q : ℕ) → p ≤ q → ((k : ℕ) → p ≤ k → k < q → get_or t k 0 ≤ 1) → pages_from (in_checkpoint_by count t) p ≡ pages_from (in_checkpoint_by count t) q
  past p q h a =
      let e : p + (q - p) ≡ q = omega (arith, h) in
      rw e at (low_run (q - p) p (λ k l m. a k l (omega (arith, m, h))))

  -- the start: page 0 is none of them
  pub from_one : (p : ℕ) → pages_from (in_checkpoint_by count t) p ≡ pages_from (in_checkpoint_by count t) (max p 1)
  unfolding in_checkpoint_by
  from_one zero = pages-miss (in_checkpoint_by count t) 0 (omega arith) refl
  from_one (suc p) = let e : max (suc p) 1 ≡ suc p = omega arith in rw e

  pub from_first : (p : ℕ) {q : ℕ} → q ≡ max p 1 → pages_from (in_checkpoint_by count t) p ≡ pages_from (in_checkpoint_by count t) q
  from_first p e = from_one p ∙ ap (pages_from (in_checkpoint_by count t)) (sym e)

  -- a page in between, by its entry
  pub seen : (p : ℕ) → 1 ≤ p → p < count → ltb 1 (get_or t p 0) ≡ in_checkpoint_by count t p
  seen p h k =
      ⊎_elim
      (λ e. le-ltb 1 (get_or t p 0) e ∙ sym (miss p e))
      (λ e. lt-ltb 1 (get_or t p 0) e ∙ sym (hit p h k e))
      (le-or-lt (get_or t p 0) 1)

  -- an entry counted
  pub counted : (n p : ℕ) {m : ℕ} → 1 ≤ p → p < count → p < 1024 → m ≡ from_bool (ltb 1 (get_or t p 0))
      → (n + m ≤ n + 1) × (n + m + length (pages_from (in_checkpoint_by count t) (p + 1)) ≡ n + length (pages_from (in_checkpoint_by count t) p))
  counted n p h k l e = tally-step (in_checkpoint_by count t) n p l (seen p h k) (ap (λ (i : ℕ). n + i) e ∙ one_more n (ltb 1 (get_or t p 0)))

  -- entries passed over that lie in a part of the table
  past_part : (q n k : ℕ) → k ≤ n → ((j : ℕ) → j < k → get_or (take n (drop q t)) j 0 ≤ 1) → pages_from (in_checkpoint_by count t) q ≡ pages_from (in_checkpoint_by count t) (q + k)
  past_part q n k h a =
      past q (q + k) (omega arith)
      (λ j l m.
      let e = get_or-take n (drop q t) (j - q) 0 (omega (arith, h, l, m)) ∙ get_or-drop q t (j - q) 0 in
      let f : q + (j - q) ≡ j = omega (arith, l) in
      rw f at rw e at (a (j - q) (omega (arith, l, m))))

  module _ (q end : ℕ) (e : end ≡ checkpoint_end count (length t)) (h : q < end) where
    -- a part without a page of the log, up to the end
    pub none-found : ((k : ℕ) → k < length (take (end - q) (drop q t)) → get_or (take (end - q) (drop q t)) k 0 ≤ 1) → pages_from (in_checkpoint_by count t) q ≡ []
    none-found a =
        let n : length (take (end - q) (drop q t)) ≡ end - q = simp (length-take, length-drop) (omega (arith, e)) in
        past_part q (end - q) (end - q) (omega arith) (λ j l. a j (omega (arith, l, n))) ∙ scanned (q + (end - q)) (omega (arith, e, h))

    -- a part with one
    pub one-found : (k : ℕ) → 1 ≤ q
        → (k < length (take (end - q) (drop q t))) × (1 < get_or (take (end - q) (drop q t)) k 0) × ((j : ℕ) → j < k → get_or (take (end - q) (drop q t)) j 0 ≤ 1)
        → (q + k < 1024) × (pages_from (in_checkpoint_by count t) q ≡ (q + k) ∷ pages_from (in_checkpoint_by count t) (suc (q + k)))
    one-found k l a =
        let n : length (take (end - q) (drop q t)) ≡ end - q = simp (length-take, length-drop) (omega (arith, e)) in
        let g = get_or-take (end - q) (drop q t) k 0 (omega (arith, a.0, n)) ∙ get_or-drop q t k 0 in
        let b : q + k < 1024 = omega (arith, a.0, n, e) in
        (b, past_part q (end - q) k (omega (arith, a.0, n)) a.2 ∙ pages-hit (in_checkpoint_by count t) (q + k) b (hit (q + k) (omega arith) (omega (arith, a.0, n, e)) (rw g at a.1)))
