-- Entries of the page table, a block of 32 at a time. Assumes nothing.
use Rattle.std.proofs.Common.{◌≡◌, refl, ap, subst, ◌∙◌, ℕ, zero, suc, ◌+◌, ◌-◌, ◌*◌, ◌/◌, ◌%◌, ◌≤◌, ◌<◌, List, [], length, take, drop, get_or, None, Some, Option, MatchOption, arith}
use Rattle.std.specs.Bool.{⊤}
use Rattle.std.specs.List.{AllWithin, HoldsAt}
use Rattle.std.specs.Option.{unwrap_or, option_map}
use Rattle.std.specs.Simd.{first_chunks}
use Rattle.std.proofs.lemmas.List.{get_or-take, get_or-drop, length-take, length-drop, drop-drop}
use Rattle.le.proofs.Tests.{le-or-lt}
use mathlib.Core.Logic.{⊎_elim}

-- each of its entries is at most 1
abbrev pub Low : List ℕ → Type 0
Low b = (k : ℕ) → k < length b → get_or b k 0 ≤ 1

block-at : (n j : ℕ) (t : List ℕ) (d : List ℕ) → j < n → get_or (first_chunks 32 n t) j d ≡ take 32 (drop (32 * j) t)
block-at zero j t d h = absurd (omega arith)
block-at (suc n) zero t d h = refl
block-at (suc n) (suc j) t d h =
    block-at n j (drop 32 t) d (omega arith) ∙ ap (take 32) (drop-drop (32 * j) 32 t ∙ ap (λ (i : ℕ). drop i t) {x = 32 + 32 * j} {y = 32 * suc j} (omega arith))

low-blocks : (t : List ℕ) (i : ℕ) → i ≤ length t / 32 → AllWithin Low (first_chunks 32 (length t / 32) t) 0 i
    → (32 * i ≤ length t) × ((k : ℕ) → k < 32 * i → get_or t k 0 ≤ 1)
low-blocks t i h a = (omega arith, λ k m. low_at k m)
  where
    low_at : (k : ℕ) → k < 32 * i → get_or t k 0 ≤ 1
    low_at k m =
        let b : List ℕ = take 32 (drop (32 * (k / 32)) t) in
        let low : Low b = subst Low (block-at (length t / 32) (k / 32) t [] (omega arith)) (a (k / 32) [] (omega arith) (omega arith)) in
        let l : length b ≡ 32 = simp (length-take, length-drop) (omega arith) in
        let e : get_or b (k % 32) 0 ≡ get_or t k 0 =
        get_or-take 32 (drop (32 * (k / 32)) t) (k % 32) 0 (omega arith) ∙ get_or-drop (32 * (k / 32)) t (k % 32) 0
        ∙ ap (λ (j : ℕ). get_or t j 0) {x = 32 * (k / 32) + k % 32} {y = k} (omega arith) in
        omega (arith, e, low (k % 32) (omega (arith, l)))

-- r is the first block with an entry that may be above 1
abbrev pub FirstBlock : List (List ℕ) → Option ℕ → Type 0
FirstBlock bs r = MatchOption r (AllWithin Low bs 0 (length bs)) (λ i. (i < length bs) × HoldsAt (λ b. ⊤) bs i × AllWithin Low bs 0 i)

-- entries of the blocks before the one that is answered, or of all blocks
pub low-front : (t : List ℕ) (bs : List (List ℕ)) (r : Option ℕ) {n : ℕ} → bs ≡ first_chunks 32 (length t / 32) t → length bs ≡ length t / 32
    → FirstBlock bs r → n ≡ unwrap_or r (length bs)
    → (32 * n ≤ length t) × ((k : ℕ) → k < 32 * n → get_or t k 0 ≤ 1)
low-front t bs r {n} e m h f = rw f (low-blocks t (unwrap_or r (length bs)) (at_most r h) (subst (λ (l : List (List ℕ)). AllWithin Low l 0 (unwrap_or r (length bs))) e (low r h)))
  where
    at_most : (r : Option ℕ) → FirstBlock bs r → unwrap_or r (length bs) ≤ length t / 32
    at_most None h = omega (arith, m)
    at_most (Some i) h = omega (arith, m, h.0)

    low : (r : Option ℕ) → FirstBlock bs r → AllWithin Low bs 0 (unwrap_or r (length bs))
    low None h = h
    low (Some i) h = h.2

-- ---- the first entry of a page of the log

abbrev pub FirstInLog : List ℕ → Option ℕ → Type 0
FirstInLog t r = MatchOption r ((k : ℕ) → k < length t → get_or t k 0 ≤ 1) (λ p. (p < length t) × (1 < get_or t p 0) × ((k : ℕ) → k < p → get_or t k 0 ≤ 1))

module _ (t : List ℕ) (s : ℕ) (f : (s ≤ length t) × ((k : ℕ) → k < s → get_or t k 0 ≤ 1)) where
  low-behind : (n : ℕ) → AllWithin (λ x. x ≤ 1) (drop s t) 0 n → (k : ℕ) → k < s + n → get_or t k 0 ≤ 1
  low-behind n a k h = ⊎_elim (λ z. at_behind z) (λ z. f.1 k z) (le-or-lt s k)
    where
      at_behind : s ≤ k → get_or t k 0 ≤ 1
      at_behind z =
          let e : get_or (drop s t) (k - s) 0 ≡ get_or t k 0 = get_or-drop s t (k - s) 0 ∙ ap (λ (j : ℕ). get_or t j 0) {x = s + (k - s)} {y = k} (omega (arith, z)) in
          omega (arith, e, a (k - s) 0 (omega arith) (omega (arith, z, h)))

  -- the first behind entries that are none
  pub first-behind : (r : Option ℕ)
      → MatchOption r (AllWithin (λ x. x ≤ 1) (drop s t) 0 (length (drop s t))) (λ i. (i < length (drop s t)) × HoldsAt (λ x. 1 < x) (drop s t) i × AllWithin (λ x. x ≤ 1) (drop s t) 0 i)
      → FirstInLog t (option_map (λ i. s + i) r)
  first-behind None h = λ k m. low-behind (length (drop s t)) h k (omega (arith, m, length-drop s t, f.0))
  first-behind (Some i) h = (omega (arith, h.0, length-drop s t, f.0), omega (arith, h.1 0, get_or-drop s t i 0), low-behind i h.2)
