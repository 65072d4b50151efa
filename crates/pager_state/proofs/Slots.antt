-- Laws of the search for a staged page's slot.
use Prim.Native.Nat.{ℕ, zero, suc, ◌+◌, ◌-◌, ◌*◌, ◌≤◌, ◌<◌, min}
use mathlib.Core.List.{List, [], ◌∷◌}
use mathlib.Core.Bool.{Bool, true, false, not, cond, ◌&&◌}
use mathlib.Core.Logic.{◌⊎◌, inl, inr}
use mathlib.Core.Path.{◌≡◌, refl, sym, ap, ◌∙◌}
use native.Mathlib.Omega.{arith}
use native.Mathlib.Numerals.{add-one}
use lib.Dec.{leb, ltb, eqb}
use lib.ListN.{length, get_or, take, drop, drop_of_length-le, length-take, length-drop}
use lib.Seq.{drop-cons, drop-drop}
use borrow.Author.Tests.{eq-eqb, ne_eqb, le-leb, lt-leb, le-ltb, lt-ltb, eqb-true}
use Rattle.std.specs.Prelude.{Some, None, position, unwrap_or}
use Rattle.std.specs.List.{position_or_len}
use Rattle.std.specs.Simd.{first_chunks}
use Rattle.std.proofs.lemmas.List.Recursion.{is_position_or_len}
use Rattle.le.specs.Choice.{pick, both}
use Rattle.le.proofs.Tests.{le-or-lt, eq-or-not}
use Rattle.pager_state.specs.Overlay.{find_in}

-- ---- one number after the other

-- past the end there is nothing
pub find-end : (l : List ℕ) (i p : ℕ) → length l ≤ i → find_in (drop i l) p ≡ 0
find-end l i p h = rw (drop_of_length-le l h)

module _ (l : List ℕ) (i p : ℕ) (h : i < length l) where
  pub find-hit : get_or l i 0 ≡ p → find_in (drop i l) p ≡ 0
  find-hit e = rw (drop-cons l i 0 h, eq-eqb _ _ e)

  pub find-miss : (get_or l i 0 ≡ p → ⊥) → find_in (drop i l) p ≡ suc (find_in (drop (i + 1) l) p)
  find-miss e = rw (add-one, drop-cons l i 0 h, ne_eqb _ _ e)

-- ---- among the first n

next : (n a b : ℕ) (t : Bool) → a ≡ min n b → pick t 0 (suc a) ≡ min (suc n) (pick t 0 (suc b))
next n a b true e = omega arith
next n a b false e = omega arith

length-next : (f k : ℕ) (b : Bool) → f ≤ k → pick b 0 (suc f) ≤ suc k
length-next f k true h = omega arith
length-next f k false h = omega arith

-- what is not there is found at the end
pub find-length : (l : List ℕ) (p : ℕ) → find_in l p ≤ length l
find-length [] p = omega arith
find-length (x ∷ l) p = length-next (find_in l p) (length l) (eqb x p) (find-length l p)

-- found by the library's search
pub find-position : (l : List ℕ) (p : ℕ) → unwrap_or (position (λ x. eqb x p) l) (length l) ≡ find_in l p
find-position l p = rw (← same) (go (le-or-lt (length l) (find_in l p)))
  where
    step : (b : Bool) (n : ℕ) → pick b 0 (suc n) ≡ cond b 0 (1 + n)
    step true n = refl
    step false n = omega arith

    same : find_in l p ≡ position_or_len (λ x. eqb x p) l
    same = is_position_or_len (λ (m : List ℕ). find_in m p) (λ x. eqb x p) refl (λ x xs. step (eqb x p) (find_in xs p)) l

    go : (length l ≤ find_in l p) ⊎ (find_in l p < length l) → unwrap_or (cond (ltb (find_in l p) (length l)) (Some (find_in l p)) None) (length l) ≡ find_in l p
    go (inl h) = rw (le-ltb (find_in l p) (length l) h) (omega (arith, find-length l p))
    go (inr h) = rw (lt-ltb (find_in l p) (length l) h)

there-next : (x p : ℕ) (l : List ℕ) (b : Bool) → eqb x p ≡ b → (find_in l p < length l → get_or l (find_in l p) 0 ≡ p) → pick b 0 (suc (find_in l p)) < suc (length l)
    → get_or (x ∷ l) (pick b 0 (suc (find_in l p))) 0 ≡ p
there-next x p l true e k h = eqb-true x p e
there-next x p l false e k h = k (omega arith)

-- what is found is there
pub find-there : (l : List ℕ) (p : ℕ) → find_in l p < length l → get_or l (find_in l p) 0 ≡ p
find-there [] p h = absurd (omega arith)
find-there (x ∷ l) p h = there-next x p l (eqb x p) refl (find-there l p) h

find-most-at : (y x : ℕ) (l : List ℕ) (j : ℕ) (b : Bool) → eqb y x ≡ b → find_in l x ≤ j → pick b 0 (suc (find_in l x)) ≤ suc j
find-most-at y x l j true e h = omega arith
find-most-at y x l j false e h = omega arith

-- it is found there or before
pub find-most : (l : List ℕ) (j x : ℕ) → j < length l → get_or l j 0 ≡ x → find_in l x ≤ j
find-most [] j x h e = absurd (omega arith)
find-most (y ∷ l) zero x h e = rw (eq-eqb y x e) (omega arith)
find-most (y ∷ l) (suc j) x h e = find-most-at y x l j (eqb y x) refl (find-most l j x (omega arith) e)

pub find-take : (l : List ℕ) (n p : ℕ) → find_in (take n l) p ≡ min n (find_in l p)
find-take [] zero p = omega arith
find-take [] (suc n) p = omega arith
find-take (x ∷ l) zero p = omega arith
find-take (x ∷ l) (suc n) p = next n (find_in (take n l) p) (find_in l p) (eqb x p) (find-take l n p)

-- ---- every number looked at

-- none of the first i and not the next
pub past : (l : List ℕ) (p i : ℕ) → i < length l → (leb i (find_in l p) && not (eqb (get_or l i 0) p)) ≡ leb (i + 1) (find_in l p)
past l p i h = go (le-or-lt i (find_in l p)) (eq-or-not (get_or l i 0) p)
  where
    go : (i ≤ find_in l p) ⊎ (find_in l p < i) → (get_or l i 0 ≡ p) ⊎ (get_or l i 0 ≡ p → ⊥)
        → (leb i (find_in l p) && not (eqb (get_or l i 0) p)) ≡ leb (i + 1) (find_in l p)
    go (inr a) e = rw (lt-leb i (find_in l p) a, lt-leb (i + 1) (find_in l p) (omega arith))
    go (inl a) (inl e) =
        rw (le-leb i (find_in l p) a, eq-eqb (get_or l i 0) p e, lt-leb (i + 1) (find_in l p) (omega (arith, find-most l i p h e)))
    go (inl a) (inr e) =
        let k : find_in l p ≡ i → ⊥ = λ q. e (ap (λ (j : ℕ). get_or l j 0) (sym q) ∙ find-there l p (omega (arith, q))) in
        rw (le-leb i (find_in l p) a, ne_eqb (get_or l i 0) p e, le-leb (i + 1) (find_in l p) (omega (arith, k)))

-- none of the first n: it is found behind them
pub find-drop : (l : List ℕ) (n p : ℕ) → n ≤ find_in l p → find_in l p ≡ n + find_in (drop n l) p
find-drop l zero p h = omega arith
find-drop [] (suc n) p h = absurd (omega arith)
find-drop (x ∷ l) (suc n) p h = go (eqb x p) h (find-drop l n p)
  where
    go : (b : Bool) → suc n ≤ pick b 0 (suc (find_in l p)) → (n ≤ find_in l p → find_in l p ≡ n + find_in (drop n l) p)
        → pick b 0 (suc (find_in l p)) ≡ suc n + find_in (drop n l) p
    go true k later = absurd (omega arith)
    go false k later = let e : find_in l p ≡ n + find_in (drop n l) p = later (omega arith) in omega arith

-- the rest of a list from `at` on, by its length
pub find-rest : (s : List ℕ) (p at : ℕ) → find_in (take (length s - at) (drop at s)) p ≡ find_in (drop at s) p
find-rest s p at = omega (arith, find-take (drop at s) (length s - at) p, find-length (drop at s) p, length-drop at s)

-- ---- blocks of k numbers

pub block_size : (s : List ℕ) (at k : ℕ) → at + k ≤ length s → length (take (at + k - at) (drop at s)) ≡ k
block_size s at k h = length-take (at + k - at) (drop at s) ∙ omega (arith, length-drop at s, h)

-- where none before is p
found-in : (s : List ℕ) (p at k : ℕ) → at ≤ find_in s p → at + find_in (take (at + k - at) (drop at s)) p ≡ min (at + k) (find_in s p)
found-in s p at k h = omega (arith, find-take (drop at s) (at + k - at) p, find-drop s at p h)

-- whether p is none of the block's numbers
pub block_none : (s : List ℕ) (p at k : ℕ) → at + k ≤ length s → at ≤ find_in s p
    → leb (length (take (at + k - at) (drop at s))) (find_in (take (at + k - at) (drop at s)) p) ≡ leb (at + k) (find_in s p)
block_none s p at k h f = rw (block_size s at k h) (go (le-or-lt (at + k) (find_in s p)))
  where
    go : (at + k ≤ find_in s p) ⊎ (find_in s p < at + k) → leb k (find_in (take (at + k - at) (drop at s)) p) ≡ leb (at + k) (find_in s p)
    go (inl q) = rw (le-leb (at + k) (find_in s p) q, le-leb k (find_in (take (at + k - at) (drop at s)) p) (omega (arith, found-in s p at k f, q)))
    go (inr q) = rw (lt-leb (at + k) (find_in s p) q, lt-leb k (find_in (take (at + k - at) (drop at s)) p) (omega (arith, found-in s p at k f, q)))

-- p is one of twice k numbers: then of the first or of the second k
pub halved : (s : List ℕ) (p at k : ℕ) {r : ℕ} → at ≤ find_in s p → find_in s p < at + (k + k) → (at ≤ find_in s p → r ≡ pick (leb (at + k) (find_in s p)) (at + k) at)
    → (r ≤ find_in s p) × ((find_in s p < r + k) × (r + k ≤ at + (k + k)))
halved s p at k {r} h f e = go (le-or-lt (at + k) (find_in s p))
  where
    go : (at + k ≤ find_in s p) ⊎ (find_in s p < at + k) → (r ≤ find_in s p) × ((find_in s p < r + k) × (r + k ≤ at + (k + k)))
    go (inl q) = let y : r ≡ at + k = e h ∙ rw (le-leb (at + k) (find_in s p) q) in (omega (arith, y, q), (omega (arith, y, f), omega (arith, y)))
    go (inr q) = let y : r ≡ at = e h ∙ rw (lt-leb (at + k) (find_in s p) q) in (omega (arith, y, h), (omega (arith, y, q), omega (arith, y)))

-- up to `at` the blocks were looked at, and those before `front` have no p; clear: none of them has
pub record Front (s : List ℕ) (p k at front : ℕ) (clear : Bool) : Type 0 where
  pub within : at ≤ length s
  pub tells : clear ≡ leb at (find_in s p)
  pub free : front ≤ find_in s p
  pub ends : ((at ≤ find_in s p) × (front ≡ at)) ⊎ ((find_in s p < at) × (find_in s p < front + k))

pub front-next : (s : List ℕ) (p k at front : ℕ) {clear none : Bool} {front' : ℕ} → Front s p k at front clear → at + k ≤ length s
    → none ≡ leb (length (take k (drop at s))) (find_in (take k (drop at s)) p) → ((clear && none) ≡ true → front' ≡ at + k) → ((clear && none) ≡ false → front' ≡ front)
    → Front s p k (at + k) front' (clear && none)
front-next s p k at front {clear} {none} {front'} v h n f g = go v.ends (le-or-lt (at + k) (find_in s p))
  where
    same : at ≤ find_in s p → none ≡ leb (at + k) (find_in s p)
    same j = let d : at + k - at ≡ k = omega arith in n ∙ rw d at (block_none s p at k h j)

    go : ((at ≤ find_in s p) × (front ≡ at)) ⊎ ((find_in s p < at) × (find_in s p < front + k)) → (at + k ≤ find_in s p) ⊎ (find_in s p < at + k)
        → Front s p k (at + k) front' (clear && none)
    go (inl a) (inl b) =
        let z : (clear && none) ≡ true = rw (v.tells, same a.0, le-leb at (find_in s p) a.0, le-leb (at + k) (find_in s p) b) in
        let y : front' ≡ at + k = f z in
        record { within = h; tells = z ∙ sym (le-leb (at + k) (find_in s p) b); free = omega (arith, y, b); ends = inl (b, y) }
    go (inl a) (inr b) =
        let z : (clear && none) ≡ false = rw (v.tells, same a.0, le-leb at (find_in s p) a.0, lt-leb (at + k) (find_in s p) b) in
        let y : front' ≡ front = g z in
        record { within = h; tells = z ∙ sym (lt-leb (at + k) (find_in s p) b); free = omega (arith, y, v.free); ends = inr (b, omega (arith, y, a, b)) }
    go (inr a) b =
        let z : (clear && none) ≡ false = rw (v.tells, lt-leb at (find_in s p) a.0) in
        let y : front' ≡ front = g z in
        let j : find_in s p < at + k = omega (arith, a) in
        record { within = h; tells = z ∙ sym (lt-leb (at + k) (find_in s p) j); free = omega (arith, y, v.free); ends = inr (j, omega (arith, y, a)) }

-- the i-th of the first n blocks of k numbers
pub block_at : (k n : ℕ) (s : List ℕ) (i : ℕ) → i < n → get_or (first_chunks k n s) i [] ≡ take k (drop (k * i) s)
block_at k zero s i h = absurd (omega arith)
block_at k (suc n) s zero h = let e : k * 0 ≡ 0 = omega arith in rw e
block_at k (suc n) s (suc i) h =
    let e : k * suc i ≡ k + k * i = omega arith in
    block_at k n (drop k s) i (omega arith) ∙ rw (e, drop-drop)

-- all were looked at
pub front-end : (s : List ℕ) (p k at front : ℕ) {clear : Bool} → Front s p k at front clear → length s < at + k
    → (front ≤ length s) × ((front ≤ find_in s p) × (front + k ≤ length s → find_in s p < front + k))
front-end s p k at front v h = (omega (arith, v.free, find-length s p), (v.free, go v.ends))
  where
    go : ((at ≤ find_in s p) × (front ≡ at)) ⊎ ((find_in s p < at) × (find_in s p < front + k)) → front + k ≤ length s → find_in s p < front + k
    go (inl a) b = absurd (omega (arith, a, b, h))
    go (inr a) b = a.1
