-- How many numbers pass a test: no more than a list has that has each of them, and no fewer than one has that has each once. Assumes nothing.
use mathlib.Core.Path.{◌≡◌, refl, sym, ap, ◌∙◌}
use mathlib.Core.Bool.{Bool, true, false}
use mathlib.Core.List.{List, [], ◌∷◌}
use Prim.Native.Nat.{ℕ, zero, suc, ◌+◌, ◌≤◌, ◌<◌}
use native.Mathlib.Omega.{arith}
use borrow.Author.Tests.{eqb-true, eqb-false, ne_eqb}
use lib.Dec.{eqb}
use lib.ListN.{length, get_or}
use Rattle.le.specs.Choice.{pick}
use Rattle.le.proofs.Compare.{no_test}
use Rattle.pager_state.specs.Overlay.{find_in}
use Rattle.pager_state.specs.Pages.{among}

-- f but for the number x
abbrev pub without : (ℕ → Bool) → ℕ → ℕ → Bool
without f x n = pick (eqb n x) false (f n)

module _ (f : ℕ → Bool) (x : ℕ) where
  -- x was passed
  behind : (k p : ℕ) → x < p → length (among f k p) ≤ length (among (without f x) k p)
  unfolding among
  behind zero p h = omega arith
  behind (suc k) p h = rw (ne_eqb p x (λ e. omega arith)) (go (f p) (behind k (suc p) (omega arith)))
    where
      go : (b : Bool) → length (among f k (suc p)) ≤ length (among (without f x) k (suc p))
          → length (pick b (p ∷ among f k (suc p)) (among f k (suc p))) ≤ length (pick b (p ∷ among (without f x) k (suc p)) (among (without f x) k (suc p)))
      go true i = omega arith
      go false i = omega arith

  one_less : (k p : ℕ) → length (among f k p) ≤ suc (length (among (without f x) k p))
  unfolding among
  one_less zero p = omega arith
  one_less (suc k) p = go (f p) (eqb p x) refl (one_less k (suc p))
    where
      go : (b c : Bool) → eqb p x ≡ c → length (among f k (suc p)) ≤ suc (length (among (without f x) k (suc p)))
          → length (pick b (p ∷ among f k (suc p)) (among f k (suc p)))
          ≤ suc (length (pick (pick c false b) (p ∷ among (without f x) k (suc p)) (among (without f x) k (suc p))))
      go true true e i = let y : p ≡ x = eqb-true p x e in omega (arith, behind k (suc p) (omega arith))
      go true false e i = omega arith
      go false true e i = omega arith
      go false false e i = omega arith

  no_more : (k p : ℕ) → length (among (without f x) k p) ≤ length (among f k p)
  unfolding among
  no_more zero p = omega arith
  no_more (suc k) p = go (f p) (eqb p x) (no_more k (suc p))
    where
      go : (b c : Bool) → length (among (without f x) k (suc p)) ≤ length (among f k (suc p))
          → length (pick (pick c false b) (p ∷ among (without f x) k (suc p)) (among (without f x) k (suc p)))
          ≤ length (pick b (p ∷ among f k (suc p)) (among f k (suc p)))
      go true true i = omega arith
      go true false i = omega arith
      go false true i = omega arith
      go false false i = omega arith

  module _ (holds : f x ≡ true) where
    one_more : (k p : ℕ) → p ≤ x → x < p + k → suc (length (among (without f x) k p)) ≤ length (among f k p)
    unfolding among
    one_more zero p a b = absurd (omega arith)
    one_more (suc k) p a b = go (eqb p x) refl (f p) refl (λ n. one_more k (suc p) n (omega arith))
      where
        go : (c : Bool) → eqb p x ≡ c → (d : Bool) → f p ≡ d → (suc p ≤ x → suc (length (among (without f x) k (suc p))) ≤ length (among f k (suc p)))
            → suc (length (pick (pick c false d) (p ∷ among (without f x) k (suc p)) (among (without f x) k (suc p))))
            ≤ length (pick d (p ∷ among f k (suc p)) (among f k (suc p)))
        go true e true q i = omega (arith, no_more k (suc p))
        go true e false q i = no_test (sym q ∙ ap f (eqb-true p x e) ∙ holds)
        go false e true q i = let z = eqb-false p x e in omega (arith, i (omega (arith, z)))
        go false e false q i = let z = eqb-false p x e in i (omega (arith, z))

    -- of those looked at x is one
    pub one_out : (k p : ℕ) → p ≤ x → x < p + k → length (among f k p) ≡ suc (length (among (without f x) k p))
    one_out k p a b = omega (arith, one_less k p, one_more k p a b)

pub none-among : (f : ℕ → Bool) (k p : ℕ) → ((n : ℕ) → f n ≡ true → ⊥) → among f k p ≡ []
unfolding among
none-among f zero p h = refl
none-among f (suc k) p h = go (f p) refl (none-among f k (suc p) h)
  where
    go : (b : Bool) → f p ≡ b → among f k (suc p) ≡ [] → pick b (p ∷ among f k (suc p)) (among f k (suc p)) ≡ []
    go true e i = absurd (h p e)
    go false e i = i

-- each that passes is in the list
pub few-among : (xs : List ℕ) (f : ℕ → Bool) (k p : ℕ) → ((n : ℕ) → f n ≡ true → find_in xs n < length xs) → length (among f k p) ≤ length xs
few-among [] f k p h = omega (arith, ap length (none-among f k p (λ n e. let z : find_in [] n < length {A = ℕ} [] = h n e in omega arith)))
few-among (x ∷ xs) f k p h = omega (arith, one_less f x k p, few-among xs (without f x) k p (λ n e. later n (eqb n x) refl e))
  where
    later : (n : ℕ) (b : Bool) → eqb n x ≡ b → pick b false (f n) ≡ true → find_in xs n < length xs
    later n true i e = no_test e
    later n false i e =
        let z : find_in (x ∷ xs) n < suc (length xs) = h n e in
        let q : eqb x n ≡ false = ne_eqb x n (λ y. eqb-false n x i (sym y)) in
        let y : suc (find_in xs n) < suc (length xs) = rw q at z in
        omega arith

-- no number stands twice: each is found where it stands
abbrev pub Once : List ℕ → Type 0
Once xs = (i : ℕ) → i < length xs → find_in xs (get_or xs i 0) ≡ i

-- each of the list is looked at and passes
abbrev pub Pass : (ℕ → Bool) → ℕ → ℕ → List ℕ → Type 0
Pass f k p xs = (i : ℕ) → i < length xs → (f (get_or xs i 0) ≡ true) × ((p ≤ get_or xs i 0) × (get_or xs i 0 < p + k))

pub many-among : (xs : List ℕ) (f : ℕ → Bool) (k p : ℕ) → Pass f k p xs → Once xs → length xs ≤ length (among f k p)
many-among [] f k p h o = omega arith
many-among (x ∷ xs) f k p h o =
    let a = h 0 (omega arith) in
    omega (
      arith,
      one_more f x a.0 k p a.1.0 a.1.1,
      many-among xs (without f x) k p (λ i l. (passes i l, (h (suc i) (omega arith)).1)) (λ i l. (other i l).1),
    )
  where
    other : (i : ℕ) → i < length xs → (eqb (get_or xs i 0) x ≡ false) × (find_in xs (get_or xs i 0) ≡ i)
    other i l = go (eqb x (get_or xs i 0)) refl (o (suc i) (omega arith))
      where
        go : (b : Bool) → eqb x (get_or xs i 0) ≡ b → pick b 0 (suc (find_in xs (get_or xs i 0))) ≡ suc i → (eqb (get_or xs i 0) x ≡ false) × (find_in xs (get_or xs i 0) ≡ i)
        go true e q = absurd (omega arith)
        go false e q = (ne_eqb (get_or xs i 0) x (λ z. eqb-false x (get_or xs i 0) e (sym z)), omega arith)

    passes : (i : ℕ) → i < length xs → without f x (get_or xs i 0) ≡ true
    passes i l = rw (other i l).0 (h (suc i) (omega arith)).0
