-- Laws of lines: how long the first one is, and what stands behind it; a number that is added to one. Assumes nothing.
use mathlib.Core.Path.{◌≡◌, refl, ap}
use mathlib.Core.Bool.{Bool, true, false}
use mathlib.Core.List.{List, [], ◌∷◌}
use Prim.Native.Nat.{ℕ, suc, ◌+◌, ◌-◌}
use native.Mathlib.Omega.{arith}
use lib.Dec.{eqb}
use lib.ListN.{length, take, drop}
use lib.Seq.{drop-drop}
use Rattle.std.specs.Prelude.{cond, not, ◌==◌}
use Rattle.std.specs.List.{prefix_len}
use Rattle.std.proofs.lemmas.List.Recursion.{is_position_or_len}
use Rattle.io.specs.Digits.{last_digits, IsDigitCount}
use Rattle.le.specs.Choice.{pick}
use Rattle.le.specs.Le.{store}
use Rattle.replay.specs.Cases.{line_of, rest_of}
use Rattle.replay.specs.Line.{line_end, Spelt}

-- ---- how long the first line is

length_on : (t : Bool) (b : ℕ) (m : List ℕ) → length (pick t [] (b ∷ m)) ≡ cond t 0 (1 + length m)
length_on true b m = refl
length_on false b m = omega arith

length-step : (b : ℕ) (l : List ℕ) → length (line_of (b ∷ l)) ≡ cond (b == 10) 0 (1 + length (line_of l))
unfolding line_of
length-step b l = length_on (eqb b 10) b (line_of l)

pub length-line : (l : List ℕ) → length (line_of l) ≡ prefix_len (λ b. not (b == 10)) l
unfolding line_of
length-line = is_position_or_len (λ l. length (line_of l)) (λ b. b == 10) refl length-step

-- ---- the line, and the rest, by its length

take_on : (t : Bool) (b : ℕ) (l m : List ℕ) → take (length m) l ≡ m → take (length (pick t [] (b ∷ m))) (b ∷ l) ≡ pick t [] (b ∷ m)
take_on true b l m e = refl
take_on false b l m e = ap (λ (x : List ℕ). b ∷ x) e

pub take-line : (l : List ℕ) → take (length (line_of l)) l ≡ line_of l
unfolding line_of
take-line [] = refl
take-line (b ∷ l) = take_on (eqb b 10) b l (line_of l) (take-line l)

drop-on : (t : Bool) (b : ℕ) (l m r : List ℕ) → drop (suc (length m)) l ≡ r → drop (suc (length (pick t [] (b ∷ m)))) (b ∷ l) ≡ pick t l r
drop-on true b l m r e = refl
drop-on false b l m r e = e

drop-line : (l : List ℕ) → drop (suc (length (line_of l))) l ≡ rest_of l
unfolding line_of rest_of
drop-line [] = refl
drop-line (b ∷ l) = drop-on (eqb b 10) b l (line_of l) (rest_of l) (drop-line l)

module _ (l : List ℕ) (at end : ℕ) (e : end ≡ at + length (line_of (drop at l))) where
  pub line-part : take (end - at) (drop at l) ≡ line_of (drop at l)
  line-part =
      let f : end - at ≡ length (line_of (drop at l)) = omega arith in
      rw f (take-line (drop at l))

  pub line-rest : drop (end + 1) l ≡ rest_of (drop at l)
  line-rest =
      let f : at + suc (length (line_of (drop at l))) ≡ end + 1 = omega arith in
      rw (drop-drop, f) at (drop-line (drop at l))

-- ---- a number that is added to a line

-- the fewest digits of it, k, were added as a text
pub spelt : (b least n at k : ℕ) {text before after : List ℕ} {end : ℕ} → k ≡ length text → IsDigitCount b least n k → text ≡ last_digits b k n
    → end ≡ line_end before at (length text) → after ≡ store before at text → Spelt b least n before at after end
spelt b least n at k c f d e s = record { places = k; fewest = f; place = rw (← c) at e; bytes = rw d at s }
