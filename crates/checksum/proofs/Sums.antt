-- Laws of the checksum. Assumes nothing.
use Rattle.std.proofs.Common.{◌≡◌, ℕ, ◌+◌, ◌^◌, ◌<◌, List, [], ◌∷◌, ◌++◌, take, drop, refl, arith, take-add, take-append-drop, zero, suc, ◌*◌, zero-mul}
use Rattle.std.specs.List.{fold}
use Rattle.std.specs.Simd.{first_chunks}
use mathlib.Core.List.{foldl-append}
use Rattle.checksum.specs.Checksum.{sum_step, sum_from}

pub sum_from-append : (s : ℕ) (xs ys : List ℕ) → sum_from s (xs ++ ys) ≡ sum_from (sum_from s xs) ys
unfolding sum_from
sum_from-append s xs ys = foldl-append sum_step s xs ys

-- the sum keeps to 32 bits
pub sum_from-fits : (s : ℕ) (l : List ℕ) → s < 2 ^ 32 → sum_from s l < 2 ^ 32
unfolding sum_from
sum_from-fits s [] h = h
sum_from-fits s (b ∷ l) h = sum_from-fits (sum_step s b) l (omega arith)

-- ---- chunks of n bytes

pub fold-sum_step : (s : ℕ) (l : List ℕ) → fold sum_step s l ≡ sum_from s l
unfolding sum_from
fold-sum_step s [] = refl
fold-sum_step s (b ∷ l) = fold-sum_step (sum_step s b) l

pub fold-first_chunks : (n k s : ℕ) (l : List ℕ) → fold sum_from s (first_chunks n k l) ≡ sum_from s (take (k * n) l)
unfolding sum_from
fold-first_chunks n zero s l = rw zero-mul
fold-first_chunks n (suc k) s l =
    let e : suc k * n ≡ n + k * n = omega arith in
    rw (fold-first_chunks n k (sum_from s (take n l)) (drop n l), e, take-add, sum_from-append)

-- the sum over all is that over the first m bytes carried over the others
pub sum_from-cut : (m s : ℕ) (l : List ℕ) → sum_from (sum_from s (take m l)) (drop m l) ≡ sum_from s l
sum_from-cut m s l = rw (← sum_from-append, take-append-drop)
