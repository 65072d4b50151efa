-- Zeros only turn the sum, and 32 of them turn it round to itself. Assumes nothing.
use Rattle.std.proofs.Common.{◌≡◌, ℕ, zero, suc, ◌+◌, ◌*◌, ◌^◌, ◌<◌, replicate, refl, ◌∙◌, arith}
use lib.ListN.{replicate-append-replicate}
use Rattle.checksum.specs.Checksum.{sum_from}
use Rattle.checksum.specs.Blocks.{rotated_by, weight}
use Rattle.checksum.proofs.Blocks.{sum-block}
use Rattle.checksum.proofs.Sums.{sum_from-append}

no-weight : (n : ℕ) → weight (replicate n 0) ≡ 0
unfolding weight
no-weight zero = refl
no-weight (suc n) = rw (no-weight n) (omega arith)

round : (s : ℕ) → s < 2 ^ 32 → sum_from s (replicate 32 0) ≡ s
round s h =
    let e : rotated_by 32 s + weight (replicate 32 0) ≡ s = rw (no-weight 32) (omega arith) in
    sum-block (replicate 32 0) s (omega arith) h (rw e h) ∙ e

-- the sum carried over zeros, 32 at a time
pub sum_zeros : (k s : ℕ) → s < 2 ^ 32 → sum_from s (replicate (k * 32) 0) ≡ s
unfolding sum_from
sum_zeros zero s h = refl
sum_zeros (suc k) s h =
    let e : suc k * 32 ≡ 32 + k * 32 = omega arith in
    rw (e, ← replicate-append-replicate {A = ℕ} 32 (k * 32) 0, sum_from-append s (replicate 32 0) (replicate (k * 32) 0), round s h) (sum_zeros k s h)
