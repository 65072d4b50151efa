-- The elements of a decoded vector are those that its value shows. Assumes nothing.
use mathlib.Core.Path.{◌≡◌}
use mathlib.Core.List.{List}
use Prim.Native.Nat.{ℕ, zero, suc, ◌+◌, ◌*◌, ◌≤◌, ◌<◌}
use native.Mathlib.Omega.{arith}
use borrow.Author.Tests.{le-leb, lt-ltb}
use lib.ListN.{length, get_or}
use Rattle.std.specs.Prelude.{Some}
use Rattle.le.specs.Le.{field}
use Rattle.mvcc.specs.Seen.{words}
use Rattle.mvcc.specs.Vector.{bits_at}

pub words-at : (s : List ℕ) (n at i : ℕ) → i < n → get_or (words s n at) i 0 ≡ field 4 (at + 4 * i) s
unfolding words
words-at s zero at i h = absurd (omega (arith, h))
words-at s (suc n) at zero h = let e : at ≡ at + 4 * 0 = omega arith in rw (← e)
words-at s (suc n) at (suc i) h =
    let k : i < n = omega arith in
    let e : at + 4 + 4 * i ≡ at + 4 * suc i = omega arith in
    rw (← e) (words-at s n (at + 4) i k)

-- every element of a vector that lies in the body is there, with the bits that the value shows
pub bits_at-words : (s : List ℕ) (start count i : ℕ) → start + count * 4 ≤ length s → i < count
    → bits_at s start count i ≡ Some (get_or (words s count start) i 0)
unfolding bits_at
bits_at-words s start count i h k =
    let r : start + 4 * i + 4 ≤ length s = omega arith in
    rw (lt-ltb i count k, le-leb (start + 4 * i + 4) (length s) r, words-at s count start i k)
