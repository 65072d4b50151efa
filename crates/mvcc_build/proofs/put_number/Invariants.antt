-- `mvcc_build::put_number` meets its contract. Assumes nothing.
use mathlib.Core.Path.{◌≡◌}
use Prim.Native.Nat.{◌+◌, ◌-◌, ◌≤◌}
use lib.ListN.{length}
use Rattle.le.specs.Le.{le_bytes, put}
use Rattle.mvcc_build.proofs.put_number.Given as goal

-- what is left of the number, put behind what is stored, makes the whole
abbrev pub invariant-loop-i : goal.invariant-loop-i
invariant-loop-i l = (l.i ≤ l.k) × (length l.body ≡ length l.initial.body) × (put l.body (l.at + l.i) (le_bytes (l.k - l.i) l.left) ≡ put l.initial.body l.at (le_bytes l.k l.v))
