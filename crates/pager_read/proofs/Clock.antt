-- Raising the clock in the log's own way is raising it, and leaving it where the log refuses.
use mathlib.Core.Path.{◌≡◌, refl, sym}
use mathlib.Core.Bool.{Bool, true, false}
use Prim.Native.Nat.{ℕ, ◌≤◌, ◌<◌}
use native.Mathlib.Omega.{arith}
use lib.Dec.{leb}
use borrow.Author.Tests.{leb-true, leb-false}
use Rattle.std.specs.Prelude.{Err, Ok}
use Rattle.std.specs.Result.{result_unwrap_or}
use Rattle.le.specs.Choice.{pick}
use Rattle.refusal.specs.declared.Refusal.TheVariants as refusal
use Rattle.wal.specs.Write.{with_clock, clock_answer}
use Rattle.wal.specs.declared.Wal.{Wal}
use Rattle.pager_state.specs.Queries.{raised}

abbrev clock_in : Wal → ℕ
clock_in v = v.header.clock_high_water

same-clock : (v : Wal) (c : ℕ) → c ≡ clock_in v → v ≡ with_clock v c
unfolding with_clock
same-clock v c e = rw e

-- by the two tests
module _ (v : Wal) (c : ℕ) where
  kept-by : (s t : Bool) → leb (clock_in v) c ≡ s → leb c (clock_in v) ≡ t
      → result_unwrap_or (pick s (Ok (with_clock v c)) (Err refusal.Clock)) v ≡ pick t v (with_clock v c)
  kept-by true true s t =
      let h : clock_in v ≤ c = leb-true (clock_in v) c s in
      let k : c ≤ clock_in v = leb-true c (clock_in v) t in
      sym (same-clock v c (omega arith))
  kept-by true false s t = refl
  kept-by false true s t = refl
  kept-by false false s t = absurd (
      let h : c < clock_in v = leb-false (clock_in v) c s in
      let k : clock_in v < c = leb-false c (clock_in v) t in
      omega arith)

  pub kept : result_unwrap_or (clock_answer v c) v ≡ raised v c
  unfolding clock_answer raised
  kept = kept-by _ _ refl refl
