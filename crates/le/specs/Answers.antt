-- What a store answers: refusal 1, "a wrong area length", where it does not fit.
use Rattle.std.specs.Prelude.{Err, Ok, Result, List, ℕ, ◌+◌, leb, length}
use Rattle.refusal.specs.declared.Refusal.{Refusal}
use Rattle.refusal.specs.declared.Refusal.TheVariants as refusal
use Rattle.le.specs.Choice.{pick}

-- a store of n bytes at `at` is done where it fits
abbrev pub stored_of : List ℕ → ℕ → ℕ → Result (Unit {0}) Refusal
stored_of l at n = pick (leb (at + n) (length l)) (Ok tt) (Err refusal.Area)
