-- The checksum: "start at 0; for each .. byte, rotate the 32-bit sum left by 1 and add the byte, wrapping".
use Rattle.std.specs.Prelude.{ℕ, ◌+◌, ◌*◌, ◌/◌, ◌%◌, ◌^◌, List}
use mathlib.Core.List.{foldl}

-- "rotate the 32-bit sum left by 1"
abbrev pub rotated : ℕ → ℕ
rotated s = 2 * s % 2 ^ 32 + s / 2 ^ 31

-- ".. and add the byte, wrapping"
abbrev pub sum_step : ℕ → ℕ → ℕ
sum_step s b = (rotated s + b) % 2 ^ 32

-- the sum s carried over a list of bytes
unfoldable pub sum_from : ℕ → List ℕ → ℕ
sum_from s l = foldl sum_step s l
