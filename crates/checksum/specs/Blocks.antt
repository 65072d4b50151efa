-- What the functions that sum a block at once promise each other. No public contract cites these definitions,
-- so they need not be believed; proofs/Blocks.antt says what they are for.
use Rattle.std.specs.Prelude.{ℕ, ◌+◌, ◌-◌, ◌*◌, ◌/◌, ◌%◌, ◌^◌, List, [], ◌∷◌, length}

-- a 32-bit number rotated left by n places
abbrev pub rotated_by : ℕ → ℕ → ℕ
rotated_by n s = 2 ^ n * s % 2 ^ 32 + s / 2 ^ (32 - n)

-- the weight of a list of bytes: the last counts once, each other twice as much as the one behind it
unfoldable pub weight : List ℕ → ℕ
weight [] = 0
weight (b ∷ bs) = 2 ^ length bs * b + weight bs
