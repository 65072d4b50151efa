-- The bodies that cases draw from a seed: compare/README.md, "The body's 4,096 bytes by kind".
use Rattle.std.specs.Prelude.{List, [], ◌∷◌, ◌++◌, ℕ, zero, suc, ◌+◌, ◌-◌, ◌*◌, ◌/◌, ◌%◌, ◌^◌, ltb, eqb, length, replicate}
use Rattle.le.specs.Choice.{pick}
use Rattle.le.specs.Le.{store}

-- "each byte first takes x to x × 1,664,525 + 1,013,904,223 modulo 2^32"
abbrev pub next_number : ℕ → ℕ
next_number x = (x * 1664525 + 1013904223) % 2 ^ 32

-- x after n bytes, where "x starts as the seed"
unfoldable pub number_after : ℕ → ℕ → ℕ
number_after seed zero = seed
number_after seed (suc n) = next_number (number_after seed n)

-- the byte of a kind, where t is "x / 2^24 rounded down"
unfoldable pub shape_of : ℕ → ℕ → ℕ
shape_of kind t =
    pick (eqb kind 2) (pick (ltb t 16) t 255)
    (pick (eqb kind 3) (pick (ltb t 128) 0 255)
    (pick (eqb kind 5) (97 + t % 26) t))

-- the first n bytes of a kind
unfoldable pub drawn : ℕ → ℕ → ℕ → List ℕ
drawn kind seed zero = []
drawn kind seed (suc n) = drawn kind seed n ++ (shape_of kind (number_after seed (suc n) / 2 ^ 24) ∷ [])

-- the body of a kind, made in the place of l, which is a page's zeros
unfoldable pub drawn_body : ℕ → ℕ → List ℕ → List ℕ
drawn_body kind seed l =
    pick (eqb kind 0) (replicate (length l) (seed % 256))
    (pick (eqb kind 4) (store l (seed % 4096) (seed / 4096 % 256 ∷ []))
    (pick (eqb kind 5) (store (drawn 5 seed (length l)) (seed % 4097) (replicate (4096 - seed % 4097) 0))
    (drawn kind seed (length l))))
