-- Fields of a list of bytes and the one store operation ("All layouts are little-endian").
use Rattle.std.specs.Prelude.{Bool, true, false, List, [], ◌∷◌, ◌++◌, ℕ, zero, suc, ◌+◌, ◌*◌, ◌/◌, ◌%◌, ◌<◌, leb, eqb, length, take, drop, get_or}
use Rattle.le.specs.Choice.{pick, both}

-- a list whose elements are bytes
abbrev pub Bytes : List ℕ → Type 0
Bytes l = (i : ℕ) → get_or l i 0 < 256

-- the number that a list of bytes stands for, lowest byte first
unfoldable pub le_of : List ℕ → ℕ
le_of [] = 0
le_of (b ∷ bs) = b + 256 * le_of bs

-- the n lowest bytes of x, lowest first
unfoldable pub le_bytes : ℕ → ℕ → List ℕ
le_bytes zero x = []
le_bytes (suc n) x = x % 256 ∷ le_bytes n (x / 256)

-- the field of n bytes at `at`, or of as many as there are
abbrev pub field : ℕ → ℕ → List ℕ → ℕ
field n at l = le_of (take n (drop at l))

-- what reading it gives: 0 where it is not wholly there
unfoldable pub whole_field : ℕ → ℕ → List ℕ → ℕ
whole_field n at l = pick (leb (at + n) (length l)) (field n at l) 0

-- the list l with the bytes bs in the place of those from index `at` on
unfoldable pub put : List ℕ → ℕ → List ℕ → List ℕ
put l at bs = take at l ++ (bs ++ drop (at + length bs) l)

-- a store: the bytes are put where they fit, otherwise the list stays as it was
unfoldable pub store : List ℕ → ℕ → List ℕ → List ℕ
store l at bs = pick (leb (at + length bs) (length l)) (put l at bs) l

-- the two lists hold the same bytes
unfoldable pub same_bytes : List ℕ → List ℕ → Bool
same_bytes [] [] = true
same_bytes [] (b ∷ ys) = false
same_bytes (a ∷ xs) [] = false
same_bytes (a ∷ xs) (b ∷ ys) = both (eqb a b) (same_bytes xs ys)
