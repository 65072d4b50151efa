-- A list of cases: one a line, its bytes in hexadecimal digits.
use Rattle.std.specs.Prelude.{◌≡◌, List, [], ◌∷◌, ℕ, ◌+◌, ◌-◌, ◌*◌, ◌≤◌, ◌<◌, ltb, leb, eqb, length, take, drop}
use Rattle.le.specs.Choice.{pick}
use Rattle.le.specs.Le.{put}

-- the first line, without its end (10)
unfoldable pub line_of : List ℕ → List ℕ
line_of [] = []
line_of (b ∷ l) = pick (eqb b 10) [] (b ∷ line_of l)

-- what stands behind the first line's end
unfoldable pub rest_of : List ℕ → List ℕ
rest_of [] = []
rest_of (b ∷ l) = pick (eqb b 10) l (rest_of l)

-- the value of a digit, `0` to `9` (48 to 57) or `a` to `f` (97 to 102); any other byte counts as 0
unfoldable pub digit_of : ℕ → ℕ
digit_of b = pick (ltb b 48) 0 (pick (leb b 57) (b - 48) (pick (ltb b 97) 0 (pick (leb b 102) (b - 97 + 10) 0)))

-- the bytes that a line's pairs of digits stand for; a last digit without a partner stands for none
unfoldable pub hex_bytes : List ℕ → List ℕ
hex_bytes [] = []
hex_bytes (a ∷ []) = []
hex_bytes (a ∷ b ∷ l) = (16 * digit_of a + digit_of b) ∷ hex_bytes l

-- the bytes of the case at `at`
abbrev pub case_at : ℕ → List ℕ → List ℕ
case_at at l = hex_bytes (line_of (drop at l))

-- the bytes xs, or as many of them as there is room for, were laid at the front of `before`: n of them
pub record Copied (xs before after : List ℕ) (n : ℕ) : Type 0 where
  pub count : n ≡ length (take (length before) xs)
  pub bytes : after ≡ put before 0 (take (length before) xs)

-- the case behind the one at `at` is at `next`
pub record Next (l : List ℕ) (at next : ℕ) : Type 0 where
  pub within : next ≤ length l
  pub ahead : at < length l → at < next
  pub rest : drop next l ≡ rest_of (drop at l)
