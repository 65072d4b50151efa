-- An answer's line: texts and numbers that are added one behind the other.
use Rattle.std.specs.Prelude.{◌≡◌, List, ℕ, ◌+◌, leb, length}
use Rattle.le.specs.Choice.{pick}
use Rattle.le.specs.Le.{store}
use Rattle.io.specs.Digits.{last_digits, IsDigitCount}

-- where a text of n bytes that is added to a line at `at` ends; one that finds no room is left out
abbrev pub line_end : List ℕ → ℕ → ℕ → ℕ
line_end l at n = pick (leb (at + n) (length l)) (at + n) at

-- the number n was added to a line at `at`: its fewest digits in base b, but `least` of them or more
pub record Spelt (b least n : ℕ) (before : List ℕ) (at : ℕ) (after : List ℕ) (end : ℕ) : Type 0 where
  pub places : ℕ
  pub fewest : IsDigitCount b least n places
  pub place : end ≡ line_end before at places
  pub bytes : after ≡ store before at (last_digits b places n)
