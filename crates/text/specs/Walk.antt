-- What the walk over a text says of its steps.
use Rattle.std.specs.Prelude.{ℕ, ◌+◌, ◌≤◌, ◌<◌, List, ◌≡◌, length, drop, get_or, Option, Some, None}
use Rattle.le.specs.Choice.{pick}
use Rattle.text.specs.Utf8.{well_formed, chars}

-- the bytes from a to below b are ASCII
abbrev pub Ascii : List ℕ → ℕ → ℕ → Type 0
Ascii s a b = (k : ℕ) → a ≤ k → k < b → get_or s k 0 < 0x80

-- from a a walk comes to b by n whole sequences: what is left there decides
pub record Passes (s : List ℕ) (a b n : ℕ) : Type 0 where
  pub few : a + n ≤ b
  pub inside : b ≤ length s
  pub same : well_formed (drop b s) ≡ well_formed (drop a s)
  pub count : chars (drop a s) ≡ n + chars (drop b s)

-- the number of a text of which n sequences are passed and s is left; an ill-formed text has none
abbrev pub utf8_behind : ℕ → List ℕ → Option ℕ
utf8_behind n s = pick (well_formed s) (Some (n + chars s)) None
