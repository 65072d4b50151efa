-- What it says of a text that each of its bytes can stand behind the three before it: `judged` of proofs/Fitting.antt holds it to table 3-7.
use Rattle.std.specs.Prelude.{ℕ, ◌+◌, ◌-◌, ◌≤◌, ◌<◌, List, [], ◌∷◌, Bool, true, false, not, ◌&&◌, ◌||◌, ◌≡◌, leb, eqb, length, drop}
use Rattle.le.specs.Choice.{pick}
use Rattle.text.specs.Utf8.{byte, continues}
use Rattle.text.specs.Agrees.{outside}
use Rattle.text.specs.Walk.{Passes}

-- behind a, b and c a sequence is not over that one of them began
abbrev pub is_open : ℕ → ℕ → ℕ → Bool
is_open a b c = leb 0xf0 a || leb 0xe0 b || leb 0xc0 c

-- the bytes from the lowest to the highest can follow c: table 3-7 has fewer than those that continue a sequence behind E0, ED, F0 and F4, and no
-- byte above F4
abbrev pub lowest : ℕ → ℕ
lowest c = pick (eqb c 0xe0) 0xa0 (pick (eqb c 0xf0) 0x90 0)

abbrev pub highest : ℕ → ℕ
highest c = pick (eqb c 0xed) 0x9f (pick (eqb c 0xf4) 0x8f 0xf4)

-- d can stand behind a, b and c: it continues a sequence exactly where one is open
unfoldable pub fits : ℕ → ℕ → ℕ → ℕ → Bool
fits a b c d = pick (is_open a b c) (continues d) (not (continues d)) && not (eqb d 0xc0) && not (eqb d 0xc1) && leb (lowest c) d && leb d (highest c)

-- behind a, b and c all bytes of s can stand, and at its end no sequence is open
unfoldable pub all_fit : ℕ → ℕ → ℕ → List ℕ → Bool
all_fit a b c [] = not (is_open a b c)
all_fit a b c (d ∷ s) = fits a b c d && all_fit b c d s

-- ---- by index

-- before the byte at i + 3 a sequence is open
abbrev pub opens_at : List ℕ → ℕ → Bool
opens_at s i = is_open (byte s i) (byte s (i + 1)) (byte s (i + 2))

-- the bytes from i + 3 on can all stand there, to the end
abbrev pub fits_from : List ℕ → ℕ → Bool
fits_from s i = all_fit (byte s i) (byte s (i + 1)) (byte s (i + 2)) (drop (i + 3) s)

-- the byte at i + 3 can
abbrev pub Fit : List ℕ → ℕ → Type 0
Fit s i = fits (byte s i) (byte s (i + 1)) (byte s (i + 2)) (byte s (i + 3)) ≡ true

-- the n bytes from i + 3 on can
abbrev pub AllFit : List ℕ → ℕ → ℕ → Type 0
AllFit s i n = (k : ℕ) → i ≤ k → k < i + n → Fit s k

-- from a to below b stand n bytes outside 80..BF
abbrev pub Begun : List ℕ → ℕ → ℕ → ℕ → Type 0
Begun s a b n = outside (drop a s) ≡ n + outside (drop b s)

-- s is judged up to `at`: `passed` whole sequences end before i + 3, and behind them bytes stand that can; n bytes before `at` begin a sequence
pub record Judges (s : List ℕ) (at n : ℕ) : Type 0 where
  pub i : ℕ
  pub passed : ℕ
  pub passes : Passes s 0 (i + 3) passed
  pub over : opens_at s i ≡ false
  pub room : i + 19 ≤ length s
  pub on : i + 3 ≤ at
  pub inside : at ≤ length s
  pub all : AllFit s i (at - (i + 3))
  pub few : n ≤ at
  pub count : passed + outside (drop (i + 3) s) ≡ n + outside (drop at s)
