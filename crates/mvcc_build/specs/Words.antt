-- The words that a short text is looked at and stored by.
use Rattle.std.specs.Prelude.{◌⊎◌, ◌≡◌, ℕ}

-- the widths of a word
abbrev pub Wide : ℕ → Type 0
Wide w = (w ≡ 8) ⊎ ((w ≡ 4) ⊎ ((w ≡ 2) ⊎ (w ≡ 1)))
