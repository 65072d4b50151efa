-- The computation holds of the texts of table 3-7 and of no others, and gives their number: `agrees` of proofs/Agrees.antt proves it of every text.
use Rattle.std.specs.Prelude.{ℕ, ◌+◌, ◌≡◌, true, List, [], ◌∷◌}
use Rattle.le.specs.Choice.{pick}
use Rattle.text.specs.Table.{Sequences}
use Rattle.text.specs.Utf8.{continues, well_formed, chars}

-- for readers of other definitions: the number of bytes outside 80..BF, which are those that begin a sequence
unfoldable pub outside : List ℕ → ℕ
outside [] = 0
outside (b ∷ s) = pick (continues b) 0 1 + outside s

pub record Agrees (s : List ℕ) : Type 0 where
  pub sound : well_formed s ≡ true → Sequences (chars s) s
  pub complete : {n : ℕ} → Sequences n s → (well_formed s ≡ true) × (chars s ≡ n)
  -- a text has one number
  pub one : {m n : ℕ} → Sequences m s → Sequences n s → m ≡ n
  pub begins : {n : ℕ} → Sequences n s → outside s ≡ n
