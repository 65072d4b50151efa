-- How fields follow one another: "each field is either taken with the next cursor or decoding ends".
use Rattle.std.specs.Prelude.{List, [], ◌∷◌, ℕ, zero, suc}
use Rattle.refusal.specs.declared.Refusal.{Refusal}
use Rattle.refusal.specs.declared.Refusal.TheVariants.{Truncated}

-- what reading at a cursor gives: what was read and the next cursor, or a refusal
pub data Answer (A : Type 0) : Type 0 where
  taken : A → ℕ → Answer A
  refused : Refusal → Answer A

-- what follows reads on from what was taken; a refusal ends it
abbrev pub then : {A B : Type 0} → Answer A → (A → ℕ → Answer B) → Answer B
then (taken a next) f = f a next
then (refused k) f = refused k

-- k things of one kind, one after the other
unfoldable pub many : {A : Type 0} → (ℕ → Answer A) → ℕ → ℕ → Answer (List A)
many f zero at = taken [] at
many f (suc k) at = then (f at) (λ a next. then (many f k next) (λ rest end. taken (a ∷ rest) end))

-- the things that were read
abbrev pub items : {A : Type 0} → Answer (List A) → List A
items (taken l end) = l
items (refused k) = []

-- the refusal; an answer that is none counts as Truncated, which nothing asks for
abbrev pub why : {A : Type 0} → Answer A → Refusal
why (taken a next) = Truncated
why (refused k) = k
