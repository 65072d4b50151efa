-- What holding a `Staged`, or a store, by value tells: it has `staged_limit` slots.
use Prim.Native.Nat.{ℕ}
use mathlib.Core.List.{List, map}
use mathlib.Core.Path.{◌≡◌, sym, ◌∙◌}
use lib.ListN.{length, length-map}
use mir.Val.{Val}
use denote.Laws.{Is}
use denote.Struct.Declared.{row}
use Rattle.pager_state.specs.World.{staged_limit}
use Rattle.pager_state.specs.declared.Staged.{Staged}
use Rattle.pager_state.specs.declared.Pager.{Pager}
use Rattle.pager_state.specs.contracts.Staged as S
use Rattle.pager_state.specs.contracts.Pager as P

same : {A : Type 0} (xs : List A) {n : ℕ} → length (map (λ (v : A). v) xs) ≡ n → length xs ≡ n
same xs p = sym (length-map xs (λ v. v)) ∙ p

-- `pages` is field 1
pub slots : (s : Staged) (vs : List Val) → Is (row S.the_type) s vs → length s.pages ≡ staged_limit
slots s vs p = p.1.1.1.0.1.0.1

-- of the store's own: `staged` is field 4
pub held-slots : (p : Pager) (vs : List Val) → Is (row P.the_type) p vs → length p.staged.pages ≡ staged_limit
held-slots p vs h = slots p.staged _ h.1.1.1.1.1.1.0
