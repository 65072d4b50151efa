-- What the judgement of a commit says. g is the staging area and w the store that it is judged on.
use Rattle.std.specs.Prelude.{Err, Ok, Result, ◌≡◌, List, ℕ, length, take}
use Rattle.refusal.specs.declared.Refusal.{Refusal}
use Rattle.pager_state.specs.World.{World, staged_limit}
use Rattle.pager_state.specs.Pages.{differs}
use Rattle.pager_state.specs.Steps.{differing}
use Rattle.pager_differing.specs.Differing.{Marks}
use Rattle.pager_judge.specs.declared.Judged.{Judged}

-- the answer that the starting call gives
abbrev pub start_of : Result Judged Refusal → Result (Unit {0}) Refusal
start_of (Ok j) = Ok tt
start_of (Err r) = Err r

-- what is found of a commit that begins
pub record Begins (g : List ℕ) (w : World) (j : Judged) : Type 0 where
  pub pages : j.pages ≡ differing g w
  pub marked : Marks (differs g w) w.pager.staged (take w.pager.staged.count j.marks)
  pub marks_len : length j.marks ≡ staged_limit
