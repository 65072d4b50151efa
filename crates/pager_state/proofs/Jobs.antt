-- What is part done by its place among the kinds of job. Assumes nothing.
use mathlib.Core.Path.{◌≡◌, refl}
use mathlib.Core.Bool.{true}
use mathlib.Core.List.{List, [], ◌∷◌}
use Prim.Native.Nat.{ℕ}
use types.Run.{OneOf, miss}
use denote.Enum.Declared.{tag_of}
use Rattle.pager_state.specs.World.{busy_with}
use Rattle.pager_state.specs.declared.Job.{Job}
use Rattle.pager_state.specs.declared.Job.TheVariants as job
use Rattle.pager_state.specs.contracts.Job.{the_type}

-- the kinds but Idle
abbrev busy_kinds : List ℕ
busy_kinds = 1 ∷ 2 ∷ 3 ∷ 4 ∷ 5 ∷ []

pub not-idle : (j : Job) → OneOf busy_kinds (tag_of the_type j) → true ≡ busy_with j
not-idle job.Idle k = absurd (miss busy_kinds 0 tt k)
not-idle (job.Commit h salt page answer) k = refl
not-idle (job.Checkpoint salt page answer) k = refl
not-idle (job.MainLength salt answer) k = refl
not-idle (job.LogLength salt answer) k = refl
not-idle (job.LogHeader salt answer) k = refl
