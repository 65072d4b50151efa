-- Beside demand 3: the files after a call that is not cut, and the committed bytes between checkpoints. Proved in proofs/FilesAfter.antt.
use Rattle.std.specs.Prelude.{◌≡◌, List, [], ◌∷◌, ◌++◌, ℕ}
use Rattle.pager_state.specs.Stores.{File, Disk, content, disk_of, Emptied, Act, kind_of, stored_all}
use Rattle.history.specs.Calls.{Call, stores_of}
use Rattle.history.specs.Run.{Run, kept_after, whole}
use Rattle.history.specs.Demand3.{Typed}
use Rattle.history.specs.Guards.{Always, Accepted}

-- ---- the files after a call

-- the same file, in whatever area
pub record SameFile (f g : File) : Type 0 where
  pub len : f.len ≡ g.len
  pub bytes : content f ≡ content g

pub record SameFiles (d e : Disk) : Type 0 where
  pub main : SameFile d.main e.main
  pub log : SameFile d.log e.log

-- in any history, after any call that is not refused, they are what the call's stores leave
unfoldable pub FilesAfter : Type 0
FilesAfter =
    Always (λ (r : Run).
    (c : Call) → Typed c → Accepted c r
    → SameFiles (disk_of (whole c r).world) (stored_all (stores_of c r.world r.staging) (disk_of r.world)))

-- ---- "no sealed log byte alters between folds"

-- none of the stores is a checkpoint's log length 32
abbrev pub Unemptied : List Act → Type 0
Unemptied [] = Unit {0}
Unemptied (a ∷ acts) = (kind_of a ≡ Emptied → ⊥) × Unemptied acts

-- such stores leave the bytes committed before them in front
unfoldable pub CommittedGrow : Type 0
CommittedGrow = (acts : List Act) (d : Disk) (z : List ℕ) → Unemptied acts → (more : List ℕ) × (kept_after acts d z ≡ z ++ more)
