-- The laws of several steps: after k of them the files are those of the first k stores, and the others are left; a cut of all the stores
-- is a cut in one step. Assumes nothing.
use mathlib.Core.Path.{◌≡◌, refl, ap, ◌∙◌}
use mathlib.Core.Bool.{Bool}
use mathlib.Core.List.{List, [], ◌∷◌, ◌++◌}
use Prim.Native.Nat.{ℕ, zero, suc, ◌+◌}
use native.Mathlib.Nat.{zero-add, suc-add}
use lib.ListN.{take, drop}
use Rattle.pager_state.specs.World.{World}
use Rattle.pager_state.specs.Stores.{disk_of, Act, stored, stored_all, cut_all, whole_of}
use Rattle.pager_state.specs.Steps.{todo, stepped, steps}
use Rattle.pager_state.specs.declared.Job.TheVariants as job
use Rattle.pager_state.proofs.Stored.{AllInside, all_drop, cut-split, cut-first, whole_split, whole-first}
use Rattle.pager_state.proofs.Made.{MadeOf, ReadyOf}
use Rattle.pager_state.proofs.Steps.{step-disk, step-rest, step-none, step_keeps, made-keeps, idle-step}

module _ (g : List ℕ) where
  -- ---- for any store

  pub steps-add : (j k : ℕ) (w : World) → steps g (j + k) w ≡ steps g k (steps g j w)
  unfolding steps
  steps-add zero k w = rw zero-add
  steps-add (suc j) k w = rw suc-add (steps-add j k (stepped g w))

  -- where a step changes nothing, no number of them does
  pub steps-still : (k : ℕ) (w : World) → stepped g w ≡ w → steps g k w ≡ w
  unfolding steps
  steps-still zero w e = refl
  steps-still (suc k) w e = ap (steps g k) e ∙ steps-still k w e

  -- nothing is under way
  pub idle-stays : (k : ℕ) (w : World) → w.pager.job ≡ job.Idle → steps g k w ≡ w
  idle-stays k w e = steps-still k w (idle-step g w e)

  pub steps-keep : {P : ℕ → Bool} → (k : ℕ) (w : World) → ReadyOf P g w → ReadyOf P g (steps g k w)
  unfolding steps
  steps-keep zero w r = r
  steps-keep (suc k) w r = steps-keep k (stepped g w) (step_keeps g w r)

  pub made-steps : {P : ℕ → Bool} → (k : ℕ) (w : World) → MadeOf P w → MadeOf P (steps g k w)
  unfolding steps
  made-steps zero w m = m
  made-steps (suc k) w m = made-steps k (stepped g w) (made-keeps g w m)

  -- ---- where no store passes its area

  record Ran (k : ℕ) (w : World) : Type 0 where
    disk : disk_of (steps g k w) ≡ stored_all (take k (todo g w)) (disk_of w)
    left : todo g (steps g k w) ≡ drop k (todo g w)

  ran-none : (k : ℕ) (w : World) → todo g w ≡ [] → Ran (suc k) w
  unfolding stored_all
  ran-none k w t =
      let s : steps g (suc k) w ≡ w = steps-still (suc k) w (step-none g w t) in
      record { disk = rw (s, t); left = rw (s, t) }

  ran-more : (k : ℕ) (w : World) (a : Act) (rest : List Act) → disk_of (stepped g w) ≡ stored a (disk_of w) → todo g (stepped g w) ≡ rest → todo g w ≡ a ∷ rest
      → Ran k (stepped g w) → Ran (suc k) w
  unfolding steps stored_all
  ran-more k w a rest d l t r = record { disk = r.disk ∙ rw (d, l, t); left = r.left ∙ rw (l, t) }

  ran-at : {P : ℕ → Bool} → (k : ℕ) (w : World) → ReadyOf P g w → AllInside (todo g w) → (ReadyOf P g (stepped g w) → AllInside (todo g (stepped g w)) → Ran k (stepped g w))
      → (l : List Act) → todo g w ≡ l → Ran (suc k) w
  ran-at k w r h more [] t = ran-none k w t
  ran-at k w r h more (a ∷ rest) t =
      let i : AllInside (a ∷ rest) = rw t at h in
      let l = step-rest g w a rest t i.0 r in
      ran-more k w a rest (step-disk g w a rest t i.0 r) l t (more (step_keeps g w r) (rw l i.1))

  ran : {P : ℕ → Bool} → (k : ℕ) (w : World) → ReadyOf P g w → AllInside (todo g w) → Ran k w
  unfolding steps stored_all
  ran zero w r h = record { disk = refl; left = refl }
  ran {P} (suc k) w r h = ran-at k w r h (λ (a : ReadyOf P g (stepped g w)) (b : AllInside (todo g (stepped g w))). ran k (stepped g w) a b) (todo g w) refl

  pub steps-disk : {P : ℕ → Bool} → (k : ℕ) (w : World) → ReadyOf P g w → AllInside (todo g w) → disk_of (steps g k w) ≡ stored_all (take k (todo g w)) (disk_of w)
  steps-disk k w r h = (ran k w r h).disk

  pub steps-rest : {P : ℕ → Bool} → (k : ℕ) (w : World) → ReadyOf P g w → AllInside (todo g w) → todo g (steps g k w) ≡ drop k (todo g w)
  steps-rest k w r h = (ran k w r h).left

  -- nor do the stores left
  pub steps-inside : {P : ℕ → Bool} → (k : ℕ) (w : World) → ReadyOf P g w → AllInside (todo g w) → AllInside (todo g (steps g k w))
  steps-inside k w r h = rw (steps-rest k w r h) (all_drop k (todo g w) h)

  pub step-inside : {P : ℕ → Bool} → (w : World) → ReadyOf P g w → AllInside (todo g w) → AllInside (todo g (stepped g w))
  unfolding steps
  step-inside w r h = steps-inside 1 w r h

  -- ---- a cut after j stores is a cut in the step behind them

  pub cut-steps : {P : ℕ → Bool} → (j k : ℕ) (w : World) → ReadyOf P g w → AllInside (todo g w)
      → cut_all (todo g w) j k (disk_of w) ≡ cut_all (take 1 (todo g (steps g j w))) 0 k (disk_of (steps g j w))
  cut-steps j k w r h =
      cut-split (todo g w) j k (disk_of w) ∙ rw (← (steps-disk j w r h), ← (steps-rest j w r h)) (cut-first (todo g (steps g j w)) k (disk_of (steps g j w)))

  pub whole-steps : {P : ℕ → Bool} → (j k : ℕ) (w : World) → ReadyOf P g w → AllInside (todo g w)
      → whole_of (todo g w) j k ≡ take j (todo g w) ++ whole_of (take 1 (todo g (steps g j w))) 0 k
  whole-steps j k w r h =
      whole_split (todo g w) j k ∙ ap (λ (l : List Act). take j (todo g w) ++ l) (rw (← (steps-rest j w r h)) (whole-first (todo g (steps g j w)) k))
