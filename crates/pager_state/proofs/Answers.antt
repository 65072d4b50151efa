-- What a step answers: the place of the first store left; the last also the number fixed when the commit or checkpoint began. Assumes nothing.
use mathlib.Core.Path.{◌≡◌, refl, sym, ap, ◌∙◌}
use mathlib.Core.Bool.{Bool, true, false}
use mathlib.Core.List.{List, [], ◌∷◌}
use Prim.Native.Nat.{ℕ, zero, suc}
use native.Mathlib.Omega.{arith}
use lib.ListN.{length, drop}
use Rattle.std.specs.Prelude.{None, Err, Ok}
use Rattle.refusal.specs.declared.Refusal.TheVariants as refusal
use Rattle.header.specs.declared.DbHeader.{DbHeader}
use Rattle.pager_state.specs.World.{World, busy_with, busy}
use Rattle.pager_state.specs.Stores.{Act, inside, place_of}
use Rattle.pager_state.specs.Steps.{differing, commit_refusal, begin_commit, checkpoint_begins, checkpoint_count, begin_checkpoint, todo, answer_of, named, step_fine, step_answer, stepped, steps}
use Rattle.pager_state.specs.declared.Job.{Job}
use Rattle.pager_state.specs.declared.Job.TheVariants as job
use Rattle.pager_state.proofs.Stored.{AllInside}
use Rattle.pager_state.proofs.Made.{ReadyOf}
use Rattle.pager_state.proofs.Steps.{idle-todo, step_after, step-rest, step_keeps}
use Rattle.pager_state.proofs.Runs.{steps-rest, steps-keep}
use Rattle.pager_state.proofs.Begun.{begun-commit, begun-checkpoint}
use Rattle.pager_state.specs.declared.Step.TheVariants as step

-- ---- one step, in any store

module _ (g : List ℕ) (w : World) where
  pub answer-unfine : step_fine g w ≡ false → step_answer g w ≡ Err refusal.Area
  unfolding step_answer
  answer-unfine e = rw e

  pub answer-fine : step_fine g w ≡ true → step_answer g w ≡ named (answer_of w.pager.job) (todo g w)
  unfolding step_answer
  answer-fine e = rw e

  -- "does nothing and says Idle"
  pub answer-idle : step_fine g w ≡ true → w.pager.job ≡ job.Idle → step_answer g w ≡ (Ok step.Idle)
  unfolding named
  answer-idle e j = answer-fine e ∙ rw (idle-todo g w j)

  pub answer-outside : (a : Act) (rest : List Act) → step_fine g w ≡ true → todo g w ≡ a ∷ rest → inside a ≡ false → step_answer g w ≡ Err refusal.Area
  unfolding named
  answer-outside a rest e t i = answer-fine e ∙ rw (t, i)

  -- a store that others follow
  pub answer-stored : (a b : Act) (rest : List Act) → step_fine g w ≡ true → todo g w ≡ a ∷ b ∷ rest → inside a ≡ true
      → step_answer g w ≡ Ok (step.Stored (place_of a))
  unfolding named
  answer-stored a b rest e t i = answer-fine e ∙ rw (t, i)

  -- the last one
  pub answer-last : (a : Act) → step_fine g w ≡ true → todo g w ≡ a ∷ [] → inside a ≡ true
      → step_answer g w ≡ Ok (step.Last (place_of a) (answer_of w.pager.job))
  unfolding named
  answer-last a e t i = answer-fine e ∙ rw (t, i)

-- ---- the answer travels

is-busy : (j : Job) → (j ≡ job.Idle → ⊥) → busy_with j ≡ true
is-busy job.Idle n = absurd (n refl)
is-busy (job.Commit h salt page answer) n = refl
is-busy (job.Checkpoint salt page answer) n = refl
is-busy (job.MainLength salt answer) n = refl
is-busy (job.LogLength salt answer) n = refl
is-busy (job.LogHeader salt answer) n = refl

-- where stores are left, something is under way
pub todo-busy : (g : List ℕ) (w : World) (a : Act) (rest : List Act) → todo g w ≡ a ∷ rest → busy w.pager ≡ true
todo-busy g w a rest t =
    is-busy w.pager.job (λ (j : w.pager.job ≡ job.Idle). let z = ap length (sym t ∙ idle-todo g w j) in omega (arith, z))

pub answer-stays : {P : ℕ → Bool} (g : List ℕ) (w : World) (a b : Act) (rest : List Act) → todo g w ≡ a ∷ b ∷ rest → inside a ≡ true → ReadyOf P g w
    → answer_of (stepped g w).pager.job ≡ answer_of w.pager.job
answer-stays g w a b rest t i r =
    let x = step_after g w a (b ∷ rest) t i r in
    x.answer (todo-busy g (stepped g w) b rest x.left)

module _ (g : List ℕ) where
  -- through all steps of one job
  Stays : ℕ → World → Type 0
  Stays k w = (b : Act) (rest : List Act) → drop k (todo g w) ≡ b ∷ rest → answer_of (steps g k w).pager.job ≡ answer_of w.pager.job

  drop-none : {A : Type 0} (k : ℕ) (b : Act) (rest : List Act) → drop k [] ≡ b ∷ rest → A
  drop-none zero b rest e = absurd (let z = ap length e in omega (arith, z))
  drop-none (suc k) b rest e = absurd (let z = ap length e in omega (arith, z))

  stays-more : {P : ℕ → Bool} → (k : ℕ) (w : World) (a : Act) (l : List Act) → ReadyOf P g w → inside a ≡ true → todo g w ≡ a ∷ l → todo g (stepped g w) ≡ l → Stays k (stepped g w)
      → (b : Act) (rest : List Act) → drop k l ≡ b ∷ rest → answer_of (steps g k (stepped g w)).pager.job ≡ answer_of w.pager.job
  unfolding Stays
  stays-more k w a [] r i t n s b rest e = drop-none k b rest e
  stays-more k w a (c ∷ l) r i t n s b rest e = s b rest (rw n e) ∙ answer-stays g w a c l t i r

  stays_at : {P : ℕ → Bool} → (k : ℕ) (w : World) → ReadyOf P g w → AllInside (todo g w) → (ReadyOf P g (stepped g w) → AllInside (todo g (stepped g w)) → Stays k (stepped g w))
      → (l : List Act) → todo g w ≡ l → Stays (suc k) w
  unfolding Stays steps
  stays_at k w r h more [] t b rest e = drop-none (suc k) b rest (rw t at e)
  stays_at k w r h more (a ∷ l) t b rest e =
      let i : AllInside (a ∷ l) = rw t at h in
      let n = step-rest g w a l t i.0 r in
      let d : drop k l ≡ b ∷ rest = rw t at e in
      stays-more k w a l r i.0 t n (more (step_keeps g w r) (rw n i.1)) b rest d

  stays : {P : ℕ → Bool} → (k : ℕ) (w : World) → ReadyOf P g w → AllInside (todo g w) → Stays k w
  unfolding Stays steps
  stays zero w r h b rest e = refl
  stays {P} (suc k) w r h b rest e =
      stays_at k w r h (λ (x : ReadyOf P g (stepped g w)) (y : AllInside (todo g (stepped g w))). stays k (stepped g w) x y) (todo g w) refl b rest e

  -- as long as a store is left
  pub answer-travels : {P : ℕ → Bool} → (k : ℕ) (w : World) → ReadyOf P g w → AllInside (todo g w) → (b : Act) (rest : List Act) → drop k (todo g w) ≡ b ∷ rest
      → answer_of (steps g k w).pager.job ≡ answer_of w.pager.job
  unfolding Stays
  answer-travels k w r h = stays k w r h

  named-same : (m n : ℕ) (l : List Act) → ((b : Act) (rest : List Act) → l ≡ b ∷ rest → m ≡ n) → named m l ≡ named n l
  unfolding named
  named-same m n [] e = refl
  named-same m n (a ∷ rest) e = rw (e a rest refl)

  -- the step behind k of them names the store behind k of them
  pub steps-named : {P : ℕ → Bool} → (k : ℕ) (w : World) → ReadyOf P g w → AllInside (todo g w)
      → step_answer g (steps g k w) ≡ named (answer_of w.pager.job) (drop k (todo g w))
  steps-named k w r h =
      answer-fine g (steps g k w) (steps-keep g k w r).right ∙ ap (named (answer_of (steps g k w).pager.job)) (steps-rest g k w r h)
      ∙ named-same (answer_of (steps g k w).pager.job) (answer_of w.pager.job) (drop k (todo g w)) (answer-travels k w r h)

-- ---- the number fixed at the start

pub commit-answer : (g : List ℕ) (w : World) (h : DbHeader) (salt : ℕ) → commit_refusal g w h ≡ None
    → answer_of (begin_commit g w h salt).pager.job ≡ differing g w
commit-answer g w h salt e = rw (begun-commit g w h e salt)

pub checkpoint-answer : (g : List ℕ) (w : World) (salt : ℕ) → checkpoint_begins g w ≡ true → answer_of (begin_checkpoint g w salt).pager.job ≡ checkpoint_count w
checkpoint-answer g w salt e = rw (begun-checkpoint g w e salt)
