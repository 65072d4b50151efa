-- A commit or checkpoint in one call: what its start comes to, refused or run to the end. Assumes nothing.
use mathlib.Core.Path.{◌≡◌, refl, sym, ap, ◌∙◌}
use mathlib.Core.Bool.{Bool, true, false}
use mathlib.Core.List.{List}
use Prim.Native.Nat.{ℕ, ◌+◌, ◌-◌, ◌≤◌}
use native.Mathlib.Omega.{arith}
use Rattle.std.specs.Prelude.{Option, None, Some, Err, Ok, Result}
use Rattle.le.specs.Choice.{pick}
use Rattle.refusal.specs.Refusal.{answered}
use Rattle.refusal.specs.declared.Refusal.{Refusal}
use Rattle.header.specs.declared.DbHeader.{DbHeader}
use Rattle.pager_state.specs.World.{World, page_limit}
use Rattle.pager_state.specs.Pages.{differs}
use Rattle.pager_state.specs.Steps.{differing, commit_refusal, begin_commit, nothing_to_checkpoint, checkpoint_refusal, checkpoint_start, begin_checkpoint, answer_of, most_steps, steps, on_store, commit_answer, commit_world, checkpoint_answer, checkpoint_world}
use Rattle.pager_state.specs.declared.CheckpointStart.TheVariants as checkpoint
use Rattle.pager_state.proofs.Searches.{pages-length}
use Rattle.pager_state.proofs.Runs.{steps-add}
use Rattle.pager_state.proofs.Answers.{checkpoint-answer}
use Rattle.pager_commit.specs.CommitStep.{commit_frames_world}
use Rattle.pager_state.specs.declared.CheckpointStart.{CheckpointStart}
use Rattle.pager_state.specs.declared.Outcome.{Outcome}

-- ---- what an answer tells of its judgement

module _ {A : Type 0} (a : A) where
  answer-is : (v : Option Refusal) {x : A} → ◌≡◌ {A = Result A Refusal} (Ok x) (answered Err (Ok a) v) → (v ≡ None) × (x ≡ a)
  answer-is None e = (refl, cc)
  answer-is (Some r) e = let z : ◌≡◌ {A = ℕ} 0 1 = cc in absurd (omega arith)

  refusal-is : (v : Option Refusal) {r : Refusal} → ◌≡◌ {A = Result A Refusal} (Err r) (answered Err (Ok a) v) → v ≡ Some r
  refusal-is None e = let z : ◌≡◌ {A = ℕ} 0 1 = cc in absurd (omega arith)
  refusal-is (Some x) e = cc

-- ---- a commit

-- v is the world behind the commit frame
module _ (g : List ℕ) (w : World) (h : DbHeader) (salt : ℕ) where
  pub commit-refused : {r : Refusal} {v : World} → Err r ≡ commit_answer g w h → v ≡ commit_frames_world g w h salt → v ≡ commit_world g w h salt
  unfolding commit_answer commit_world commit_frames_world
  commit-refused e f = f ∙ rw (refusal-is (differing g w) (commit_refusal g w h) e)

  module _ {m : ℕ} (e : Ok m ≡ commit_answer g w h) where
    told : (commit_refusal g w h ≡ None) × (m ≡ differing g w)
    unfolding commit_answer
    told = answer-is (differing g w) (commit_refusal g w h) e

    -- no more pages differ than there are
    pub pages-few : m ≤ page_limit
    unfolding differing
    pages-few = rw told.1 (pages-length (differs g w) 0)

    -- the steps that are left
    pub commit-run : {v u : World} → v ≡ commit_frames_world g w h salt → u ≡ steps g (most_steps - (m + 1)) v → u ≡ commit_world g w h salt
    unfolding commit_world commit_frames_world
    commit-run {v} f s =
        let begun = on_store w (begin_commit g w h salt).pager in
        let k : m + 1 + (most_steps - (m + 1)) ≡ most_steps = omega (arith, pages-few) in
        let y : v ≡ steps g (m + 1) begun = f ∙ rw (told.0, told.1) in
        s ∙ rw (y, told.0, ← (steps-add g (m + 1) (most_steps - (m + 1)) begun), k)

-- ---- a checkpoint

-- the start by its refusal and by whether there is nothing to checkpoint
abbrev started : Option Refusal → Bool → Result CheckpointStart Refusal
started v e = answered Err (pick e (Ok checkpoint.Nothing) (Ok checkpoint.Begun)) v

begun-is : (v : Option Refusal) (e : Bool) → (Ok checkpoint.Begun) ≡ started v e → (v ≡ None) × (e ≡ false)
begun-is None true k = let z : ◌≡◌ {A = ℕ} 0 1 = cc in absurd (omega arith)
begun-is None false k = (refl, refl)
begun-is (Some r) e k = let z : ◌≡◌ {A = ℕ} 0 1 = cc in absurd (omega arith)

nothing-is : (v : Option Refusal) (e : Bool) → (Ok checkpoint.Nothing) ≡ started v e → (v ≡ None) × (e ≡ true)
nothing-is None true k = (refl, refl)
nothing-is None false k = let z : ◌≡◌ {A = ℕ} 0 1 = cc in absurd (omega arith)
nothing-is (Some r) e k = let z : ◌≡◌ {A = ℕ} 0 1 = cc in absurd (omega arith)

unstarted-is : (v : Option Refusal) (e : Bool) {r : Refusal} → Err r ≡ started v e → v ≡ Some r
unstarted-is None true k = let z : ◌≡◌ {A = ℕ} 0 1 = cc in absurd (omega arith)
unstarted-is None false k = let z : ◌≡◌ {A = ℕ} 0 1 = cc in absurd (omega arith)
unstarted-is (Some x) e k = cc

module _ (g : List ℕ) (w : World) (salt : ℕ) {b : Outcome CheckpointStart} (k : b ≡ begin_checkpoint g w salt) where
  -- a call's answer and world are the checkpoint's
  abbrev Checkpointed : Result ℕ Refusal → World → Type 0
  Checkpointed a v = (a ≡ checkpoint_answer g w) × (v ≡ checkpoint_world g w salt)

  start-is : b.answer ≡ started (checkpoint_refusal g w) (nothing_to_checkpoint w)
  unfolding begin_checkpoint checkpoint_start
  start-is = ap (λ (x : Outcome CheckpointStart). x.answer) k

  pub checkpoint-run : b.answer ≡ Ok checkpoint.Begun → {m : ℕ} {v : World} → m ≡ answer_of b.pager.job → v ≡ steps g most_steps (on_store w b.pager) → Checkpointed (Ok m) v
  unfolding checkpoint_answer checkpoint_world
  checkpoint-run e a s =
      let n = begun-is (checkpoint_refusal g w) (nothing_to_checkpoint w) (sym e ∙ start-is) in
      let c = a ∙ ap (λ (x : Outcome CheckpointStart). answer_of x.pager.job) k ∙ checkpoint-answer g w salt (rw (n.0, n.1)) in
      (rw (n.0, n.1) (ap Ok c), s ∙ rw (k, n.0, n.1))

  pub checkpoint-nothing : b.answer ≡ Ok checkpoint.Nothing → Checkpointed (Ok 0) (on_store w b.pager)
  unfolding checkpoint_answer checkpoint_world begin_checkpoint
  checkpoint-nothing e = let n = nothing-is (checkpoint_refusal g w) (nothing_to_checkpoint w) (sym e ∙ start-is) in (rw (n.0, n.1), rw (k, n.0, n.1))

  pub checkpoint-refused : {r : Refusal} → b.answer ≡ Err r → Checkpointed (Err r) (on_store w b.pager)
  unfolding checkpoint_answer checkpoint_world begin_checkpoint
  checkpoint-refused e = let n = unstarted-is (checkpoint_refusal g w) (nothing_to_checkpoint w) (sym e ∙ start-is) in (rw n, rw (k, n))
