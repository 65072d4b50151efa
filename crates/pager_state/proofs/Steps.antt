-- The laws of one step: it does the first of the stores left and no other, the rest is left, and what the laws ask stays. Assumes nothing.
use mathlib.Core.Path.{◌≡◌, refl, ap, subst, ◌∙◌}
use mathlib.Core.Bool.{Bool, true, false}
use mathlib.Core.List.{List, [], ◌∷◌}
use Prim.Native.Nat.{ℕ, suc}
use lib.ListN.{length}
use Rattle.le.specs.Choice.{pick}
use Rattle.le.proofs.Compare.{both_true}
use Rattle.pager_state.specs.World.{World, staging_area}
use Rattle.pager_state.specs.Overlay.{is_staged}
use Rattle.pager_state.specs.Stores.{disk_of, Act, stored, inside}
use Rattle.pager_state.specs.Pages.{pages_from, differs_in, differs, in_checkpoint}
use Rattle.pager_state.specs.Checkpoint.{is_empty, checkpoint_todo}
use Rattle.pager_state.specs.Commit.{commit_todo}
use Rattle.pager_state.specs.Steps.{todo, advance, answer_of, done, step_fine, stepped}
use Rattle.pager_state.specs.declared.Job.{Job}
use Rattle.pager_state.specs.declared.Job.TheVariants as job
use Rattle.pager_state.proofs.Stored.{stored-areas}
use Rattle.pager_state.proofs.Next.{todo-by, Next, Frame, CommitLast, Page, MainHeader, MainLength, LogLength, LogHeader, next}
use Rattle.pager_state.proofs.Made.{Fine, AsksOf, MadeOf, ReadyOf, ready-fine, fine-ready}
use Rattle.pager_state.proofs.Advance.{After, after-framed, after-committed, after-paged, after-headed, after-lengthened, after-emptied, after-checkpointed}

-- a page that differs is staged
pub differs-staged : (g : List ℕ) (w : World) (n : ℕ) → differs g w n ≡ true → is_staged w.pager.staged n ≡ true
unfolding differs_in
differs-staged g w n e = (both_true (is_staged w.pager.staged n) _ e).0

-- ---- the next store, done

module _ {P : ℕ → Bool} (g : List ℕ) (w : World) (a : Act) (rest : List Act) (v : World) (f : Fine w) (k : length g ≡ staging_area) (m : MadeOf P w) where
  asked_by : (j : Job) → w.pager.job ≡ j → AsksOf P j w
  asked_by j e = subst (λ (x : Job). AsksOf P x w) e m.asked

  after_next : Next g w a rest v → After P g w a rest v
  after_next (Frame h salt page answer n j r x y z) =
      let p = asked_by (job.Commit h salt page answer) j in
      rw (x, y, z) (after-framed g h salt answer w n f k m p.0 p.1.0 p.1.1 (differs-staged g w n r.holds) r.below (ap answer_of j))
  after_next (CommitLast h salt page answer j r x y z) =
      let p = asked_by (job.Commit h salt page answer) j in
      rw (x, y, z) (after-committed g h salt answer w f m p.0 p.1.1 (ap answer_of j))
  after_next (Page salt page answer n j r x y z) =
      rw (x, y, z)
      (after-paged g salt answer w f m (ap answer_of j) (asked_by (job.Checkpoint salt page answer) j) n (is_empty (pages_from (in_checkpoint w) (suc n))))
  after_next (MainHeader salt page answer j r x y z) =
      rw (x, y, z) (after-headed g salt answer w f m (ap answer_of j) (asked_by (job.Checkpoint salt page answer) j))
  after_next (MainLength salt answer j x y z) =
      rw (x, y, z) (after-lengthened g salt answer w f m (ap answer_of j) (asked_by (job.MainLength salt answer) j))
  after_next (LogLength salt answer j x y z) = rw (x, y, z) (after-emptied g salt answer w f m (ap answer_of j))
  after_next (LogHeader salt answer j x y z) =
      rw (x, y, z) (after-checkpointed g salt answer w f m (ap answer_of j) (asked_by (job.LogHeader salt answer) j))

-- ---- a step that is done

module _ (g : List ℕ) (w : World) (a : Act) (rest : List Act) (t : todo g w ≡ a ∷ rest) (i : inside a ≡ true) where
  done-by : step_fine g w ≡ true → stepped g w ≡ advance g w
  unfolding stepped done
  done-by e = rw (e, t, i)

  -- the way that it went; asks nothing but that the areas fit
  pub step-next : step_fine g w ≡ true → Next g w a rest (stepped g w)
  step-next e = rw (done-by e) (next g w a rest t)

  pub step_after : {P : ℕ → Bool} → ReadyOf P g w → After P g w a rest (stepped g w)
  step_after r =
      let p = ready-fine g w r.right in
      after_next g w a rest (stepped g w) p.0 p.1 r.made (step-next r.right)

  -- the files are those of the first store
  pub step-disk : {P : ℕ → Bool} → ReadyOf P g w → disk_of (stepped g w) ≡ stored a (disk_of w)
  step-disk r = (step_after r).disk

  -- the rest is left to do
  pub step-rest : {P : ℕ → Bool} → ReadyOf P g w → todo g (stepped g w) ≡ rest
  step-rest r = (step_after r).left

  done-ready : {P : ℕ → Bool} → ReadyOf P g w → ReadyOf P g (stepped g w)
  done-ready r =
      let p = ready-fine g w r.right in
      let x = step_after r in
      let s : Fine (stepped g w) = record { table = x.table ∙ p.0.table; files = rw x.disk (stored-areas a (disk_of w) i p.0.files); count = x.count } in
      record { right = fine-ready g (stepped g w) s p.1; made = x.made }

-- ---- a step that changes nothing

module _ (g : List ℕ) (w : World) where
  -- refused for its areas
  pub step-unfine : step_fine g w ≡ false → stepped g w ≡ w
  unfolding stepped
  step-unfine e = rw e

  pick_same : (b : Bool) → pick b w w ≡ w
  pick_same true = refl
  pick_same false = refl

  -- nothing is left to do
  pub step-none : todo g w ≡ [] → stepped g w ≡ w
  unfolding stepped done
  step-none e = rw e (pick_same (step_fine g w))

  -- the first store would pass its area
  pub step-outside : (a : Act) (rest : List Act) → todo g w ≡ a ∷ rest → inside a ≡ false → stepped g w ≡ w
  unfolding stepped done
  step-outside a rest t i = rw (t, i) (pick_same (step_fine g w))

  -- nothing is under way
  pub idle-todo : w.pager.job ≡ job.Idle → todo g w ≡ []
  unfolding commit_todo checkpoint_todo
  idle-todo e = todo-by g w job.Idle e

  pub idle-step : w.pager.job ≡ job.Idle → stepped g w ≡ w
  idle-step e = step-none (idle-todo e)

  -- ---- what the laws ask stays, whether the step is done or not

  keeps-at : {P : ℕ → Bool} → ReadyOf P g w → (l : List Act) → todo g w ≡ l → ReadyOf P g (stepped g w)
  keeps-at r [] t = rw (step-none t) r
  keeps-at {P} r (a ∷ rest) t = by (inside a) refl
    where
      by : (b : Bool) → inside a ≡ b → ReadyOf P g (stepped g w)
      by true i = done-ready g w a rest t i r
      by false i = rw (step-outside a rest t i) r

  pub step_keeps : {P : ℕ → Bool} → ReadyOf P g w → ReadyOf P g (stepped g w)
  step_keeps r = keeps-at r (todo g w) refl

  made_at : {P : ℕ → Bool} → MadeOf P w → (b : Bool) → step_fine g w ≡ b → MadeOf P (stepped g w)
  made_at m true e = (step_keeps (record { right = e; made = m })).made
  made_at m false e = rw (step-unfine e) m

  pub made-keeps : {P : ℕ → Bool} → MadeOf P w → MadeOf P (stepped g w)
  made-keeps m = made_at m (step_fine g w) refl
