-- Steps run to the end, cut anywhere. Assumes nothing.
use mathlib.Core.Path.{◌≡◌, refl, sym, ap, ◌∙◌, subst}
use mathlib.Core.Bool.{Bool, true, false}
use mathlib.Core.List.{List, [], ◌∷◌}
use mathlib.Core.Logic.{◌⊎◌, inl, inr}
use Prim.Native.Nat.{ℕ, zero, suc, ◌+◌, min, ◌≤◌, ◌<◌}
use native.Mathlib.Omega.{arith}
use borrow.Author.Tests.{le-leb, lt-leb, le-ltb}
use lib.ListN.{length}
use lib.Seq.{take-length}
use Rattle.le.specs.Choice.{pick}
use Rattle.le.proofs.Tests.{le-or-lt}
use Rattle.header.specs.declared.DbHeader.{DbHeader}
use Rattle.wal.specs.Header.{header_size}
use Rattle.pager_state.specs.World.{World, busy_with}
use Rattle.pager_state.specs.Pages.{pages_from, differs, in_checkpoint}
use Rattle.pager_state.specs.Stores.{Disk, File, disk_of, Act, Put, SetLen, kind_of, stored, cut_store, size_of, cut_all, whole_of, reach, put_front, put_file, len_cut}
use Rattle.pager_state.specs.Checkpoint.{checkpoint_todo}
use Rattle.pager_state.specs.Commit.{commit_todo}
use Rattle.pager_state.specs.Steps.{todo, advance, done, step_fine, stepped, steps}
use Rattle.pager_state.specs.declared.FileKind.TheVariants as file
use Rattle.pager_state.specs.declared.Job.{Job}
use Rattle.pager_state.specs.declared.Job.TheVariants as job
use Rattle.pager_state.proofs.Next.{todo-by}
use Rattle.history.specs.Model.{Model, model_store, model_stores}
use Rattle.history.specs.Run.{kinds, kept_by, kept_after}
use Rattle.history.proofs.Disk.{DiskOk}
use Rattle.history.proofs.Rest.{Inv, InvJob, inv-disk}
use Rattle.history.proofs.Stepping.{Covers, StepOk}
use Rattle.history.proofs.CommitFrame.{frame_step}
use Rattle.history.proofs.CommitLast.{commit-frame-step}
use Rattle.history.proofs.CheckpointPage.{page-step}
use Rattle.history.proofs.CheckpointHeader.{head_step}
use Rattle.history.proofs.CheckpointMainLength.{length-step}
use Rattle.history.proofs.CheckpointLogLength.{empty-step}
use Rattle.history.proofs.CheckpointLogHeader.{header-step}

-- ---- a list of stores that may be cut anywhere

abbrev pub CutOk : List ℕ → List Act → Disk → Model → List ℕ → Type 0
CutOk body acts d b z =
    (j k : ℕ) → DiskOk (cut_all acts j k d) (model_stores body (kinds (whole_of acts j k)) b) (kept_after (whole_of acts j k) d z)

pub cut-none : (body : List ℕ) (d : Disk) (b : Model) (z : List ℕ) → DiskOk d b z → CutOk body [] d b z
unfolding cut_all whole_of model_stores kept_after
cut-none body d b z k i j = k

whole-front : (f : File) (at : ℕ) (bs : List ℕ) (n : ℕ) → length bs ≡ suc n → put_front f at bs (suc n) ≡ put_file f at bs
unfolding put_front
whole-front f at bs n e = rw (← e, take-length bs)

put-over : (f : File) (at : ℕ) (bs : List ℕ) (k : ℕ) → header_size ≤ at + length bs → 1 ≤ length bs → length bs ≤ k → put_front f at bs (reach at bs k) ≡ put_file f at bs
unfolding reach
put-over f at bs k h l e =
    let m : min k (length bs) ≡ length bs = omega arith in
    rw (m, le-ltb (at + length bs) header_size h) (all (length bs) refl)
  where
    all : (n : ℕ) → length bs ≡ n → put_front f at bs n ≡ put_file f at bs
    all zero q = absurd (omega arith)
    all (suc n) q = whole-front f at bs n q

-- a store cut behind its last byte is whole
pub cut-whole : (a : Act) (k : ℕ) (d : Disk) → Covers a → size_of a ≤ k → cut_store a k d ≡ stored a d
unfolding len_cut
cut-whole (Put t file.Log at bs flush) k d h l = rw (put-over d.log at bs k h.0 h.1 l)
cut-whole (Put t file.Main at bs flush) k d h l = rw (put-over d.main at bs k h.0 h.1 l)
cut-whole (SetLen t f n flush) zero d h l = absurd (omega arith)
cut-whole (SetLen t f n flush) (suc k) d h l = refl

module _ (body : List ℕ) (a : Act) (rest : List Act) (d : Disk) (b : Model) (z : List ℕ) (cover : Covers a)
    (cut : (k : ℕ) → k < size_of a → DiskOk (cut_store a k d) b z) (after : DiskOk (stored a d) (model_store body (kind_of a) b) (kept_by a (stored a d) z))
    (later : CutOk body rest (stored a d) (model_store body (kind_of a) b) (kept_by a (stored a d) z)) where
  first-cut : (k : ℕ) → (size_of a ≤ k) ⊎ (k < size_of a)
      → DiskOk (cut_all (a ∷ rest) 0 k d) (model_stores body (kinds (whole_of (a ∷ rest) 0 k)) b) (kept_after (whole_of (a ∷ rest) 0 k) d z)
  unfolding cut_all whole_of model_stores kept_after
  first-cut k (inl h) = rw (cut-whole a k d cover h, le-leb (size_of a) k h) after
  first-cut k (inr h) = rw (lt-leb (size_of a) k h) (cut k h)

  pub cut-cons : CutOk body (a ∷ rest) d b z
  unfolding cut_all whole_of model_stores kept_after
  cut-cons zero k = first-cut k (le-or-lt (size_of a) k)
  cut-cons (suc j) k = later j k

-- ---- the next step of what is part done

module _ (g : List ℕ) (w : World) (b : Model) (z : List ℕ) where
  commit-step : (h : DbHeader) (salt p answer : ℕ) → w.pager.job ≡ job.Commit h salt p answer → InvJob (job.Commit h salt p answer) w g b z → (ns : List ℕ)
      → pages_from (differs g w) p ≡ ns → StepOk g w b z
  commit-step h salt p answer e i [] q = commit-frame-step g w b z h salt p answer e i q
  commit-step h salt p answer e i (n ∷ ns) q = frame_step g w b z h salt p answer e i n ns q

  checkpoint-step : (salt p answer : ℕ) → w.pager.job ≡ job.Checkpoint salt p answer → InvJob (job.Checkpoint salt p answer) w g b z → (ns : List ℕ)
      → pages_from (in_checkpoint w) p ≡ ns → StepOk g w b z
  checkpoint-step salt p answer e i [] q = head_step g w b z salt p answer e i q
  checkpoint-step salt p answer e i (n ∷ ns) q = page-step g w b z salt p answer e i n ns q

  pub next-step : (j : Job) → w.pager.job ≡ j → InvJob j w g b z → (StepOk g w b z) ⊎ (todo g w ≡ [])
  unfolding commit_todo checkpoint_todo
  next-step job.Idle e i = inr (todo-by g w job.Idle e)
  next-step (job.Commit h salt p answer) e i = inl (commit-step h salt p answer e i (pages_from (differs g w) p) refl)
  next-step (job.Checkpoint salt p answer) e i = inl (checkpoint-step salt p answer e i (pages_from (in_checkpoint w) p) refl)
  next-step (job.MainLength salt answer) e i = inl (length-step g w b z salt answer e i)
  next-step (job.LogLength salt answer) e i = inl (empty-step g w b z salt answer e i)
  next-step (job.LogHeader salt answer) e i = inl (header-step g w b z salt answer e i)

  pub stepped-is : (s : StepOk g w b z) → stepped g w ≡ s.next
  unfolding stepped done
  stepped-is s = rw (s.fine, s.todo_is, s.lies) s.next_is

  pub step-disk : (s : StepOk g w b z) → DiskOk (stored s.act (disk_of w)) (model_store [] (kind_of s.act) b) (kept_by s.act (stored s.act (disk_of w)) z)
  step-disk s =
      rw s.disk at (inv-disk s.next.pager.job s.next g (model_store [] (kind_of s.act) b) (kept_by s.act (stored s.act (disk_of w)) z) s.after)

  -- nothing is left to store only where nothing is part done
  nothing_left : {A : Type 0} → todo g w ≡ [] → StepOk g w b z → A
  nothing_left e s = let q : s.act ∷ s.rest ≡ [] = sym s.todo_is ∙ e in let z : ◌≡◌ {A = ℕ} 0 1 = cc in absurd (omega arith)

  pub idle-end : (j : Job) → w.pager.job ≡ j → InvJob j w g b z → todo g w ≡ [] → busy_with j ≡ false
  idle-end job.Idle e i q = refl
  idle-end (job.Commit h salt p answer) e i q = nothing_left q (commit-step h salt p answer e i (pages_from (differs g w) p) refl)
  idle-end (job.Checkpoint salt p answer) e i q = nothing_left q (checkpoint-step salt p answer e i (pages_from (in_checkpoint w) p) refl)
  idle-end (job.MainLength salt answer) e i q = nothing_left q (length-step g w b z salt answer e i)
  idle-end (job.LogLength salt answer) e i q = nothing_left q (empty-step g w b z salt answer e i)
  idle-end (job.LogHeader salt answer) e i q = nothing_left q (header-step g w b z salt answer e i)

pub stepped-none : (g : List ℕ) (w : World) → todo g w ≡ [] → stepped g w ≡ w
unfolding stepped done
stepped-none g w e = go (step_fine g w)
  where
    go : (t : Bool) → pick t (done (todo g w) (advance g w) w) w ≡ w
    go true = rw e
    go false = refl

pub steps-none : (g : List ℕ) (n : ℕ) (w : World) → todo g w ≡ [] → steps g n w ≡ w
unfolding steps
steps-none g zero w e = refl
steps-none g (suc n) w e = rw (stepped-none g w e) (steps-none g n w e)

-- ---- all steps

pub record RunOk (g : List ℕ) (n : ℕ) (w : World) (b : Model) (z : List ℕ) (acts : List Act) (d : Disk) : Type 0 where
  pub after : Inv (steps g n w) g (model_stores [] (kinds acts) b) (kept_after acts d z)
  pub ends : todo g (steps g n w) ≡ []
  pub cut : CutOk [] acts d b z

run_none : (g : List ℕ) (n : ℕ) (w : World) (b : Model) (z : List ℕ) → todo g w ≡ [] → Inv w g b z → RunOk g n w b z [] (disk_of w)
unfolding model_stores kept_after
run_none g n w b z e i =
    record { after = rw (steps-none g n w e) i; ends = rw (steps-none g n w e) e; cut = cut-none [] (disk_of w) b z (inv-disk w.pager.job w g b z i) }

run-cons : (g : List ℕ) (n : ℕ) (w : World) (b : Model) (z : List ℕ) (s : StepOk g w b z)
    → RunOk g n s.next (model_store [] (kind_of s.act) b) (kept_by s.act (stored s.act (disk_of w)) z) s.rest (stored s.act (disk_of w))
    → RunOk g (suc n) w b z (s.act ∷ s.rest) (disk_of w)
unfolding steps model_stores kept_after
run-cons g n w b z s r =
    record {
      after =
          subst (λ (v : World). Inv (steps g n v) g (model_stores [] (kinds s.rest) (model_store [] (kind_of s.act) b)) (kept_after s.rest (stored s.act (disk_of w)) (kept_by s.act (stored s.act (disk_of w)) z)))
          (sym (stepped-is g w b z s)) r.after;
      ends = subst (λ (v : World). todo g (steps g n v) ≡ []) (sym (stepped-is g w b z s)) r.ends;
      cut = cut-cons [] s.act s.rest (disk_of w) b z s.covers s.cut (step-disk g w b z s) r.cut;
    }

pub run_ok : (g : List ℕ) (n : ℕ) (w : World) (b : Model) (z : List ℕ) (acts : List Act) (d : Disk) → todo g w ≡ acts → disk_of w ≡ d → length acts ≤ n → Inv w g b z
    → RunOk g n w b z acts d
run_ok g zero w b z [] d e q h i = rw (← q) (run_none g zero w b z e i)
run_ok g zero w b z (a ∷ acts) d e q h i = absurd (omega arith)
run_ok g (suc n) w b z acts d e q h i =
    go (next-step g w b z w.pager.job refl i)
    (λ (s : StepOk g w b z) (m : length s.rest ≤ n).
    run_ok g n s.next (model_store [] (kind_of s.act) b) (kept_by s.act (stored s.act (disk_of w)) z) s.rest (stored s.act (disk_of w)) s.left s.disk m s.after)
  where
    go : (StepOk g w b z) ⊎ (todo g w ≡ [])
        → ((s : StepOk g w b z) → length s.rest ≤ n → RunOk g n s.next (model_store [] (kind_of s.act) b) (kept_by s.act (stored s.act (disk_of w)) z) s.rest (stored s.act (disk_of w)))
        → RunOk g (suc n) w b z acts d
    go (inl s) later =
        let p : acts ≡ s.act ∷ s.rest = sym e ∙ s.todo_is in
        let m : length s.rest ≤ n = omega (arith, ap length p) in
        rw (p, ← q) (run-cons g n w b z s (later s m))
    go (inr s) later = let p : acts ≡ [] = sym e ∙ s in rw (p, ← q) (run_none g (suc n) w b z s i)
