-- The next store of a commit or checkpoint, what is left behind it and the store after it, by the job under way. Assumes nothing.
use mathlib.Core.Path.{◌≡◌, refl, sym, ap, ◌∙◌}
use mathlib.Core.List.{List, [], ◌∷◌, ◌++◌, append-nil}
use Prim.Native.Nat.{ℕ, suc}
use native.Mathlib.Omega.{arith}
use lib.ListN.{length}
use Rattle.header.specs.declared.DbHeader.{DbHeader}
use Rattle.pager_state.specs.World.{World}
use Rattle.pager_state.specs.Stores.{Act}
use Rattle.pager_state.specs.Pages.{pages_from, differs, in_checkpoint}
use Rattle.pager_state.specs.Checkpoint.{is_empty, page_act, main_header_act, main_length_act, log_length_act, log_header_act, page_stored, main_header_stored, main_length_stored, log_length_stored, checkpointed, pages_todo, length_todo, empty_todo, header_todo, checkpoint_todo, pages_advance, checkpoint_advance}
use Rattle.pager_state.specs.Commit.{frame_act, page_frame_stored, commit_frame_act, committed_world, frames_todo, frames_advance, commit_todo, commit_advance}
use Rattle.pager_state.specs.Steps.{todo, advance}
use Rattle.pager_state.specs.declared.Job.{Job}
use Rattle.pager_state.specs.declared.Job.TheVariants as job
use Rattle.pager_state.proofs.Searches.{First, first}

-- ---- by the job under way

module _ (g : List ℕ) (w : World) (j : Job) (e : w.pager.job ≡ j) where
  pub todo-by : todo g w ≡ commit_todo g j w ++ checkpoint_todo j w
  unfolding todo
  todo-by = rw e

  pub advance-by : advance g w ≡ checkpoint_advance j (commit_advance g j w)
  unfolding advance
  advance-by = rw e

-- ---- the ways that a step can go

-- a is the store that is next in w, rest what is left behind it, v the world after it
pub data Next (g : List ℕ) (w : World) (a : Act) (rest : List Act) (v : World) : Type 0 where
  Frame : (h : DbHeader) (salt page answer n : ℕ) → w.pager.job ≡ job.Commit h salt page answer → First (differs g w) page n → a ≡ frame_act g w n
      → rest ≡ frames_todo g h salt answer (pages_from (differs g w) (suc n)) (page_frame_stored g h salt answer n w) → v ≡ page_frame_stored g h salt answer n w → Next g w a rest v
  CommitLast : (h : DbHeader) (salt page answer : ℕ) → w.pager.job ≡ job.Commit h salt page answer → pages_from (differs g w) page ≡ [] → a ≡ commit_frame_act h w
      → rest ≡ checkpoint_todo (committed_world h salt answer w).pager.job (committed_world h salt answer w) → v ≡ committed_world h salt answer w → Next g w a rest v
  Page : (salt page answer n : ℕ) → w.pager.job ≡ job.Checkpoint salt page answer → First (in_checkpoint w) page n → a ≡ page_act w n (is_empty (pages_from (in_checkpoint w) (suc n)))
      → rest ≡ pages_todo salt answer (pages_from (in_checkpoint w) (suc n)) (page_stored salt answer n w) → v ≡ page_stored salt answer n w → Next g w a rest v
  MainHeader : (salt page answer : ℕ) → w.pager.job ≡ job.Checkpoint salt page answer → pages_from (in_checkpoint w) page ≡ [] → a ≡ main_header_act w
      → rest ≡ length_todo salt answer (main_header_stored salt answer w) → v ≡ main_header_stored salt answer w → Next g w a rest v
  MainLength : (salt answer : ℕ) → w.pager.job ≡ job.MainLength salt answer → a ≡ main_length_act w → rest ≡ empty_todo salt answer (main_length_stored salt answer w)
      → v ≡ main_length_stored salt answer w → Next g w a rest v
  LogLength : (salt answer : ℕ) → w.pager.job ≡ job.LogLength salt answer → a ≡ log_length_act → rest ≡ header_todo salt (log_length_stored salt answer w)
      → v ≡ log_length_stored salt answer w → Next g w a rest v
  LogHeader : (salt answer : ℕ) → w.pager.job ≡ job.LogHeader salt answer → a ≡ log_header_act w salt → rest ≡ [] → v ≡ checkpointed salt w → Next g w a rest v

module _ (g : List ℕ) (w : World) (a : Act) (rest : List Act) (t : todo g w ≡ a ∷ rest) where
  head-is : (b : Act) (more : List Act) → todo g w ≡ b ∷ more → a ≡ b
  head-is b more e = cc

  rest-is : (b : Act) (more : List Act) → todo g w ≡ b ∷ more → rest ≡ more
  rest-is b more e = cc

  next-commit : (h : DbHeader) (salt page answer : ℕ) → w.pager.job ≡ job.Commit h salt page answer → (l : List ℕ) → pages_from (differs g w) page ≡ l
      → Next g w a rest (advance g w)
  unfolding commit_todo checkpoint_todo commit_advance checkpoint_advance frames_todo
  next-commit h salt page answer j [] e =
      let d = todo-by g w (job.Commit h salt page answer) j ∙ append-nil _ ∙ ap (λ (l : List ℕ). frames_todo g h salt answer l w) e in
      CommitLast h salt page answer j e (head-is _ _ d) (rest-is _ _ d)
      (advance-by g w (job.Commit h salt page answer) j ∙ ap (λ (l : List ℕ). frames_advance g h salt answer l w) e)
  next-commit h salt page answer j (n ∷ ns) e =
      let r = first (differs g w) page n ns e in
      let d = todo-by g w (job.Commit h salt page answer) j ∙ append-nil _ ∙ ap (λ (l : List ℕ). frames_todo g h salt answer l w) r.split in
      Frame h salt page answer n j r (head-is _ _ d) (rest-is _ _ d)
      (advance-by g w (job.Commit h salt page answer) j ∙ ap (λ (l : List ℕ). frames_advance g h salt answer l w) r.split)

  next-checkpoint : (salt page answer : ℕ) → w.pager.job ≡ job.Checkpoint salt page answer → (l : List ℕ) → pages_from (in_checkpoint w) page ≡ l → Next g w a rest (advance g w)
  unfolding commit_todo checkpoint_todo commit_advance checkpoint_advance pages_todo
  next-checkpoint salt page answer j [] e =
      let d = todo-by g w (job.Checkpoint salt page answer) j ∙ ap (λ (l : List ℕ). pages_todo salt answer l w) e in
      MainHeader salt page answer j e (head-is _ _ d) (rest-is _ _ d)
      (advance-by g w (job.Checkpoint salt page answer) j ∙ ap (λ (l : List ℕ). pages_advance salt answer l w) e)
  next-checkpoint salt page answer j (n ∷ ns) e =
      let r = first (in_checkpoint w) page n ns e in
      let d = todo-by g w (job.Checkpoint salt page answer) j ∙ ap (λ (l : List ℕ). pages_todo salt answer l w) r.split in
      Page salt page answer n j r (head-is _ _ d) (rest-is _ _ d)
      (advance-by g w (job.Checkpoint salt page answer) j ∙ ap (λ (l : List ℕ). pages_advance salt answer l w) r.split)

  next-job : (j : Job) → w.pager.job ≡ j → Next g w a rest (advance g w)
  unfolding commit_todo checkpoint_todo commit_advance checkpoint_advance
  next-job job.Idle j = absurd (let z = ap length (sym t ∙ todo-by g w job.Idle j) in omega (arith, z))
  next-job (job.Commit h salt page answer) j = next-commit h salt page answer j (pages_from (differs g w) page) refl
  next-job (job.Checkpoint salt page answer) j = next-checkpoint salt page answer j (pages_from (in_checkpoint w) page) refl
  next-job (job.MainLength salt answer) j =
      let d = todo-by g w (job.MainLength salt answer) j in
      MainLength salt answer j (head-is _ _ d) (rest-is _ _ d) (advance-by g w (job.MainLength salt answer) j)
  next-job (job.LogLength salt answer) j =
      let d = todo-by g w (job.LogLength salt answer) j in
      LogLength salt answer j (head-is _ _ d) (rest-is _ _ d) (advance-by g w (job.LogLength salt answer) j)
  next-job (job.LogHeader salt answer) j =
      let d = todo-by g w (job.LogHeader salt answer) j in
      LogHeader salt answer j (head-is _ _ d) (rest-is _ _ d) (advance-by g w (job.LogHeader salt answer) j)

  -- the store that is next is one of these; asks nothing of w
  pub next : Next g w a rest (advance g w)
  next = next-job w.pager.job refl
