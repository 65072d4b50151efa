-- A checkpoint run to its end: the worlds of its stores, one behind the other, and what the last of them leaves. Assumes nothing.
use mathlib.Core.Path.{◌≡◌, refl, sym, ap, ◌∙◌}
use mathlib.Core.Bool.{Bool}
use mathlib.Core.List.{List, [], ◌∷◌}
use Prim.Native.Nat.{ℕ, suc, ◌+◌, ◌-◌, ◌*◌, ◌≤◌}
use native.Mathlib.Nat.{suc-add}
use native.Mathlib.Omega.{arith}
use lib.ListN.{length}
use Rattle.page.specs.Page.{page_size}
use Rattle.wal.specs.Header.{header_size}
use Rattle.wal.specs.Write.{empty_wal}
use Rattle.pager_state.specs.World.{World, count_of, header_of}
use Rattle.pager_state.specs.Stores.{Act, len_file}
use Rattle.pager_state.specs.Pages.{pages_from, in_checkpoint_by, in_checkpoint}
use Rattle.pager_state.specs.Checkpoint.{page_stored, main_header_stored, main_length_stored, log_length_stored, checkpointed, pages_todo, checkpoint_todo, checkpoint_advance, pages_advance}
use Rattle.pager_state.specs.Commit.{commit_todo, commit_advance}
use Rattle.pager_state.specs.Steps.{todo, done, stepped, steps}
use Rattle.pager_state.specs.declared.Job.{Job}
use Rattle.pager_state.specs.declared.Job.TheVariants as job
use Rattle.pager_state.proofs.Searches.{first}
use Rattle.pager_state.proofs.Stored.{AllInside}
use Rattle.pager_state.proofs.Inside.{checkpoint-stores-inside}
use Rattle.pager_state.proofs.Made.{ReadyOf, ready-fine}
use Rattle.pager_state.proofs.Next.{todo-by, advance-by}
use Rattle.pager_state.proofs.Steps.{step_keeps}
use Rattle.pager_state.proofs.Runs.{steps-add, idle-stays}

-- the pages' stores leave all but the main file
pub record Leaves (w v : World) : Type 0 where
  pub table : v.table ≡ w.table
  pub log : v.log ≡ w.log
  pub wal : v.pager.wal ≡ w.pager.wal
  pub staged : v.pager.staged ≡ w.pager.staged
  pub header : header_of v.pager ≡ header_of w.pager

-- the log has its header alone, and the main file its pages
pub record Ended (w v : World) : Type 0 where
  pub rests : v.pager.job ≡ job.Idle
  pub log_file : v.pager.wal.len ≡ header_size
  pub frames : v.pager.wal.frame_count ≡ 0
  pub main_file : v.pager.storage.len ≡ page_size * count_of (header_of w.pager)

module _ (salt answer : ℕ) where
  -- after these pages
  unfoldable pub pages_world : List ℕ → World → World
  pages_world [] w = w
  pages_world (n ∷ ns) w = pages_world ns (page_stored salt answer n w)

  -- and after the four stores behind them
  abbrev pub end_world : World → World
  end_world w = checkpointed salt (log_length_stored salt answer (main_length_stored salt answer (main_header_stored salt answer w)))

  pub paged-left : (w : World) (p n : ℕ) (ns : List ℕ) → pages_from (in_checkpoint w) p ≡ n ∷ ns → pages_from (in_checkpoint (page_stored salt answer n w)) (suc n) ≡ ns
  unfolding page_stored in_checkpoint_by
  paged-left w p n ns e =
      let s = (first (in_checkpoint w) p n ns e).split in
      cc

  pub pages-leave : (l : List ℕ) (w : World) → Leaves w (pages_world l w)
  unfolding pages_world page_stored
  pages-leave [] w = record { table = refl; log = refl; wal = refl; staged = refl; header = refl }
  pages-leave (n ∷ ns) w =
      let i = pages-leave ns (page_stored salt answer n w) in
      record { table = i.table; log = i.log; wal = i.wal; staged = i.staged; header = i.header }

  pub end_is : (l : List ℕ) (w : World) → Ended w (end_world (pages_world l w))
  unfolding checkpointed log_length_stored main_length_stored main_header_stored len_file empty_wal
  end_is l w = record { rests = refl; log_file = refl; frames = refl; main_file = rw (pages-leave l w).header }

  module _ (g : List ℕ) where
    -- ---- one step

    module _ {P : ℕ → Bool} (w : World) (r : ReadyOf P g w) where
      checkpoint-step : (j : Job) (a : Act) (rest : List Act) → w.pager.job ≡ j → todo g w ≡ checkpoint_todo j w → checkpoint_todo j w ≡ a ∷ rest
          → stepped g w ≡ checkpoint_advance j (commit_advance g j w)
      unfolding stepped done
      checkpoint-step j a rest e t f =
          let i : AllInside (a ∷ rest) = rw f at (checkpoint-stores-inside j w (ready-fine g w r.right).0.count) in
          rw (r.right, t, f, i.0) (advance-by g w j e)

      page-step : (p n : ℕ) (ns : List ℕ) → w.pager.job ≡ job.Checkpoint salt p answer → pages_from (in_checkpoint w) p ≡ n ∷ ns → stepped g w ≡ page_stored salt answer n w
      unfolding commit_todo commit_advance checkpoint_todo checkpoint_advance pages_todo
      page-step p n ns j e =
          let k : Job = job.Checkpoint salt p answer in
          checkpoint-step k _ _ j (todo-by g w k j) (ap (λ (l : List ℕ). pages_todo salt answer l w) e) ∙ ap (λ (l : List ℕ). pages_advance salt answer l w) e

      header-step : (p : ℕ) → w.pager.job ≡ job.Checkpoint salt p answer → pages_from (in_checkpoint w) p ≡ [] → stepped g w ≡ main_header_stored salt answer w
      unfolding commit_todo commit_advance checkpoint_todo checkpoint_advance pages_todo
      header-step p j e =
          let k : Job = job.Checkpoint salt p answer in
          checkpoint-step k _ _ j (todo-by g w k j) (ap (λ (l : List ℕ). pages_todo salt answer l w) e) ∙ ap (λ (l : List ℕ). pages_advance salt answer l w) e

      length-step : w.pager.job ≡ job.MainLength salt answer → stepped g w ≡ main_length_stored salt answer w
      unfolding commit_todo commit_advance checkpoint_todo checkpoint_advance
      length-step j = checkpoint-step (job.MainLength salt answer) _ _ j (todo-by g w (job.MainLength salt answer) j) refl

      empty-step : w.pager.job ≡ job.LogLength salt answer → stepped g w ≡ log_length_stored salt answer w
      unfolding commit_todo commit_advance checkpoint_todo checkpoint_advance
      empty-step j = checkpoint-step (job.LogLength salt answer) _ _ j (todo-by g w (job.LogLength salt answer) j) refl

      last_step : w.pager.job ≡ job.LogHeader salt answer → stepped g w ≡ checkpointed salt w
      unfolding commit_todo commit_advance checkpoint_todo checkpoint_advance
      last_step j = checkpoint-step (job.LogHeader salt answer) _ _ j (todo-by g w (job.LogHeader salt answer) j) refl

    -- ---- all of them

    next-ready : {P : ℕ → Bool} (w v : World) → stepped g w ≡ v → ReadyOf P g w → ReadyOf P g v
    next-ready w v e r = rw e at (step_keeps g w r)

    end-run : {P : ℕ → Bool} (w : World) (p : ℕ) → w.pager.job ≡ job.Checkpoint salt p answer → pages_from (in_checkpoint w) p ≡ [] → ReadyOf P g w → steps g 4 w ≡ end_world w
    unfolding steps main_header_stored main_length_stored log_length_stored
    end-run {P} w p j e r =
        let w₁ : World = main_header_stored salt answer w in
        let w₂ : World = main_length_stored salt answer w₁ in
        let w₃ : World = log_length_stored salt answer w₂ in
        let a : stepped g w ≡ w₁ = header-step w r p j e in
        let s : ReadyOf P g w₁ = next-ready w w₁ a r in
        let b : stepped g w₁ ≡ w₂ = length-step w₁ s refl in
        let t : ReadyOf P g w₂ = next-ready w₁ w₂ b s in
        let c : stepped g w₂ ≡ w₃ = empty-step w₂ t refl in
        let u : ReadyOf P g w₃ = next-ready w₂ w₃ c t in
        rw (a, b, c) (last_step w₃ u refl)

    paged-job : (n : ℕ) (w : World) → (page_stored salt answer n w).pager.job ≡ job.Checkpoint salt (suc n) answer
    unfolding page_stored
    paged-job n w = refl

    one_more : (k : ℕ) (w v u : World) → stepped g w ≡ v → steps g k v ≡ u → steps g (suc k) w ≡ u
    unfolding steps
    one_more k w v u a e = ap (steps g k) a ∙ e

    pages-run : {P : ℕ → Bool} (l : List ℕ) (w : World) (p : ℕ) → w.pager.job ≡ job.Checkpoint salt p answer → pages_from (in_checkpoint w) p ≡ l → ReadyOf P g w
        → steps g (length l + 4) w ≡ end_world (pages_world l w)
    unfolding pages_world
    pages-run [] w p j e r = end-run w p j e r
    pages-run (n ∷ ns) w p j e r =
        let v : World = page_stored salt answer n w in
        let a : stepped g w ≡ v = page-step w r p n ns j e in
        rw suc-add (one_more (length ns + 4) w v (end_world (pages_world ns v)) a (pages-run ns v (suc n) (paged-job n w) (paged-left w p n ns e) (next-ready w v a r)))

    -- in as many steps or more
    pub checkpoint-run : {P : ℕ → Bool} (k : ℕ) (w : World) → w.pager.job ≡ job.Checkpoint salt 0 answer → ReadyOf P g w → length (pages_from (in_checkpoint w) 0) + 4 ≤ k
        → steps g k w ≡ end_world (pages_world (pages_from (in_checkpoint w) 0) w)
    unfolding checkpointed
    checkpoint-run k w j r h =
        let l : List ℕ = pages_from (in_checkpoint w) 0 in
        let e : length l + 4 + (k - (length l + 4)) ≡ k = omega arith in
        ap (λ (n : ℕ). steps g n w) (sym e) ∙ steps-add g (length l + 4) (k - (length l + 4)) w
        ∙ ap (steps g (k - (length l + 4))) (pages-run l w 0 j refl r) ∙ idle-stays g (k - (length l + 4)) (end_world (pages_world l w)) refl
