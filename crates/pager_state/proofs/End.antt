-- 2,200 steps are to the end, in any store: one more changes nothing. Assumes nothing.
use mathlib.Core.Path.{◌≡◌, refl, sym, ap, ◌∙◌}
use mathlib.Core.Bool.{Bool, true, false}
use mathlib.Core.List.{List, [], ◌∷◌}
use mathlib.Core.Logic.{◌⊎◌, inl, inr}
use Prim.Native.Nat.{ℕ, zero, suc, ◌+◌, ◌-◌, ◌≤◌, ◌<◌}
use native.Mathlib.Omega.{arith}
use lib.Dec.{leb}
use Rattle.le.specs.Choice.{pick}
use Rattle.header.specs.declared.DbHeader.{DbHeader}
use Rattle.wal.specs.Write.{with_frame}
use Rattle.pager_state.specs.World.{World, page_limit, count_of}
use Rattle.pager_state.specs.Stores.{Act, inside}
use Rattle.pager_state.specs.Pages.{pages_from, differs, in_checkpoint}
use Rattle.pager_state.specs.Checkpoint.{page_stored, main_header_stored, main_length_stored, log_length_stored, checkpointed, pages_advance, checkpoint_advance}
use Rattle.pager_state.specs.Commit.{checkpoint_frames, page_frame_stored, committed_pager, committed_world, frames_advance, commit_advance}
use Rattle.pager_state.specs.Steps.{todo, advance, done, step_fine, stepped, steps, most_steps}
use Rattle.pager_state.specs.declared.Job.{Job}
use Rattle.pager_state.specs.declared.Job.TheVariants as job
use Rattle.pager_state.proofs.Searches.{first}
use Rattle.pager_state.proofs.Next.{advance-by}
use Rattle.pager_state.proofs.Runs.{steps-still}

-- no fewer than the stores that a job can have left
abbrev pub rank : Job → ℕ
rank job.Idle = 0
rank (job.Commit h salt page answer) = 1029 + (page_limit - page)
rank (job.Checkpoint salt page answer) = 4 + (page_limit - page)
rank (job.MainLength salt answer) = 3
rank (job.LogLength salt answer) = 2
rank (job.LogHeader salt answer) = 1

pub rank_most : (j : Job) → rank j ≤ most_steps
rank_most job.Idle = omega arith
rank_most (job.Commit h salt page answer) = omega arith
rank_most (job.Checkpoint salt page answer) = omega arith
rank_most (job.MainLength salt answer) = omega arith
rank_most (job.LogLength salt answer) = omega arith
rank_most (job.LogHeader salt answer) = omega arith

-- ---- a store lowers the rank

rank-commit-frame : (salt answer page : ℕ) (b : Bool) → rank (pick b (job.Checkpoint salt 0 answer) job.Idle) < 1029 + (page_limit - page)
rank-commit-frame salt answer page true = omega arith
rank-commit-frame salt answer page false = omega arith

rank-commit : (g : List ℕ) (h : DbHeader) (salt page answer : ℕ) (w : World) (l : List ℕ) → pages_from (differs g w) page ≡ l
    → rank (frames_advance g h salt answer l w).pager.job < 1029 + (page_limit - page)
unfolding page_frame_stored committed_world committed_pager
rank-commit g h salt page answer w [] e = rank-commit-frame salt answer page (leb checkpoint_frames (with_frame w.pager.wal (count_of h)).frame_count)
rank-commit g h salt page answer w (n ∷ ns) e = let r = first (differs g w) page n ns e in omega (arith, r.from, r.below)

rank-checkpoint : (salt page answer : ℕ) (w : World) (l : List ℕ) → pages_from (in_checkpoint w) page ≡ l
    → rank (pages_advance salt answer l w).pager.job < 4 + (page_limit - page)
unfolding page_stored main_header_stored
rank-checkpoint salt page answer w [] e = omega arith
rank-checkpoint salt page answer w (n ∷ ns) e = let r = first (in_checkpoint w) page n ns e in omega (arith, r.from, r.below)

-- a step changes nothing, or lowers the rank
abbrev Moves : Job → World → World → Type 0
Moves j w v = (v ≡ w) ⊎ (rank v.pager.job < rank j)

lower : (g : List ℕ) (j : Job) (w : World) → Moves j w (checkpoint_advance j (commit_advance g j w))
unfolding commit_advance checkpoint_advance main_length_stored log_length_stored checkpointed
lower g job.Idle w = inl refl
lower g (job.Commit h salt page answer) w = inr (rank-commit g h salt page answer w (pages_from (differs g w) page) refl)
lower g (job.Checkpoint salt page answer) w = inr (rank-checkpoint salt page answer w (pages_from (in_checkpoint w) page) refl)
lower g (job.MainLength salt answer) w = inr (omega arith)
lower g (job.LogLength salt answer) w = inr (omega arith)
lower g (job.LogHeader salt answer) w = inr (omega arith)

pick-moves : (j : Job) (w v : World) (b : Bool) → Moves j w v → Moves j w (pick b v w)
pick-moves j w v true m = m
pick-moves j w v false m = inl refl

done-moves : (j : Job) (l : List Act) (v w : World) → Moves j w v → Moves j w (done l v w)
unfolding done
done-moves j [] v w m = inl refl
done-moves j (a ∷ l) v w m = pick-moves j w v (inside a) m

pub moves : (g : List ℕ) (w : World) → (stepped g w ≡ w) ⊎ (rank (stepped g w).pager.job < rank w.pager.job)
unfolding stepped
moves g w =
    let m : Moves w.pager.job w (advance g w) = rw (advance-by g w w.pager.job refl) (lower g w.pager.job w) in
    pick-moves w.pager.job w (done (todo g w) (advance g w) w) (step_fine g w) (done-moves w.pager.job (todo g w) (advance g w) w m)

-- ---- to the end

end-at : (g : List ℕ) (k : ℕ) (w : World) → rank w.pager.job ≤ suc k
    → (rank (stepped g w).pager.job ≤ k → stepped g (steps g k (stepped g w)) ≡ steps g k (stepped g w))
    → (stepped g w ≡ w) ⊎ (rank (stepped g w).pager.job < rank w.pager.job) → stepped g (steps g k (stepped g w)) ≡ steps g k (stepped g w)
end-at g k w h r (inl e) =
    let s : steps g k (stepped g w) ≡ w = ap (steps g k) e ∙ steps-still g k w e in
    ap (stepped g) s ∙ e ∙ sym s
end-at g k w h r (inr l) = r (omega arith)

none_left : (g : List ℕ) (w : World) → rank w.pager.job ≤ 0 → (stepped g w ≡ w) ⊎ (rank (stepped g w).pager.job < rank w.pager.job) → stepped g w ≡ w
none_left g w h (inl e) = e
none_left g w h (inr l) = absurd (omega arith)

pub end_after : (g : List ℕ) (k : ℕ) (w : World) → rank w.pager.job ≤ k → stepped g (steps g k w) ≡ steps g k w
unfolding steps
end_after g zero w h = none_left g w h (moves g w)
end_after g (suc k) w h = end-at g k w h (λ z. end_after g k (stepped g w) z) (moves g w)

pub to_the_end : (g : List ℕ) (w : World) → stepped g (steps g most_steps w) ≡ steps g most_steps w
to_the_end g w = end_after g most_steps w (rank_most w.pager.job)
