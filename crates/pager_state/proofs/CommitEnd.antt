-- A commit that is begun, run to its end: the world behind its commit frame, or the one that the checkpoint leaves which it brings on. Assumes nothing.
use mathlib.Core.Path.{◌≡◌, refl, sym, ap, ◌∙◌}
use mathlib.Core.Bool.{Bool}
use mathlib.Core.List.{List, [], ◌∷◌, append-nil}
use Prim.Native.Nat.{ℕ, suc, ◌+◌, ◌-◌, ◌*◌, ◌%◌, ◌^◌, ◌≤◌, ◌<◌}
use native.Mathlib.Nat.{suc-add}
use native.Mathlib.Omega.{arith}
use borrow.Author.Tests.{le-leb, lt-leb}
use lib.ListN.{length}
use Rattle.std.specs.Prelude.{None}
use Rattle.header.specs.declared.DbHeader.{DbHeader}
use Rattle.frame.specs.Frame.{frame_size}
use Rattle.wal.specs.Write.{longer}
use Rattle.pager_state.specs.World.{World, staged_limit, header_of, with_job}
use Rattle.pager_state.specs.Overlay.{is_staged, committed_in}
use Rattle.pager_state.specs.Stores.{Act}
use Rattle.pager_state.specs.Pages.{pages_from, differs_in, differs, in_checkpoint}
use Rattle.pager_state.specs.Checkpoint.{checkpoint_todo, checkpoint_advance}
use Rattle.pager_state.specs.Commit.{checkpoint_frames, job_after, page_frame_stored, committed_pager, committed_world, frames_todo, frames_advance, commit_todo, commit_advance}
use Rattle.pager_state.specs.Steps.{differing, commit_refusal, begin_commit, todo, done, stepped, steps, most_steps, on_store, commit_world}
use Rattle.pager_state.specs.declared.Job.TheVariants as job
use Rattle.pager_state.proofs.Searches.{first, pages-same, pages-length}
use Rattle.pager_state.proofs.Stored.{AllInside}
use Rattle.pager_state.proofs.Made.{AsksOf, ReadyOf, ready-fine}
use Rattle.pager_state.proofs.Next.{todo-by, advance-by}
use Rattle.pager_state.proofs.Advance.{framed-differs}
use Rattle.pager_state.proofs.Steps.{step_keeps}
use Rattle.pager_state.proofs.Runs.{steps-add, steps-keep, step-inside, idle-stays}
use Rattle.pager_state.proofs.Begun.{begun-commit, commit-inside, commit-ready}
use Rattle.pager_state.proofs.CheckpointEnd.{pages_world, end_world, checkpoint-run}

module _ (g : List ℕ) (h : DbHeader) (salt answer : ℕ) where
  -- after the frames of these pages
  unfoldable pub frames_world : List ℕ → World → World
  frames_world [] w = w
  frames_world (n ∷ ns) w = frames_world ns (page_frame_stored g h salt answer n w)

  -- ---- one step

  module _ {P : ℕ → Bool} (w : World) (p : ℕ) (j : w.pager.job ≡ job.Commit h salt p answer) (ns : List ℕ) (e : pages_from (differs g w) p ≡ ns) (r : ReadyOf P g w)
      (i : AllInside (todo g w)) where
    frames-todo : todo g w ≡ frames_todo g h salt answer ns w
    unfolding commit_todo checkpoint_todo
    frames-todo = todo-by g w (job.Commit h salt p answer) j ∙ append-nil _ ∙ ap (λ (l : List ℕ). frames_todo g h salt answer l w) e

    frames-step : (a : Act) (rest : List Act) → frames_todo g h salt answer ns w ≡ a ∷ rest → stepped g w ≡ frames_advance g h salt answer ns w
    unfolding stepped done commit_advance checkpoint_advance
    frames-step a rest f =
        let t = frames-todo ∙ f in
        let k : AllInside (a ∷ rest) = rw t at i in
        rw (r.right, t, k.0) (advance-by g w (job.Commit h salt p answer) j ∙ ap (λ (l : List ℕ). frames_advance g h salt answer l w) e)

  -- ---- the frames

  framed-left : {P : ℕ → Bool} (w : World) (p n : ℕ) (ns : List ℕ) → w.pager.job ≡ job.Commit h salt p answer → pages_from (differs g w) p ≡ n ∷ ns → ReadyOf P g w
      → pages_from (differs g (page_frame_stored g h salt answer n w)) (suc n) ≡ ns
  framed-left {P} w p n ns j e r =
      let f = (ready-fine g w r.right).0.files.log in
      let k : AsksOf P (job.Commit h salt p answer) w = rw j at r.made.asked in
      let d = pages-same (differs g (page_frame_stored g h salt answer n w)) (differs g w) (suc n) (framed-differs g h salt answer w n k.0 k.1.0 (omega (arith, f.area, f.len))) in
      let s = (first (differs g w) p n ns e).split in
      d ∙ cc

  framed-job : (n : ℕ) (w : World) → (page_frame_stored g h salt answer n w).pager.job ≡ job.Commit h salt (suc n) answer
  unfolding page_frame_stored
  framed-job n w = refl

  frames-run : {P : ℕ → Bool} (ns : List ℕ) (w : World) (p : ℕ) → w.pager.job ≡ job.Commit h salt p answer → pages_from (differs g w) p ≡ ns → ReadyOf P g w → AllInside (todo g w)
      → steps g (length ns + 1) w ≡ committed_world h salt answer (frames_world ns w)
  unfolding frames_world frames_todo steps
  frames-run [] w p j e r i = frames-step w p j [] e r i _ _ refl
  frames-run {P} (n ∷ ns) w p j e r i =
      let v : World = page_frame_stored g h salt answer n w in
      let a : stepped g w ≡ v = frames-step w p j (n ∷ ns) e r i _ _ refl in
      let k : AllInside (todo g v) = rw a at (step-inside g w r i) in
      let s : ReadyOf P g v = rw a at (step_keeps g w r) in
      rw suc-add (ap (steps g (length ns + 1)) a ∙ frames-run ns v (suc n) (framed-job n w) (framed-left w p n ns j e r) s k)

  -- each is one frame; the count wraps
  frames-len : (ns : List ℕ) (w : World) → (frames_world ns w).pager.wal.len ≡ w.pager.wal.len + frame_size * length ns
  unfolding frames_world page_frame_stored longer
  frames-len [] w = omega arith
  frames-len (n ∷ ns) w = omega (arith, frames-len ns (page_frame_stored g h salt answer n w))

  frames-count : (ns : List ℕ) (w : World) → ((frames_world ns w).pager.wal.frame_count + 1) % 2 ^ 64 ≡ (w.pager.wal.frame_count + (length ns + 1)) % 2 ^ 64
  unfolding frames_world page_frame_stored longer
  frames-count [] w = refl
  frames-count (n ∷ ns) w = frames-count ns (page_frame_stored g h salt answer n w) ∙ omega arith

  -- what they leave
  pub record Framed (w v : World) : Type 0 where
    pub opening : v.pager.opening ≡ w.pager.opening
    pub log_header : v.pager.wal.header ≡ w.pager.wal.header
    pub storage : v.pager.storage ≡ w.pager.storage

  frames-leave : (ns : List ℕ) (w : World) → Framed w (frames_world ns w)
  unfolding frames_world page_frame_stored longer
  frames-leave [] w = record { opening = refl; log_header = refl; storage = refl }
  frames-leave (n ∷ ns) w =
      let i = frames-leave ns (page_frame_stored g h salt answer n w) in
      record { opening = i.opening; log_header = i.log_header; storage = i.storage }

-- ---- a commit that is begun, in any store

-- behind the commit frame: n pages differed
pub record Behind (w v : World) (h : DbHeader) (n : ℕ) : Type 0 where
  pub unstaged : v.pager.staged.count ≡ 0
  pub header : header_of v.pager ≡ h
  pub opening : v.pager.opening ≡ w.pager.opening
  pub log_header : v.pager.wal.header ≡ w.pager.wal.header
  pub main_file : v.pager.storage.len ≡ w.pager.storage.len
  pub log_file : v.pager.wal.len ≡ w.pager.wal.len + frame_size * (n + 1)
  pub frames : v.pager.wal.frame_count ≡ (w.pager.wal.frame_count + (n + 1)) % 2 ^ 64

module _ (g : List ℕ) (w : World) (h : DbHeader) (salt : ℕ) (slots : length w.pager.staged.pages ≡ staged_limit) (b : commit_refusal g w h ≡ None) where
  abbrev answer : ℕ
  answer = differing g w

  abbrev pages : List ℕ
  pages = pages_from (differs g w) 0

  abbrev begun : World
  begun = on_store w (with_job w.pager (job.Commit h salt 0 answer))

  -- after the commit frame
  abbrev pub committed : World
  committed = committed_world h salt answer (frames_world g h salt answer pages begun)

  begun-is : on_store w (begin_commit g w h salt).pager ≡ begun
  begun-is = rw (begun-commit g w h b salt)

  begun-ready : ReadyOf (is_staged w.pager.staged) g begun
  begun-ready = rw begun-is at (commit-ready g w h b salt slots)

  begun-inside : AllInside (todo g begun)
  begun-inside = rw begun-is at (commit-inside g w h b salt)

  begun-pages : pages_from (differs g begun) 0 ≡ pages
  unfolding differs_in committed_in
  begun-pages = refl

  commit-frame-run : steps g (length pages + 1) begun ≡ committed
  commit-frame-run = frames-run g h salt answer pages begun 0 refl begun-pages begun-ready begun-inside

  commit-frame-ready : ReadyOf (is_staged w.pager.staged) g committed
  commit-frame-ready = rw commit-frame-run at (steps-keep g (length pages + 1) begun begun-ready)

  -- the steps behind the commit frame
  commit-is : commit_world g w h salt ≡ steps g (most_steps - (length pages + 1)) committed
  unfolding commit_world
  commit-is =
      let k : length pages + 1 + (most_steps - (length pages + 1)) ≡ most_steps = omega (arith, pages-length (differs g w) 0) in
      rw (b, begun-is)
      (ap (λ (n : ℕ). steps g n begun) (sym k) ∙ steps-add g (length pages + 1) (most_steps - (length pages + 1)) begun ∙ ap (steps g (most_steps - (length pages + 1))) commit-frame-run)

  pub committed-is : Behind w committed h (differing g w)
  unfolding committed_world committed_pager longer differing
  committed-is =
      let f = frames-leave g h salt answer pages begun in
      record {
        unstaged = refl;
        header = refl;
        opening = f.opening;
        log_header = f.log_header;
        main_file = rw f.storage;
        log_file = omega (arith, frames-len g h salt answer pages begun);
        frames = frames-count g h salt answer pages begun;
      }

  commit-frame-job : committed.pager.job ≡ job_after committed.pager.wal salt answer
  unfolding committed_world committed_pager
  commit-frame-job = refl

  -- to so many frames it brings the log
  abbrev pub frames_then : ℕ
  frames_then = (w.pager.wal.frame_count + (differing g w + 1)) % 2 ^ 64

  -- below 100 no checkpoint follows
  pub commit-frame-idle : frames_then < checkpoint_frames → committed.pager.job ≡ job.Idle
  commit-frame-idle k = commit-frame-job ∙ rw (committed-is.frames, lt-leb checkpoint_frames frames_then k)

  pub ends-behind : frames_then < checkpoint_frames → commit_world g w h salt ≡ committed
  ends-behind k = commit-is ∙ idle-stays g (most_steps - (length pages + 1)) committed (commit-frame-idle k)

  -- from 100 on one does
  pub commit-frame-checkpoints : checkpoint_frames ≤ frames_then → committed.pager.job ≡ job.Checkpoint salt 0 answer
  commit-frame-checkpoints k = commit-frame-job ∙ rw (committed-is.frames, le-leb checkpoint_frames frames_then k)

  pub ends-checkpointed : checkpoint_frames ≤ frames_then → commit_world g w h salt ≡ end_world salt answer (pages_world salt answer (pages_from (in_checkpoint committed) 0) committed)
  ends-checkpointed k =
      let m : length (pages_from (in_checkpoint committed) 0) + 4 ≤ most_steps - (length pages + 1) = omega (arith, pages-length (differs g w) 0, pages-length (in_checkpoint committed) 0) in
      commit-is ∙ checkpoint-run salt answer g (most_steps - (length pages + 1)) committed (commit-frame-checkpoints k) commit-frame-ready m
