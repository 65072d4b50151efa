-- A commit's step, way by way, from what the code stored. Assumes nothing.
use mathlib.Core.Path.{◌≡◌, refl, sym, ap, ◌∙◌}
use mathlib.Core.Bool.{Bool, true, false}
use mathlib.Core.List.{List, [], ◌∷◌}
use Prim.Native.Nat.{ℕ, suc, ◌+◌, ◌*◌, ◌<◌}
use native.Mathlib.Numerals.{add-one}
use lib.Dec.{leb}
use lib.ListN.{length}
use Rattle.std.specs.Prelude.{Err, Ok, Result}
use Rattle.le.specs.Choice.{pick}
use Rattle.le.specs.Le.{put}
use Rattle.page.specs.Page.{page_size}
use Rattle.refusal.specs.declared.Refusal.TheVariants as refusal
use Rattle.refusal.specs.declared.Refusal.{Refusal}
use Rattle.header.specs.declared.DbHeader.{DbHeader}
use Rattle.wal.specs.Write.{with_frame, has_room}
use Rattle.wal.specs.declared.Wal.{Wal}
use Rattle.pager_state.specs.World.{World, world, staged_limit, staging_area, count_of, with_job, with_wal}
use Rattle.pager_state.specs.Overlay.{page_from, slot_of, staged_bytes}
use Rattle.pager_state.specs.Stores.{Act, Put, Other, place_of, inside, disk_of}
use Rattle.pager_state.specs.Pages.{pages_from, differs}
use Rattle.pager_state.specs.Checkpoint.{checkpoint_todo, pages_todo}
use Rattle.pager_state.specs.Commit.{checkpoint_frames, with_entry, page_frame_stored, commit_frame_act, job_after, committed_with, committed_pager, committed_world, frames_todo, frames_advance, commit_todo, commit_advance}
use Rattle.pager_state.specs.Steps.{named_by, named, done, answer_of, step_fine}
use Rattle.pager_state.specs.declared.FileKind.TheVariants as file
use Rattle.pager_state.specs.declared.Job.{Job}
use Rattle.pager_state.specs.declared.Job.TheVariants as job
use Rattle.pager_state.specs.declared.Pager.{Pager}
use Rattle.pager_state.specs.declared.Place.{Place}
use Rattle.pager_state.proofs.Stored.{put-end}
use Rattle.pager_state.specs.declared.Step.TheVariants as step
use Rattle.pager_state.specs.declared.Step.{Step}
use Rattle.pager_differing.specs.declared.Slot.{Slot}
use Rattle.pager_commit.specs.CommitStep.{commit_step_answer, commit_stepped}
use Rattle.pager_commit.specs.Parts.{slot_frame, commit_frame_bytes, log_place, commit_frame_answer}
use Rattle.pager_commit.proofs.Stores.{slot-size, commit-frame-size}

-- ---- what follows a store

-- behind a frame there is always a store
more-frames : (n : ℕ) (a : Act) (g : List ℕ) (h : DbHeader) (salt answer : ℕ) (l : List ℕ) (v : World)
    → named_by n a (frames_todo g h salt answer l v) ≡ Ok (step.Stored (place_of a))
unfolding frames_todo
more-frames n a g h salt answer [] v = refl
more-frames n a g h salt answer (x ∷ xs) v = refl

pages-follow : (n : ℕ) (a : Act) (salt answer : ℕ) (l : List ℕ) (v : World) → named_by n a (pages_todo salt answer l v) ≡ Ok (step.Stored (place_of a))
unfolding pages_todo
pages-follow n a salt answer [] v = refl
pages-follow n a salt answer (x ∷ xs) v = refl

-- behind the commit frame a checkpoint, or nothing
commit-frame-last : (a : Act) (salt answer : ℕ) (v : World) (b : Bool)
    → commit_frame_answer (pick b (job.Checkpoint salt 0 answer) job.Idle) (place_of a) answer ≡ named_by answer a (checkpoint_todo (pick b (job.Checkpoint salt 0 answer) job.Idle) v)
unfolding checkpoint_todo
commit-frame-last a salt answer v true = sym (pages-follow answer a salt answer _ v)
commit-frame-last a salt answer v false = refl

-- ---- the step that is next

module _ (g : List ℕ) (h : DbHeader) (salt answer page : ℕ) (w : World) where
  abbrev K : Job
  K = job.Commit h salt page answer

  abbrev log : Wal
  log = w.pager.wal

  -- an answer and a world are the step's
  abbrev pub Stepped : Result Step Refusal → World → Type 0
  Stepped a v = (a ≡ named answer (commit_todo g K w)) × (v ≡ done (commit_todo g K w) (commit_advance g K w) w)

  module _ (l : List ℕ) (e : pages_from (differs g w) page ≡ l) where
    todo-is : commit_todo g K w ≡ frames_todo g h salt answer l w
    unfolding commit_todo
    todo-is = rw e

    advance-is : commit_advance g K w ≡ frames_advance g h salt answer l w
    unfolding commit_advance
    advance-is = rw e

  -- by the store that is next: it lies inside its area, or not
  module _ (a : Act) (rest : List Act) (e : commit_todo g K w ≡ a ∷ rest) where
    inside-step : inside a ≡ true → {x : (Result Step Refusal)} {v : World} → x ≡ named_by answer a rest → v ≡ commit_advance g K w → Stepped x v
    unfolding named done
    inside-step i f k = (f ∙ sym (ap (named answer) e ∙ rw i), k ∙ sym (ap (λ (l : List Act). done l (commit_advance g K w) w) e ∙ rw i))

    outside-step : inside a ≡ false → Stepped (Err refusal.Area) w
    unfolding named done
    outside-step i = (sym (ap (named answer) e ∙ rw i), sym (ap (λ (l : List Act). done l (commit_advance g K w) w) e ∙ rw i))

  -- ---- a page's frame

  module _ (s : Slot) (e : pages_from (differs g w) page ≡ s.page ∷ pages_from (differs g w) (suc s.page)) (i : s.index ≡ slot_of w.pager.staged s.page)
      (b : s.index < staged_limit) (n : length g ≡ staging_area) where
    abbrev frame : Act
    frame = Put Other file.Log log.len (slot_frame log s g) false

    abbrev more : List Act
    more = frames_todo g h salt answer (pages_from (differs g w) (suc s.page)) (page_frame_stored g h salt answer s.page w)

    bytes-are : staged_bytes w.pager.staged g s.page ≡ page_from (page_size * s.index) g
    unfolding staged_bytes
    bytes-are = rw i

    frame-next : commit_todo g K w ≡ frame ∷ more
    unfolding frames_todo
    frame-next = todo-is (s.page ∷ pages_from (differs g w) (suc s.page)) e ∙ rw bytes-are

    frame-room : inside frame ≡ has_room log
    frame-room = rw (slot-size log s g n b)

    pub frame_refused : has_room log ≡ false → Stepped (Err refusal.Area) w
    frame_refused o = outside-step frame more frame-next (frame-room ∙ o)

    frame-told : Ok (step.Stored (log_place log false)) ≡ named_by answer frame more
    frame-told = sym (more-frames answer frame g h salt answer (pages_from (differs g w) (suc s.page)) (page_frame_stored g h salt answer s.page w) ∙ rw (slot-size log s g n b))

    framed-by : {r : Pager} {t l : List ℕ} → r ≡ with_job (with_wal w.pager (with_frame log 0)) (job.Commit h salt (s.page + 1) answer)
        → t ≡ with_entry w.table s.page log.len → l ≡ put w.log log.len (slot_frame log s g) → world r t l w.main ≡ page_frame_stored g h salt answer s.page w
    unfolding page_frame_stored
    framed-by er et el = rw (er, et, el, add-one s.page, bytes-are, put-end (disk_of w).log (slot_frame log s g))

    pub frame-stepped : {a : (Result Step Refusal)} {r : Pager} {t l : List ℕ} → has_room log ≡ true → a ≡ Ok (step.Stored (log_place log false))
        → r ≡ with_job (with_wal w.pager (with_frame log 0)) (job.Commit h salt (s.page + 1) answer) → t ≡ with_entry w.table s.page log.len
        → l ≡ put w.log log.len (slot_frame log s g) → Stepped a (world r t l w.main)
    frame-stepped o ea er et el =
        inside-step frame more frame-next (frame-room ∙ o) (ea ∙ frame-told)
        (framed-by er et el ∙ sym (advance-is (s.page ∷ pages_from (differs g w) (suc s.page)) e))

  -- ---- the commit frame

  module _ (e : pages_from (differs g w) page ≡ []) where
    abbrev committed : World
    committed = committed_world h salt answer w

    abbrev frame-act : Act
    frame-act = commit_frame_act h w

    commit-frame-next : commit_todo g K w ≡ frame-act ∷ checkpoint_todo committed.pager.job committed
    unfolding frames_todo
    commit-frame-next = todo-is [] e

    commit-frame-room : inside frame-act ≡ has_room log
    commit-frame-room = rw (commit-frame-size log h)

    pub commit-frame-refused : has_room log ≡ false → Stepped (Err refusal.Area) w
    commit-frame-refused o = outside-step frame-act (checkpoint_todo committed.pager.job committed) commit-frame-next (commit-frame-room ∙ o)

    job_is : committed.pager.job ≡ job_after (with_frame log (count_of h)) salt answer
    unfolding committed_world committed_pager
    job_is = refl

    commit-frame-told : commit_frame_answer (job_after (with_frame log (count_of h)) salt answer) (log_place log true) answer ≡ named_by answer frame-act (checkpoint_todo committed.pager.job committed)
    commit-frame-told =
        let p : place_of frame-act ≡ log_place log true = rw (commit-frame-size log h) in
        let l = commit-frame-last frame-act salt answer committed (leb checkpoint_frames (with_frame log (count_of h)).frame_count) in
        ap (λ (x : Place). commit_frame_answer (job_after (with_frame log (count_of h)) salt answer) x answer) (sym p)
        ∙ l
        ∙ ap (λ (j : Job). named_by answer frame-act (checkpoint_todo j committed)) (sym job_is)

    committed-through : {r : Pager} {t l : List ℕ} → r ≡ committed_with h salt answer (with_frame log (count_of h)) w.pager → t ≡ with_entry w.table 0 log.len
        → l ≡ put w.log log.len (commit_frame_bytes log h) → world r t l w.main ≡ committed
    unfolding committed_world committed_pager
    committed-through er et el = rw (er, et, el, put-end (disk_of w).log (commit_frame_bytes log h))

    pub commit-frame-stepped : {a : (Result Step Refusal)} {r : Pager} {t l : List ℕ} → has_room log ≡ true → a ≡ commit_frame_answer r.job (log_place log true) answer
        → r ≡ committed_with h salt answer (with_frame log (count_of h)) w.pager → t ≡ with_entry w.table 0 log.len → l ≡ put w.log log.len (commit_frame_bytes log h)
        → Stepped a (world r t l w.main)
    commit-frame-stepped {a} {r} o ea er et el =
        let j : a ≡ commit_frame_answer (job_after (with_frame log (count_of h)) salt answer) (log_place log true) answer = ea ∙ ap (λ (p : Pager). commit_frame_answer p.job (log_place log true) answer) er in
        inside-step frame-act (checkpoint_todo committed.pager.job committed) commit-frame-next (commit-frame-room ∙ o) (j ∙ commit-frame-told) (committed-through er et el ∙ sym (advance-is [] e))

-- ---- by the job that is part done

-- the job is no commit's
abbrev pub NoCommit : Job → Type 0
NoCommit j = (h : DbHeader) (salt page answer : ℕ) → j ≡ job.Commit h salt page answer → ⊥

module _ (g : List ℕ) (w : World) where
  pub not-fine : step_fine g w ≡ false → (Err refusal.Area ≡ commit_step_answer g w) × (w ≡ commit_stepped g w)
  unfolding commit_step_answer commit_stepped
  not-fine e = (rw e, rw e)

  module _ (fi : step_fine g w ≡ true) where
    by-job : (j : Job) → w.pager.job ≡ j
        → (commit_step_answer g w ≡ named (answer_of j) (commit_todo g j w)) × (commit_stepped g w ≡ done (commit_todo g j w) (commit_advance g j w) w)
    unfolding commit_step_answer commit_stepped
    by-job j q = (rw (fi, q), rw (fi, q))

    -- no store of a commit is left of another job
    none_left : (j : Job) → NoCommit j → commit_todo g j w ≡ []
    unfolding commit_todo
    none_left job.Idle k = refl
    none_left (job.Commit h salt page answer) k = absurd (k h salt page answer refl)
    none_left (job.Checkpoint salt page answer) k = refl
    none_left (job.MainLength salt answer) k = refl
    none_left (job.LogLength salt answer) k = refl
    none_left (job.LogHeader salt answer) k = refl

    pub at_other : NoCommit w.pager.job → ((Ok step.Idle) ≡ commit_step_answer g w) × (w ≡ commit_stepped g w)
    unfolding named done
    at_other k =
        let b = by-job w.pager.job refl in
        let e = none_left w.pager.job k in
        (sym (b.0 ∙ rw e), sym (b.1 ∙ rw e))

    pub at-commit : (h : DbHeader) (salt page answer : ℕ) {a : (Result Step Refusal)} {v : World} → w.pager.job ≡ job.Commit h salt page answer
        → Stepped g h salt answer page w a v → (a ≡ commit_step_answer g w) × (v ≡ commit_stepped g w)
    at-commit h salt page answer q e = let b = by-job (job.Commit h salt page answer) q in (e.0 ∙ sym b.0, e.1 ∙ sym b.1)
