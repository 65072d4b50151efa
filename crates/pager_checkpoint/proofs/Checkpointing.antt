-- A checkpoint's steps, way by way, from what the code stored, and the judgement of a starting call. Assumes nothing.
use mathlib.Core.Path.{◌≡◌, refl, sym, ap, ◌∙◌}
use mathlib.Core.Bool.{Bool, true, false}
use mathlib.Core.List.{List, [], ◌∷◌}
use mathlib.Core.Logic.{⊎_elim}
use Prim.Native.Nat.{ℕ, suc, ◌+◌, ◌*◌, ◌≤◌, ◌<◌}
use native.Mathlib.Numerals.{add-one}
use native.Mathlib.Omega.{arith}
use borrow.Author.Tests.{le-leb}
use Rattle.std.proofs.Math.Bool.{not-not}
use lib.ListN.{length, length-take}
use Rattle.std.specs.Prelude.{Option, None, Some, Err, Ok, Result, MatchOption, is_some, not}
use Rattle.le.specs.Le.{put}
use Rattle.le.proofs.Tests.{le-or-lt}
use Rattle.frame.specs.Frame.{frame_at, body_of}
use Rattle.frame.proofs.Places.{body-there}
use Rattle.refusal.specs.declared.Refusal.TheVariants as refusal
use Rattle.refusal.specs.declared.Refusal.{Refusal}
use Rattle.header.specs.Header.{encode_header}
use Rattle.header.specs.declared.DbHeader.{DbHeader}
use Rattle.header.proofs.Encoding.{length-encode_header}
use Rattle.wal.specs.Header.{encode_wal_header}
use Rattle.wal.specs.Write.{empty_wal, truncated_header, truncate_answer, truncate_after, with_header as wal_headed}
use Rattle.wal.specs.declared.Wal.{Wal}
use Rattle.wal.proofs.Encoding.{length-encode_wal_header}
use Rattle.pager_state.specs.World.{World, world, count_of, header_of, fine, busy, read_only, with_job, with_wal}
use Rattle.pager_state.specs.Overlay.{frame_of, log_bytes}
use Rattle.pager_state.specs.Stores.{Act, place_of, inside, disk_of, grown, put_file, len_file}
use Rattle.pager_state.specs.Pages.{pages_from, first_of, in_checkpoint}
use Rattle.pager_state.specs.Checkpoint.{checkpointed_from, log_header_act, next_header, checkpointed, log_length_act, without_frames, log_length_stored, main_length_act, main_length_stored, main_header_act, main_header_stored, is_empty, page_act, page_stored, header_todo, empty_todo, length_todo, pages_todo, checkpoint_todo, pages_advance, checkpoint_advance}
use Rattle.pager_state.specs.Steps.{step_fine, answer_of, named_by, named, done, nothing_to_checkpoint, checkpoint_refusal, checkpoint_start, checkpoint_count, begin_checkpoint}
use Rattle.pager_state.specs.declared.Job.{Job}
use Rattle.pager_state.specs.declared.Job.TheVariants as job
use Rattle.pager_state.specs.declared.Pager.{Pager}
use Rattle.pager_state.specs.declared.CheckpointStart.TheVariants as checkpoint
use Rattle.pager_state.proofs.Searches.{lowest}
use Rattle.pager_state.proofs.Walks.{none_found}
use Rattle.pager_state.proofs.Nexts.{named_in, done-in}
use Rattle.pager_state.proofs.Made.{fine-parts}
use Rattle.pager_state.specs.declared.Step.TheVariants as step
use Rattle.pager_state.specs.declared.Step.{Step}
use Rattle.pager_checkpoint.specs.CheckpointStep.{checkpoint_step_answer, checkpoint_stepped, file_in, with_main, page_put, header_put, checkpoint_started_as}

-- ---- a checkpoint's pages, by the count and the table

module _ (w : World) where
  -- whether another page follows
  pub last-is : (p : ℕ) (next : Option ℕ) (last : Bool) → is_some next ≡ not last
      → MatchOption next (pages_from (in_checkpoint w) (p + 1) ≡ []) (λ q. (q < 1024) × (pages_from (in_checkpoint w) (p + 1) ≡ q ∷ pages_from (in_checkpoint w) (suc q)))
      → is_empty (pages_from (in_checkpoint w) (suc p)) ≡ last
  last-is p None last e a = rw (add-one p) at (ap is_empty a) ∙ ap not e ∙ not-not last
  last-is p (Some q) last e a = rw (add-one p) at (ap is_empty a.1) ∙ ap not e ∙ not-not last

-- a page's bytes in the log, as its frame's body
pub body-of-page : (t l : List ℕ) (n : ℕ) {at : ℕ} {bs : List ℕ} → at ≡ frame_of t n → bs ≡ body_of (frame_at at l) → bs ≡ log_bytes t l n
unfolding log_bytes
body-of-page t l n {at} {bs} e f = f ∙ rw e (body-there (frame_of t n) l)

pub length-page : (t l : List ℕ) (n : ℕ) → length (log_bytes t l n) ≤ 4096
unfolding log_bytes
length-page t l n = simp length-take (omega arith)

-- ---- every store of a checkpoint lies inside its area

page-inside : (w : World) (n : ℕ) (b : Bool) → n < 1024 → inside (page_act w n b) ≡ true
page-inside w n b h = le-leb (4096 * n + length (log_bytes w.table w.log n)) 4194304 (omega (arith, length-page w.table w.log n))

header-inside : (w : World) → inside (main_header_act w) ≡ true
header-inside w = le-leb (0 + length (encode_header (header_of w.pager))) 4194304 (omega (arith, length-encode_header (header_of w.pager)))

length-inside : (w : World) → fine w ≡ true → inside (main_length_act w) ≡ true
length-inside w fi = le-leb (4096 * count_of (header_of w.pager)) 4194304 (let s = fine-parts w fi in omega (arith, s.count))

last-inside : (w : World) (salt : ℕ) → inside (log_header_act w salt) ≡ true
last-inside w salt = le-leb (0 + length (encode_wal_header (next_header w salt))) 4210720 (omega (arith, length-encode_wal_header (next_header w salt)))

-- ---- the worlds after them

module _ (salt answer : ℕ) (w : World) where
  pub paged-by : (n : ℕ) {r : Pager} {m : List ℕ}
      → r ≡ with_main w.pager (page_put w.main w.pager.storage.len w.table w.log n).len w.pager.storage.header (job.Checkpoint salt (n + 1) answer)
      → m ≡ (page_put w.main w.pager.storage.len w.table w.log n).area
      → world r w.table w.log m ≡ page_stored salt answer n w
  unfolding page_stored
  paged-by n er em = rw (er, em, add-one n)

  pub headed-by : {r : Pager} {m : List ℕ}
      → r ≡ with_main w.pager (header_put w.main w.pager.storage.len (header_of w.pager)).len (header_of w.pager) (job.MainLength salt answer)
      → m ≡ (header_put w.main w.pager.storage.len (header_of w.pager)).area
      → world r w.table w.log m ≡ main_header_stored salt answer w
  unfolding main_header_stored
  headed-by er em = rw (er, em)

  lengthened-by : {r : Pager} {m : List ℕ}
      → r ≡ with_main w.pager (4096 * count_of (header_of w.pager)) w.pager.storage.header (job.LogLength salt answer)
      → m ≡ grown (file_in w.main w.pager.storage.len) (4096 * count_of (header_of w.pager))
      → world r w.table w.log m ≡ main_length_stored salt answer w
  unfolding main_length_stored len_file
  lengthened-by er em = rw (er, em)

  emptied-by : {r : Pager} {l : List ℕ} → r ≡ with_job (without_frames w.pager) (job.LogHeader salt answer)
      → l ≡ grown (file_in w.log w.pager.wal.len) 32 → world r w.table l w.main ≡ log_length_stored salt answer w
  unfolding log_length_stored len_file
  emptied-by er el = rw (er, el)

pub checkpointed-by : (salt : ℕ) (w : World) {r : Pager} {t l : List ℕ} → r ≡ with_job (with_wal w.pager (empty_wal (next_header w salt))) job.Idle
    → t ≡ checkpointed_from (count_of (header_of w.pager)) 0 w.table → l ≡ put w.log 0 (encode_wal_header (next_header w salt))
    → world r t l w.main ≡ checkpointed salt w
unfolding checkpointed put_file
checkpointed-by salt w {r} {t} {l} er et el =
    let z : grown (disk_of w).log 0 ≡ w.log = Rattle.pager_state.proofs.Stored.grown-none (disk_of w).log 0 (omega arith) in
    rw (er, et, el, z)

-- ---- pages and main header

-- after a page or before one there is always a store
more-pages : (n salt answer : ℕ) (a : Act) (l : List ℕ) (v : World) → named_by n a (pages_todo salt answer l v) ≡ Ok (step.Stored (place_of a))
unfolding pages_todo
more-pages n salt answer a [] v = refl
more-pages n salt answer a (x ∷ xs) v = refl

module _ (salt answer p : ℕ) (w : World) where
  pub page-told : (q : ℕ) (b : Bool) → pages_from (in_checkpoint w) p ≡ q ∷ pages_from (in_checkpoint w) (suc q) → q < 1024 → is_empty (pages_from (in_checkpoint w) (suc q)) ≡ b
      → Ok (step.Stored (place_of (page_act w q b))) ≡ named answer (pages_todo salt answer (pages_from (in_checkpoint w) p) w)
  unfolding pages_todo
  page-told q b e h t =
      let ps : List ℕ = pages_from (in_checkpoint w) (suc q) in
      let r : List Act = pages_todo salt answer ps (page_stored salt answer q w) in
      rw (e, t, named_in (page_act w q b) r answer (page-inside w q b h)) (sym (more-pages answer salt answer (page_act w q b) ps (page_stored salt answer q w)))

  pub page-done : (q : ℕ) {v : World} → pages_from (in_checkpoint w) p ≡ q ∷ pages_from (in_checkpoint w) (suc q) → v ≡ page_stored salt answer q w
      → v ≡ pages_advance salt answer (pages_from (in_checkpoint w) p) w
  page-done q e f = f ∙ rw e

  pub head-told : pages_from (in_checkpoint w) p ≡ [] → Ok (step.Stored (place_of (main_header_act w))) ≡ named answer (pages_todo salt answer (pages_from (in_checkpoint w) p) w)
  unfolding pages_todo
  head-told e = rw (e, named_in (main_header_act w) (length_todo salt answer (main_header_stored salt answer w)) answer (header-inside w))

  pub head_done : {v : World} → pages_from (in_checkpoint w) p ≡ [] → v ≡ main_header_stored salt answer w → v ≡ pages_advance salt answer (pages_from (in_checkpoint w) p) w
  head_done e f = f ∙ rw e

  -- none is refused
  some-done : (v : World) (q : ℕ) → pages_from (in_checkpoint w) p ≡ q ∷ pages_from (in_checkpoint w) (suc q) → q < 1024 → done (pages_todo salt answer (pages_from (in_checkpoint w) p) w) v w ≡ v
  unfolding pages_todo
  some-done v q e h =
      let ps : List ℕ = pages_from (in_checkpoint w) (suc q) in
      rw (e, done-in (page_act w q (is_empty ps)) (pages_todo salt answer ps (page_stored salt answer q w)) v w (page-inside w q (is_empty ps) h))

  none_done : (v : World) → pages_from (in_checkpoint w) p ≡ [] → done (pages_todo salt answer (pages_from (in_checkpoint w) p) w) v w ≡ v
  unfolding pages_todo
  none_done v e = rw (e, done-in (main_header_act w) (length_todo salt answer (main_header_stored salt answer w)) v w (header-inside w))

  pages-done : (v : World) → done (pages_todo salt answer (pages_from (in_checkpoint w) p) w) v w ≡ v
  pages-done v =
      let q : ℕ = first_of (pages_from (in_checkpoint w) p) in
      ⊎_elim (λ h. none_done v (none_found (in_checkpoint w) p q refl h)) (λ h. some-done v q (lowest (in_checkpoint w) p q refl h).split h) (le-or-lt 1024 q)

-- ---- the step, by the job

pub not-fine : (w : World) → fine w ≡ false → (Err refusal.Area ≡ checkpoint_step_answer w) × (w ≡ checkpoint_stepped w)
unfolding checkpoint_step_answer checkpoint_stepped
not-fine w e = (rw e, rw e)

module _ (w : World) (fi : fine w ≡ true) where
  by-job : (j : Job) → w.pager.job ≡ j
      → (checkpoint_step_answer w ≡ named (answer_of j) (checkpoint_todo j w)) × (checkpoint_stepped w ≡ done (checkpoint_todo j w) (checkpoint_advance j w) w)
  unfolding checkpoint_step_answer checkpoint_stepped
  by-job j q = (rw (fi, q), rw (fi, q))

  pub at-idle : w.pager.job ≡ job.Idle → ((Ok step.Idle) ≡ checkpoint_step_answer w) × (w ≡ checkpoint_stepped w)
  unfolding checkpoint_todo named done
  at-idle q = let b = by-job job.Idle q in (sym b.0, sym b.1)

  pub at-commit : (h : DbHeader) (salt page answer : ℕ) → w.pager.job ≡ job.Commit h salt page answer → ((Ok step.Idle) ≡ checkpoint_step_answer w) × (w ≡ checkpoint_stepped w)
  unfolding checkpoint_todo named done
  at-commit h salt page answer q = let b = by-job (job.Commit h salt page answer) q in (sym b.0, sym b.1)

  pub at-checkpoint : (salt page answer : ℕ) {a : (Result Step Refusal)} {v : World} → w.pager.job ≡ job.Checkpoint salt page answer
      → a ≡ named answer (pages_todo salt answer (pages_from (in_checkpoint w) page) w) → v ≡ pages_advance salt answer (pages_from (in_checkpoint w) page) w
      → (a ≡ checkpoint_step_answer w) × (v ≡ checkpoint_stepped w)
  unfolding checkpoint_todo checkpoint_advance
  at-checkpoint salt page answer {a} {v} q e f =
      let b = by-job (job.Checkpoint salt page answer) q in
      (e ∙ sym b.0, f ∙ sym (pages-done salt answer page w (pages_advance salt answer (pages_from (in_checkpoint w) page) w)) ∙ sym b.1)

  -- a job whose first store lies inside its area
  one_store : (j : Job) (a : Act) (rest : List Act) (v : World) {x : (Result Step Refusal)} {u : World} → w.pager.job ≡ j → checkpoint_todo j w ≡ a ∷ rest → checkpoint_advance j w ≡ v
      → inside a ≡ true → x ≡ named_by (answer_of j) a rest → u ≡ v → (x ≡ checkpoint_step_answer w) × (u ≡ checkpoint_stepped w)
  one_store j a rest v {x} {u} q e d i f g =
      let b = by-job j q in
      (f ∙ sym (b.0 ∙ ap (named (answer_of j)) e ∙ named_in a rest (answer_of j) i), g ∙ sym (b.1 ∙ rw (e, d) (done-in a rest v w i)))

  pub at_length : (salt answer : ℕ) {x : (Result Step Refusal)} {r : Pager} {m : List ℕ} → w.pager.job ≡ job.MainLength salt answer
      → x ≡ Ok (step.Stored (place_of (main_length_act w)))
      → r ≡ with_main w.pager (4096 * count_of (header_of w.pager)) w.pager.storage.header (job.LogLength salt answer)
      → m ≡ grown (file_in w.main w.pager.storage.len) (4096 * count_of (header_of w.pager))
      → (x ≡ checkpoint_step_answer w) × (world r w.table w.log m ≡ checkpoint_stepped w)
  unfolding checkpoint_todo checkpoint_advance
  at_length salt answer q e er em =
      one_store (job.MainLength salt answer) (main_length_act w) (empty_todo salt answer (main_length_stored salt answer w)) (main_length_stored salt answer w) q refl refl (length-inside w fi) e
      (lengthened-by salt answer w er em)

  pub at-empty : (salt answer : ℕ) {x : (Result Step Refusal)} {r : Pager} {l : List ℕ} → w.pager.job ≡ job.LogLength salt answer
      → x ≡ Ok (step.Stored (place_of log_length_act)) → r ≡ with_job (without_frames w.pager) (job.LogHeader salt answer)
      → l ≡ grown (file_in w.log w.pager.wal.len) 32
      → (x ≡ checkpoint_step_answer w) × (world r w.table l w.main ≡ checkpoint_stepped w)
  unfolding checkpoint_todo checkpoint_advance
  at-empty salt answer q e er el =
      one_store (job.LogLength salt answer) log_length_act (header_todo salt (log_length_stored salt answer w)) (log_length_stored salt answer w) q refl refl (le-leb 32 4210720 (omega arith)) e
      (emptied-by salt answer w er el)

  pub at_last : (salt answer : ℕ) {x : (Result Step Refusal)} {r : Pager} {t l : List ℕ} → w.pager.job ≡ job.LogHeader salt answer
      → x ≡ Ok (step.Last (place_of (log_header_act w salt)) answer) → r ≡ with_job (with_wal w.pager (empty_wal (next_header w salt))) job.Idle
      → t ≡ checkpointed_from (count_of (header_of w.pager)) 0 w.table → l ≡ put w.log 0 (encode_wal_header (next_header w salt))
      → (x ≡ checkpoint_step_answer w) × (world r t l w.main ≡ checkpoint_stepped w)
  unfolding checkpoint_todo checkpoint_advance
  at_last salt answer q e er et el =
      one_store (job.LogHeader salt answer) (log_header_act w salt) [] (checkpointed salt w) q refl refl (last-inside w salt) e (checkpointed-by salt w er et el)

-- ---- the log's header

module _ (l : List ℕ) (v : Wal) (salt : ℕ) (n : (length l ≡ 4210720) × (v.len ≤ 4210720)) where
  pub truncated-as : truncate_answer l v salt ≡ Ok (empty_wal (truncated_header v.header salt))
  unfolding truncate_answer
  truncated-as = rw (borrow.Author.Tests.eq-eqb (length l) 4210720 n.0, le-leb v.len 4210720 n.1)

  pub truncated-log : truncate_after l v salt ≡ put l 0 (encode_wal_header (truncated_header v.header salt))
  unfolding truncate_after wal_headed
  truncated-log = rw (borrow.Author.Tests.eq-eqb (length l) 4210720 n.0, le-leb v.len 4210720 n.1)

-- ---- the judgement of a starting call

module _ (g : List ℕ) (w : World) (salt : ℕ) where
  pub start_area : step_fine g w ≡ false → checkpoint_started_as (Err refusal.Area) w.pager ≡ begin_checkpoint g w salt
  unfolding begin_checkpoint checkpoint_start checkpoint_refusal
  start_area a = rw a

  module _ (a : step_fine g w ≡ true) where
    pub start-busy : busy w.pager ≡ true → checkpoint_started_as (Err refusal.Busy) w.pager ≡ begin_checkpoint g w salt
    unfolding begin_checkpoint checkpoint_start checkpoint_refusal
    start-busy b = rw (a, b)

    module _ (b : busy w.pager ≡ false) where
      pub start-read-only : read_only w.pager ≡ true → checkpoint_started_as (Err refusal.ReadOnly) w.pager ≡ begin_checkpoint g w salt
      unfolding begin_checkpoint checkpoint_start checkpoint_refusal
      start-read-only c = rw (a, b, c)

      module _ (c : read_only w.pager ≡ false) where
        pub start-nothing : nothing_to_checkpoint w ≡ true → checkpoint_started_as (Ok checkpoint.Nothing) w.pager ≡ begin_checkpoint g w salt
        unfolding begin_checkpoint checkpoint_start checkpoint_refusal
        start-nothing d = rw (a, b, c, d)

        pub start-begun : {n : ℕ} {r : Pager} → nothing_to_checkpoint w ≡ false → n ≡ length (pages_from (in_checkpoint w) 0)
            → r ≡ with_job (with_wal w.pager w.pager.wal) (job.Checkpoint salt 0 n) → checkpoint_started_as (Ok checkpoint.Begun) r ≡ begin_checkpoint g w salt
        unfolding begin_checkpoint checkpoint_start checkpoint_refusal checkpoint_count
        start-begun d e f = rw (a, b, c, d, f, e)
