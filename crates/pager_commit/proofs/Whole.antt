-- A commit's stores up to the commit frame in one call: what the loop over frames keeps, and the commit frame behind it. Assumes nothing.
use mathlib.Core.Path.{◌≡◌, refl, sym, ap, ◌∙◌}
use mathlib.Core.Bool.{true}
use mathlib.Core.List.{List, [], ◌∷◌, append-nil}
use Prim.Native.Nat.{ℕ, suc, ◌+◌, ◌-◌, ◌*◌, ◌≤◌, ◌<◌}
use native.Mathlib.Numerals.{add-one}
use native.Mathlib.Omega.{arith}
use borrow.Author.Tests.{le-leb}
use lib.ListN.{length}
use Rattle.le.specs.Le.{put}
use Rattle.header.specs.declared.DbHeader.{DbHeader}
use Rattle.frame.specs.Frame.{frame_size}
use Rattle.wal.specs.Recovery.{wal_area}
use Rattle.wal.specs.Write.{with_frame, has_room}
use Rattle.wal.specs.declared.Wal.{Wal}
use Rattle.pager_state.specs.World.{World, world, staged_limit, staging_area, count_of, with_job, with_wal}
use Rattle.pager_state.specs.Overlay.{find_in, slot_of}
use Rattle.pager_state.specs.Pages.{pages_from, differs_in, differs}
use Rattle.pager_state.specs.Checkpoint.{checkpoint_todo, checkpoint_advance}
use Rattle.pager_state.specs.Commit.{with_entry, committed_with, commit_todo, commit_advance}
use Rattle.pager_state.specs.Steps.{todo, advance, done, step_fine, stepped, steps}
use Rattle.pager_state.specs.declared.Job.{Job}
use Rattle.pager_state.specs.declared.Job.TheVariants as job
use Rattle.pager_state.specs.declared.Pager.{Pager}
use Rattle.pager_state.specs.declared.Staged.{Staged}
use Rattle.pager_state.proofs.Made.{Fine, ready-fine, fine-ready}
use Rattle.pager_state.proofs.Runs.{steps-add}
use Rattle.pager_state.proofs.Sizes.{frame-len}
use Rattle.pager_state.proofs.Searches.{First, pages-same}
use Rattle.pager_differing.specs.Differing.{is_in}
use Rattle.pager_differing.specs.declared.Slot.{Slot}
use Rattle.pager_commit.specs.Parts.{Lengths, slot_frame, commit_frame_bytes, marked_pages, HasRoomFor, committing, AtCommitFrame, FramesStored}
use Rattle.pager_commit.proofs.Stores.{room-is}
use Rattle.pager_commit.proofs.Step.{frame-stepped, commit-frame-stepped}
use Rattle.pager_commit.proofs.Marking.{Marking, marking-begun, marking-frame}

-- ---- a step of a commit

commit-stepped : (g : List ℕ) (w : World) (h : DbHeader) (salt page n : ℕ) → w.pager.job ≡ job.Commit h salt page n → step_fine g w ≡ true
    → stepped g w ≡ done (commit_todo g (job.Commit h salt page n) w) (commit_advance g (job.Commit h salt page n) w) w
unfolding stepped todo advance checkpoint_todo checkpoint_advance
commit-stepped g w h salt page n j f = rw (f, j, append-nil)

-- one more step
steps-more : (g : List ℕ) (k : ℕ) (w : World) → steps g (k + 1) w ≡ stepped g (steps g k w)
unfolding steps
steps-more g k w = steps-add g k 1 w

-- another log, table and job leave the areas as they must be
still-fine : (g : List ℕ) (p : Pager) (v : Wal) (j : Job) (t l t' l' m : List ℕ) → step_fine g (world p t l m) ≡ true → Lengths t' l' → has_room v ≡ true
    → step_fine g (world (with_job (with_wal p v) j) t' l' m) ≡ true
still-fine g p v j t l t' l' m f a o =
    let s = ready-fine g (world p t l m) f in
    let c : v.len ≤ wal_area = omega (arith, room-is v o) in
    let x : Fine (world (with_job (with_wal p v) j) t' l' m) =
    record { table = a.table; files = record { log = record { area = a.log; len = c }; main = s.0.files.main }; count = s.0.count } in
    fine-ready g (world (with_job (with_wal p v) j) t' l' m) x s.1

-- ---- the loop over frames

-- k steps of a commit that was begun on a store with these staged pages and the log u come to the log v, whatever else the store holds;
-- m is the main file's area, t and l are table and log area before them, t' and l' behind, and page is the first page not looked at
abbrev FramesRun : List ℕ → List ℕ → Staged → Wal → List ℕ → List ℕ → ℕ → ℕ → Wal → List ℕ → List ℕ → Type 0
FramesRun g m s u t l k page v t' l' =
    (p : Pager) (h : DbHeader) (salt n : ℕ) → p.staged ≡ s → p.wal ≡ u → step_fine g (world p t l m) ≡ true
    → committing h salt n page (world (with_wal p v) t' l' m) ≡ steps g k (committing h salt n 0 (world p t l m))

module _ (g m : List ℕ) (s : Staged) (u : Wal) (t l : List ℕ) where
  -- before it
  run_none : FramesRun g m s u t l 0 0 u t l
  unfolding steps
  run_none p h salt n es ev f = rw (← ev) refl

  -- a page's frame
  run-frame : (k page : ℕ) {v : Wal} {t' l' : List ℕ} → FramesRun g m s u t l k page v t' l' → Lengths t' l' → (x : Slot) {v'' : Wal} {t'' l'' : List ℕ} → length g ≡ staging_area
      → pages_from (differs_in s g t' l' m) page ≡ x.page ∷ pages_from (differs_in s g t' l' m) (suc x.page) → x.index ≡ slot_of s x.page
      → x.index < staged_limit → has_room v ≡ true → v'' ≡ with_frame v 0 → t'' ≡ with_entry t' x.page v.len
      → l'' ≡ put l' v.len (slot_frame v x g) → FramesRun g m s u t l (k + 1) (x.page + 1) v'' t'' l''
  run-frame k page {v} {t'} {l'} r nt x {v''} {t''} {l''} ng e i b o fv ft fl p h salt n es ev f =
      let w : World = committing h salt n page (world (with_wal p v) t' l' m) in
      let a = still-fine g p v (job.Commit h salt page n) t l t' l' m f nt o in
      let d : (y : ℕ) → pages_from (differs_in s g t' l' m) y ≡ pages_from (differs g w) y = λ y. rw (← es) refl in
      let c : pages_from (differs g w) page ≡ x.page ∷ pages_from (differs g w) (suc x.page) = rw (← d page, ← d (suc x.page)) e in
      let z : x.index ≡ slot_of p.staged x.page = rw es i in
      let y =
      (frame-stepped g h salt n page w x c z b ng {r = with_job (with_wal p v'') (job.Commit h salt (x.page + 1) n)} {t = t''} {l = l''} o refl (rw fv refl) ft
      fl).1 in
      y ∙ sym (commit-stepped g w h salt page n refl a) ∙ ap (stepped g) (r p h salt n es ev f) ∙ sym (steps-more g k _)

-- ---- the marked pages

module _ {g m : List ℕ} {s : Staged} {len : ℕ} {t l marks : List ℕ} (page : ℕ) (k : Marking g m s len t l marks page) where
  -- the marked pages are those that differ
  marked-pages : (p : ℕ) → page ≤ p → pages_from (is_in marks) p ≡ pages_from (differs_in s g t l m) p
  marked-pages p h = pages-same (is_in marks) (differs_in s g t l m) p (λ n a b. k.same n (omega (arith, h, a)) b)

  none-marked : pages_from (is_in marks) page ≡ [] → pages_from (differs_in s g t l m) page ≡ []
  none-marked e = sym (marked-pages page (omega arith)) ∙ e

  marked-split : {q : ℕ} → First (is_in marks) page q → pages_from (differs_in s g t l m) page ≡ q ∷ pages_from (differs_in s g t l m) (suc q)
  marked-split {q} p =
      sym (marked-pages page (omega arith)) ∙ p.split ∙ ap (λ (r : List ℕ). q ∷ r) (marked-pages (suc q) (omega (arith, p.from)))

-- what the loop keeps of every store with these staged pages
abbrev Kept : List ℕ → List ℕ → Wal → List ℕ → List ℕ → ℕ → ℕ → Wal → List ℕ → List ℕ → Type 0
Kept marks g u t l k page v t' l' =
    (s : Staged) (m : List ℕ) → Marking g m s u.len t l marks 0
    → FramesRun g m s u t l k page v t' l' × Marking g m s u.len t' l' marks page

-- a marked page's frame
kept_frame : (marks g : List ℕ) (u : Wal) (t l : List ℕ) (k page : ℕ) {j : ℕ} {v : Wal} {t' l' : List ℕ} → Kept marks g u t l k page v t' l' → k + 1 ≡ j → Lengths t' l' → u.len ≤ v.len
    → (x : Slot) {v'' : Wal} {t'' l'' : List ℕ} → length g ≡ staging_area → First (is_in marks) page x.page → x.index ≡ find_in marks x.page
    → x.index < staged_limit → has_room v ≡ true → v'' ≡ with_frame v 0 → t'' ≡ with_entry t' x.page v.len → l'' ≡ put l' v.len (slot_frame v x g)
    → Kept marks g u t l j (x.page + 1) v'' t'' l''
kept_frame marks g u t l k page {j} {v} {t'} {l'} r ej nt nv x ng p i b o fv ft fl s m z =
    let y = (r s m z).1 in
    let h = room-is v o in
    let a : x.index ≡ slot_of s x.page = i ∙ y.slot x.page p.below p.holds in (
      rw (← ej) (run-frame g m s u t l k page (r s m z).0 nt x ng (marked-split page y p) a b o fv ft fl),
      rw (ft, fl) (marking-frame y x.page v.len (slot_frame v x g) p.from nv (omega (arith, h, nt.log))),
    )

-- how many are left from a page on
abbrev left : List ℕ → ℕ → ℕ
left marks page = length (pages_from (is_in marks) page)

pub record Loop (marks g : List ℕ) (u : Wal) (t l : List ℕ) (page : ℕ) (v : Wal) (t' l' : List ℕ) : Type 0 where
  pub table : length t' ≡ length t
  pub log : length l' ≡ length l
  pub low : u.len ≤ v.len
  pub room : v.len + frame_size * (left marks page + 1) ≤ wal_area
  pub few : left marks page ≤ marked_pages marks
  pub kept : Kept marks g u t l (marked_pages marks - left marks page) page v t' l'

module _ (marks g : List ℕ) (u : Wal) (t l : List ℕ) where
  pub loop-start : HasRoomFor u marks → Loop marks g u t l 0 u t l
  loop-start h =
      let z : marked_pages marks - left marks 0 ≡ 0 = omega arith in
      record { table = refl; log = refl; low = omega arith; room = h; few = omega arith; kept = λ s m k. (rw z (run_none g m s u t l), k) }

  module _ {page : ℕ} {v : Wal} {t' l' : List ℕ} (i : Loop marks g u t l page v t' l') where
    pub loop-room : has_room v ≡ true
    loop-room = let h : v.len + frame_size ≤ wal_area = omega (arith, i.room) in le-leb _ _ h

    pub loop-lent : Lengths t l → Lengths t' l'
    loop-lent a = record { table = i.table ∙ a.table; log = i.log ∙ a.log }

    pub loop-frame : Lengths t l → length g ≡ staging_area → (x : Slot) {v'' : Wal} {t'' l'' : List ℕ} → First (is_in marks) page x.page → x.index ≡ find_in marks x.page
        → x.index < staged_limit → length t'' ≡ length t' → length l'' ≡ length l' → v'' ≡ with_frame v 0 → t'' ≡ with_entry t' x.page v.len
        → l'' ≡ put l' v.len (slot_frame v x g) → Loop marks g u t l (x.page + 1) v'' t'' l''
    loop-frame a ng x {v''} p j b nt nl fv ft fl =
        let n = ap length p.split in
        let z = ap (left marks) (add-one x.page) in
        let e : v''.len ≡ v.len + frame_size = ap (λ (y : Wal). y.len) fv ∙ frame-len v 0 in
        let k : marked_pages marks - left marks page + 1 ≡ marked_pages marks - left marks (x.page + 1) = omega (arith, n, z, i.few) in
        record {
          table = nt ∙ i.table;
          log = nl ∙ i.log;
          low = omega (arith, e, i.low);
          room = omega (arith, n, z, e, i.room);
          few = omega (arith, n, z, i.few);
          kept = kept_frame marks g u t l _ page i.kept k (loop-lent a) i.low x ng p j b loop-room fv ft fl;
        }

    pub loop-end : pages_from (is_in marks) page ≡ [] → FramesStored marks g u t l v t' l'
    loop-end e p m ev b =
        let z = ap length e in
        let c : marked_pages marks - left marks page ≡ marked_pages marks = omega (arith, z) in
        let y = i.kept p.staged m (rw (← ev) (marking-begun g m p t l b)) in
        record { page = page; none = none-marked page y.1 e; same = λ h salt n. rw c at (y.0 p h salt n refl ev b.right) }

-- ---- the commit frame behind it

pub run-committed : (g m : List ℕ) (p : Pager) (h : DbHeader) (salt n : ℕ) (t l : List ℕ) (k : ℕ) {q : Pager} {v v'' : Wal} {t' l' t'' l'' : List ℕ}
    → AtCommitFrame g k (world p t l m) (world (with_wal p v) t' l' m) → step_fine g (world p t l m) ≡ true → Lengths t' l' → has_room v ≡ true
    → v'' ≡ with_frame v (count_of h) → q ≡ committed_with h salt n v'' p → t'' ≡ with_entry t' 0 v.len → l'' ≡ put l' v.len (commit_frame_bytes v h)
    → world q t'' l'' m ≡ steps g (k + 1) (committing h salt n 0 (world p t l m))
run-committed g m p h salt n t l k {q} {v} {v''} {t'} {l'} {t''} {l''} r f nt o fv fq ft fl =
    let w : World = committing h salt n r.page (world (with_wal p v) t' l' m) in
    let a = still-fine g p v (job.Commit h salt r.page n) t l t' l' m f nt o in
    let y = (commit-frame-stepped g h salt n r.page w r.none {r = q} {t = t''} {l = l''} o refl (rw (fq, fv) refl) ft fl).1 in
    y ∙ sym (commit-stepped g w h salt r.page n refl a) ∙ ap (stepped g) (r.same h salt n) ∙ sym (steps-more g k _)
