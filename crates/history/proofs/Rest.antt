-- An open store beside its files, at rest and with a commit or checkpoint part done; what it reads at rest. Assumes nothing.
use mathlib.Core.Path.{◌≡◌, refl, sym, ap, ◌∙◌}
use mathlib.Core.Bool.{Bool, true, false, not}
use mathlib.Core.List.{List, [], ◌++◌}
use mathlib.Core.Logic.{◌⊎◌, inl, inr}
use Prim.Native.Nat.{ℕ, suc, ◌+◌, ◌*◌, ◌%◌, ◌^◌, ◌≤◌, ◌<◌}
use native.Mathlib.Omega.{arith}
use borrow.Author.Tests.{eq-eqb, le-leb, lt-leb, not-true, not-false}
use lib.Dec.{leb, eqb}
use lib.ListN.{length, drop, get_or}
use Rattle.std.specs.Prelude.{Err, Option, None, Ok, Some}
use Rattle.le.specs.Choice.{pick}
use Rattle.le.proofs.Tests.{le-or-lt}
use Rattle.page.specs.Page.{page_size}
use Rattle.refusal.specs.Refusal.{number_of, answered}
use Rattle.refusal.specs.declared.Refusal.{Refusal}
use Rattle.header.specs.declared.DbHeader.{DbHeader}
use Rattle.header.proofs.RoundTrip.{Plain}
use Rattle.frame.specs.Frame.{frame_size}
use Rattle.wal.specs.Recovery.{wal_area}
use Rattle.wal.specs.declared.WalHeader.{WalHeader}
use Rattle.wal.proofs.Laid.{joined}
use Rattle.pager_state.specs.World.{World, main_area_size, staging_area, page_limit, count_of, header_of, fine, busy_with, busy}
use Rattle.pager_state.specs.Overlay.{page_from, is_staged, staged_at, staged_bytes, frame_of, in_log, on_main, entry, log_at, main_at, log_bytes, committed_in, committed_bytes, below, place_page, overlay, read_refusal, find_page, find_refusal}
use Rattle.pager_state.specs.Queries.{header}
use Rattle.pager_state.specs.Opening.{place_from, has_page}
use Rattle.pager_state.specs.Pages.{pages_from, differs}
use Rattle.pager_state.specs.Stores.{Disk, disk_of}
use Rattle.pager_state.specs.Checkpoint.{main_stored}
use Rattle.pager_state.specs.Steps.{step_fine}
use Rattle.pager_state.specs.declared.Job.{Job}
use Rattle.pager_state.specs.declared.Job.TheVariants as job
use Rattle.pager_state.specs.declared.Opening.TheVariants as opening
use Rattle.pager_state.specs.declared.PageFound.TheVariants as found
use Rattle.pager_state.specs.declared.Staged.{Staged}
use Rattle.pager_state.specs.declared.PageFound.{PageFound}
use Rattle.history.specs.Model.{Model, model_read, or_else}
use Rattle.history.specs.Run.{Run}
use Rattle.history.specs.Demand3.{reading_at, Same}
use Rattle.history.proofs.Frames.{last_in, last-append, body_at, body-last, batches_of, or_give}
use Rattle.history.proofs.Slots.{staged_for, Slots}
use Rattle.history.proofs.Disk.{main_page, view_of, OnDisk, DiskOk, all_lie}

-- ---- what an open store has, whatever is part done

pub record Held (w : World) (g : List ℕ) (b : Model) (l : WalHeader) (S P : List (List ℕ)) (mh : DbHeader) : Type 0 where
  pub on : OnDisk (disk_of w) b l S P [] mh
  pub table_long : length w.table ≡ page_limit
  pub staging_long : length g ≡ staging_area
  pub salt : w.pager.wal.header.salt ≡ l.salt
  pub older : l.clock_high_water ≤ w.pager.wal.header.clock_high_water
  pub clock : w.pager.wal.header.clock_high_water < 2 ^ 64
  pub header : header_of w.pager ≡ b.header
  pub clean : w.pager.opening ≡ opening.Clean
  pub slots : Slots w.pager.staged
  pub staged : (n : ℕ) → staged_for w.pager.staged g n ≡ b.staged n
  pub waiting : batches_of P ≡ b.waiting

-- the page table: the last frames of the log, and the main file's pages
abbrev pub Tabled : World → List (List ℕ) → DbHeader → Type 0
Tabled w fs mh = (n : ℕ) → n < page_limit → get_or w.table n 0 ≡ entry (place_from n 0 fs) (has_page mh n)

-- no page's frame is among these
abbrev pub Loose : List (List ℕ) → Type 0
Loose P = (n : ℕ) → n < page_limit → last_in n P ≡ None

-- the log's page, else the main file's, by the table
abbrev pub world_page : World → ℕ → Option (List ℕ)
world_page w n = pick (in_log w.table n) (Some (log_bytes w.table w.log n)) (pick (on_main w.table n) (Some (page_from (page_size * n) w.main)) None)

-- ---- what is part done

pub record Resting (w : World) (g : List ℕ) (b : Model) (l : WalHeader) (S P : List (List ℕ)) (mh : DbHeader) : Type 0 where
  pub held : Held w g b l S P mh
  pub table : Tabled w (S ++ P) mh
  pub loose : Loose P

-- a commit that has looked at the pages below p: their frames are behind the batches in P
pub record Committing (h : DbHeader) (salt p : ℕ) (w : World) (g : List ℕ) (b : Model) (l : WalHeader) (S P : List (List ℕ)) (mh : DbHeader) : Type 0 where
  pub held : Held w g b l S P mh
  pub table : Tabled w (S ++ P) mh
  pub given : b.given ≡ h
  pub plain : Plain h
  pub least : 1 ≤ count_of h
  pub most : count_of h ≤ page_limit
  pub fits : salt < 2 ^ 32
  pub unstaged : (n : ℕ) → n < page_limit → is_staged w.pager.staged n ≡ false → last_in n P ≡ None
  pub done : (n : ℕ) → n < page_limit → n < p → is_staged w.pager.staged n ≡ true → world_page w n ≡ Some (staged_bytes w.pager.staged g n)
  pub joins : (n : ℕ) → 1 ≤ n → count_of b.header ≤ n → n < count_of h → is_staged w.pager.staged n ≡ true
  pub room : w.pager.wal.len + frame_size * (length (pages_from (differs g w) p) + 1) ≤ wal_area

-- a checkpoint that has looked at the pages below p: those that the log has stand in the main file
pub record Checkpointing (salt p : ℕ) (w : World) (g : List ℕ) (b : Model) (l : WalHeader) (S P : List (List ℕ)) (mh : DbHeader) : Type 0 where
  pub held : Held w g b l S P mh
  pub table : Tabled w (S ++ P) mh
  pub loose : Loose P
  pub fits : salt < 2 ^ 32
  pub stored : (n : ℕ) (x : List ℕ) → 1 ≤ n → n < p → n < count_of b.header → last_in n S ≡ Some x
      → (page_from (page_size * n) w.main ≡ x) × (page_size * suc n ≤ w.pager.storage.len)

-- the main file alone has every page, with the header that counts
pub record Flattened (salt : ℕ) (w : World) (g : List ℕ) (b : Model) (l : WalHeader) (S P : List (List ℕ)) (mh : DbHeader) : Type 0 where
  pub held : Held w g b l S P mh
  pub own : mh ≡ b.header
  pub flat : (n : ℕ) → 1 ≤ n → n < count_of b.header → b.pages n ≡ Some (page_from (page_size * n) w.main)
  pub full : (n : ℕ) → 1 ≤ n → n < count_of b.header → get_or w.table n 0 ≡ 0 → ⊥
  pub fits : salt < 2 ^ 32

-- and the log has its header alone
pub record Bared (salt : ℕ) (w : World) (g : List ℕ) (b : Model) (l : WalHeader) (S P : List (List ℕ)) (mh : DbHeader) : Type 0 where
  pub held : Held w g b l S P mh
  pub own : mh ≡ b.header
  pub none_committed : S ≡ []
  pub no_waiting : P ≡ []
  pub full : (n : ℕ) → 1 ≤ n → n < count_of b.header → get_or w.table n 0 ≡ 0 → ⊥
  pub fits : salt < 2 ^ 32

-- for some log and main header; z: the committed frames' bytes
pub record ForSome (Q : WalHeader → List (List ℕ) → List (List ℕ) → DbHeader → Type 0) (z : List ℕ) : Type 0 where
  pub l : WalHeader
  pub S : List (List ℕ)
  pub P : List (List ℕ)
  pub mh : DbHeader
  pub it : Q l S P mh
  pub kept : joined S ≡ z

abbrev pub InvJob : Job → World → List ℕ → Model → List ℕ → Type 0
InvJob job.Idle w g b z = ForSome (Resting w g b) z
InvJob (job.Commit h salt p answer) w g b z = ForSome (Committing h salt p w g b) z
InvJob (job.Checkpoint salt p answer) w g b z = ForSome (Checkpointing salt p w g b) z
InvJob (job.MainLength salt answer) w g b z = ForSome (Flattened salt w g b) z
InvJob (job.LogLength salt answer) w g b z = ForSome (Flattened salt w g b) z
InvJob (job.LogHeader salt answer) w g b z = ForSome (Bared salt w g b) z

abbrev pub Inv : World → List ℕ → Model → List ℕ → Type 0
Inv w g b z = InvJob w.pager.job w g b z

-- ---- whatever is part done, the files are as they should be

pub held-disk : {w : World} {g : List ℕ} {b : Model} {z : List ℕ} {l : WalHeader} {S P : List (List ℕ)} {mh : DbHeader} → Held w g b l S P mh → joined S ≡ z
    → DiskOk (disk_of w) b z
held-disk {w} {g} {b} {z} {l} {S} {P} {mh} k e = record { l = l; S = S; P = P; t = []; mh = mh; on = k.on; kept = e }

some-held : {Q R : WalHeader → List (List ℕ) → List (List ℕ) → DbHeader → Type 0} {z : List ℕ}
    → ((l : WalHeader) (S P : List (List ℕ)) (mh : DbHeader) → Q l S P mh → R l S P mh) → ForSome Q z → ForSome R z
some-held f k = record { l = k.l; S = k.S; P = k.P; mh = k.mh; it = f k.l k.S k.P k.mh k.it; kept = k.kept }

pub inv-held : (j : Job) (w : World) (g : List ℕ) (b : Model) (z : List ℕ) → InvJob j w g b z → ForSome (Held w g b) z
inv-held job.Idle w g b z i = some-held (λ l S P mh k. k.held) i
inv-held (job.Commit h salt p answer) w g b z i = some-held (λ l S P mh k. k.held) i
inv-held (job.Checkpoint salt p answer) w g b z i = some-held (λ l S P mh k. k.held) i
inv-held (job.MainLength salt answer) w g b z i = some-held (λ l S P mh k. k.held) i
inv-held (job.LogLength salt answer) w g b z i = some-held (λ l S P mh k. k.held) i
inv-held (job.LogHeader salt answer) w g b z i = some-held (λ l S P mh k. k.held) i

pub inv-disk : (j : Job) (w : World) (g : List ℕ) (b : Model) (z : List ℕ) → InvJob j w g b z → DiskOk (disk_of w) b z
inv-disk j w g b z i = let k = inv-held j w g b z i in held-disk k.it k.kept

-- ---- stores in the main file, a job, and a given header leave the rest

pub held-stored : {w : World} {g : List ℕ} {b : Model} {l : WalHeader} {S P : List (List ℕ)} {mh : DbHeader} → Held w g b l S P mh
    → (d : Disk) (h : DbHeader) (j : Job) (own : DbHeader) → OnDisk (disk_of (main_stored d h j w)) b l S P [] own → Held (main_stored d h j w) g b l S P own
held-stored k d h j own o =
    record {
      on = o;
      table_long = k.table_long;
      staging_long = k.staging_long;
      salt = k.salt;
      older = k.older;
      clock = k.clock;
      header = k.header;
      clean = k.clean;
      slots = k.slots;
      staged = k.staged;
      waiting = k.waiting;
    }

-- ---- areas and lengths

module _ {w : World} {g : List ℕ} {b : Model} {l : WalHeader} {S P : List (List ℕ)} {mh : DbHeader} (k : Held w g b l S P mh) where
  pub held-fine : fine w ≡ true
  unfolding fine
  held-fine =
      let o = k.on in
      let c : count_of (header_of w.pager) ≤ page_limit = rw k.header o.model.most in
      rw (
        eq-eqb (length w.table) page_limit k.table_long,
        eq-eqb (length w.log) wal_area o.log.area,
        le-leb w.pager.wal.len wal_area o.log.fits,
        eq-eqb (length w.main) main_area_size o.main.area,
        le-leb w.pager.storage.len main_area_size o.main.fits,
        le-leb (count_of (header_of w.pager)) page_limit c,
      )

  pub step-fine : step_fine g w ≡ true
  step-fine = rw (held-fine, eq-eqb (length g) staging_area k.staging_long)

-- ---- entries of the table

pub entry_frame : (t : List ℕ) (n at : ℕ) (flag : Bool) → get_or t n 0 ≡ entry at flag → frame_of t n ≡ at
unfolding frame_of
entry_frame t n at true e = omega arith
entry_frame t n at false e = omega arith

pub entry-main : (t : List ℕ) (n at : ℕ) (flag : Bool) → get_or t n 0 ≡ entry at flag → on_main t n ≡ flag
unfolding on_main
entry-main t n at true e = eq-eqb (get_or t n 0 % 2) 1 (omega arith)
entry-main t n at false e = let z : get_or t n 0 % 2 ≡ 0 = omega arith in rw z

-- ---- pages by the table

log-page : (l : List ℕ) (p : ℕ) (y : Option (List ℕ)) (t : Bool) → eqb p 0 ≡ t
    → pick (not t) (Some (page_from (p + 16) l)) y ≡ or_else (pick t None (Some (page_from (p + 16) l))) y
log-page l p y true e = refl
log-page l p y false e = refl

module _ {w : World} {g : List ℕ} {b : Model} {l : WalHeader} {S P : List (List ℕ)} {mh : DbHeader} (k : Held w g b l S P mh) (t : Tabled w (S ++ P) mh) where
  pub in-log : (n : ℕ) → n < page_limit → body_at w.log (place_from n 0 (S ++ P)) ≡ last_in n (S ++ P)
  in-log n h = body-last w.log n 0 (drop w.pager.wal.len w.log) k.on.log.whole (all_lie k.on)

  pub page-view : (n : ℕ) → n < page_limit → world_page w n ≡ view_of (S ++ P) mh w.main n
  unfolding in_log log_bytes
  page-view n h =
      let p : ℕ = place_from n 0 (S ++ P) in
      let f : frame_of w.table n ≡ p = entry_frame w.table n p (has_page mh n) (t n h) in
      let m : on_main w.table n ≡ has_page mh n = entry-main w.table n p (has_page mh n) (t n h) in
      rw (f, m) (log-page w.log p (main_page mh w.main n) (eqb p 0) refl
      ∙ ap (λ (x : Option (List ℕ)). or_else x (main_page mh w.main n)) (in-log n h))

  -- the log has the page, or has it not
  pub log-has : (n : ℕ) → n < page_limit → in_log w.table n ≡ true → last_in n (S ++ P) ≡ Some (log_bytes w.table w.log n)
  unfolding in_log log_bytes
  log-has n h e =
      let p : ℕ = place_from n 0 (S ++ P) in
      let f : frame_of w.table n ≡ p = entry_frame w.table n p (has_page mh n) (t n h) in
      let z : eqb p 0 ≡ false = not-true (eqb p 0) (rw f at e) in
      sym (in-log n h) ∙ rw (f, z)

  pub log-lacks : (n : ℕ) → n < page_limit → in_log w.table n ≡ false → last_in n (S ++ P) ≡ None
  unfolding in_log
  log-lacks n h e =
      let p : ℕ = place_from n 0 (S ++ P) in
      let f : frame_of w.table n ≡ p = entry_frame w.table n p (has_page mh n) (t n h) in
      let z : eqb p 0 ≡ true = not-false (eqb p 0) (rw f at e) in
      sym (in-log n h) ∙ rw z

  -- where no frame of the page waits, it is the committed frames'
  pub page-committed : (n : ℕ) → n < page_limit → last_in n P ≡ None → world_page w n ≡ view_of S mh w.main n
  page-committed n h e = page-view n h ∙ rw (last-append n S P, e)

pub committed-bytes : (w : World) (n : ℕ) → committed_bytes w n ≡ or_give (world_page w n) []
unfolding committed_in
committed-bytes w n = go (in_log w.table n) (on_main w.table n)
  where
    go : (i m : Bool) → pick i (log_bytes w.table w.log n) (pick m (page_from (page_size * n) w.main) [])
        ≡ or_give (pick i (Some (log_bytes w.table w.log n)) (pick m (Some (page_from (page_size * n) w.main)) None)) []
    go true m = refl
    go false true = refl
    go false false = refl

-- ---- reads at rest

reading-below : (w : World) (g : List ℕ) (n : ℕ) (i m : Bool)
    → reading_at w g (Ok (pick i (found.Log (log_at w.table n)) (pick m (found.Main (page_size * n)) found.Nothing)))
    ≡ pick i (Some (log_bytes w.table w.log n)) (pick m (Some (page_from (page_size * n) w.main)) None)
unfolding log_bytes
reading-below w g n true m = refl
reading-below w g n false true = refl
reading-below w g n false false = refl

-- what is found is numbered as the reading's refusal
place-number : (count : ℕ) (s : Staged) (t : List ℕ) (n : ℕ) → find_refusal (Ok (place_page count s t n)) ≡ 0
unfolding place_page below
place-number count s t n = go (is_staged s n) (leb count n) (in_log t n) (on_main t n)
  where
    go : (a c i m : Bool)
        → find_refusal (Ok (pick a (found.Staged (staged_at s n)) (pick c found.Nothing (pick i (found.Log (log_at t n)) (pick m (found.Main (main_at n)) found.Nothing))))) ≡ 0
    go true c i m = refl
    go false true i m = refl
    go false false true m = refl
    go false false false true = refl
    go false false false false = refl

answer-number : (v : Option Refusal) (f : PageFound) → find_refusal (Ok f) ≡ 0 → find_refusal (answered Err (Ok f) v) ≡ number_of v
answer-number None f e = e
answer-number (Some r) f e = refl

pub find-number : (w : World) (g : List ℕ) (n : ℕ) → find_refusal (find_page w g n) ≡ number_of (read_refusal w g)
unfolding find_page
find-number w g n =
    answer-number (read_refusal w g) (overlay w.pager w.table n) (place-number (count_of (header_of w.pager)) w.pager.staged w.table n)

module _ (r : Run) (l : WalHeader) (S P : List (List ℕ)) (mh : DbHeader) (k : Resting r.world r.staging r.model l S P mh)
    (idle : busy r.world.pager ≡ false) where
  read_none : read_refusal r.world r.staging ≡ None
  unfolding read_refusal
  read_none = rw (held-fine k.held, eq-eqb (length r.staging) staging_area k.held.staging_long, idle)

  find-is : (n : ℕ) → find_page r.world r.staging n ≡ Ok (overlay r.world.pager r.world.table n)
  unfolding find_page
  find-is n = rw read_none

  model-staged : (n : ℕ) (t : Bool) → is_staged r.world.pager.staged n ≡ t
      → r.model.staged n ≡ pick t (Some (staged_bytes r.world.pager.staged r.staging n)) None
  model-staged n t e = sym (k.held.staged n) ∙ rw e

  below-is : (n : ℕ) → 1 ≤ n → (n < count_of r.model.header) ⊎ (count_of r.model.header < suc n)
      → reading_at r.world r.staging (Ok (below (count_of (header_of r.world.pager)) r.world.table n)) ≡ r.model.pages n
  unfolding below
  below-is n h (inl c) =
      let hn : n < page_limit = omega (arith, k.held.on.model.most) in
      ap (λ (c : ℕ). reading_at r.world r.staging (Ok (below c r.world.table n))) (ap count_of k.held.header)
      ∙ rw (lt-leb (count_of r.model.header) n c)
      (reading-below r.world r.staging n (in_log r.world.table n) (on_main r.world.table n)
      ∙ page-committed k.held k.table n hn (k.loose n hn) ∙ k.held.on.model.pages n h c)
  below-is n h (inr c) =
      let q : count_of r.model.header ≤ n = omega arith in
      ap (λ (c : ℕ). reading_at r.world r.staging (Ok (below c r.world.table n))) (ap count_of k.held.header)
      ∙ rw (le-leb (count_of r.model.header) n q) (sym (k.held.on.model.above n q))

  page-is : (n : ℕ) → 1 ≤ n → (t : Bool) → is_staged r.world.pager.staged n ≡ t
      → reading_at r.world r.staging (Ok (overlay r.world.pager r.world.table n)) ≡ model_read r.model n
  unfolding place_page model_read staged_bytes
  page-is n h true e = rw (e, model-staged n true e)
  page-is n h false e = rw (e, model-staged n false e) (below-is n h (le-or-lt (suc n) (count_of r.model.header)))

  pub same-at-rest : Same r
  unfolding header
  same-at-rest =
      record {
        same_header = rw idle (ap Ok k.held.header);
        answered = λ n. find-number r.world r.staging n ∙ ap number_of read_none;
        same_page = λ n h. rw (find-is n) (page-is n h (is_staged r.world.pager.staged n) refl);
      }

pub same_of : (r : Run) (j : Job) → r.world.pager.job ≡ j → InvJob j r.world r.staging r.model r.kept → busy r.world.pager ≡ false → Same r
same_of r job.Idle e i f = same-at-rest r i.l i.S i.P i.mh i.it f
same_of r (job.Commit h salt p answer) e i f = let z : ◌≡◌ {A = Bool} true false = sym (ap busy_with e) ∙ f in let q : ◌≡◌ {A = ℕ} 0 1 = cc in absurd (omega arith)
same_of r (job.Checkpoint salt p answer) e i f = let z : ◌≡◌ {A = Bool} true false = sym (ap busy_with e) ∙ f in let q : ◌≡◌ {A = ℕ} 0 1 = cc in absurd (omega arith)
same_of r (job.MainLength salt answer) e i f = let z : ◌≡◌ {A = Bool} true false = sym (ap busy_with e) ∙ f in let q : ◌≡◌ {A = ℕ} 0 1 = cc in absurd (omega arith)
same_of r (job.LogLength salt answer) e i f = let z : ◌≡◌ {A = Bool} true false = sym (ap busy_with e) ∙ f in let q : ◌≡◌ {A = ℕ} 0 1 = cc in absurd (omega arith)
same_of r (job.LogHeader salt answer) e i f = let z : ◌≡◌ {A = Bool} true false = sym (ap busy_with e) ∙ f in let q : ◌≡◌ {A = ℕ} 0 1 = cc in absurd (omega arith)
