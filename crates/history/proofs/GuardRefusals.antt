-- A commit and a batch append answer LogFull exactly where document 01's table says; a commit is begun exactly where nothing refuses it.
-- Assumes nothing.
use mathlib.Core.Path.{◌≡◌, refl, sym, ap, ◌∙◌}
use mathlib.Core.Bool.{Bool, true, false, not}
use mathlib.Core.List.{List}
use mathlib.Core.Logic.{◌⊎◌, inl, inr}
use Prim.Native.Nat.{ℕ, ◌+◌, ◌*◌, ◌≤◌, ◌<◌}
use native.Mathlib.Omega.{arith}
use borrow.Author.Tests.{leb-true, leb-false, ltb-true, le-leb, lt-leb, lt-ltb, eq-eqb, not-true, not-false, eqb-true}
use lib.Dec.{leb, ltb, eqb}
use lib.ListN.{length}
use Rattle.std.specs.Prelude.{Result, Option, None, Some, Err, Ok}
use Rattle.le.specs.Choice.{pick, both}
use Rattle.le.specs.Le.{field}
use Rattle.le.proofs.Compare.{no_test, both_true}
use Rattle.le.proofs.Tests.{le-or-lt}
use Rattle.page.specs.Page.{page_size}
use Rattle.refusal.specs.Refusal.{number, unless, first, number_of, answered}
use Rattle.refusal.specs.declared.Refusal.{Refusal}
use Rattle.refusal.specs.declared.Refusal.TheVariants as refusal
use Rattle.refusal.proofs.Rows.{numbered}
use Rattle.refusal.proofs.Judged.{met, resulted}
use Rattle.header.specs.Header.{is_version}
use Rattle.header.specs.declared.DbHeader.{DbHeader}
use Rattle.frame.specs.Frame.{frame_size}
use Rattle.mvcc.specs.Decode.{batch_magic}
use Rattle.mvcc.specs.Seen.{decode_refusal, heading_refusal}
use Rattle.mvcc.proofs.Heading.{heading-none}
use Rattle.wal.specs.Recovery.{wal_area}
use Rattle.wal.specs.Write.{has_room}
use Rattle.pager_state.specs.World.{World, page_limit, count_of, header_of, log_fine, busy, read_only}
use Rattle.pager_state.specs.Overlay.{is_staged}
use Rattle.pager_state.specs.Pages.{pages_from, first_of, lacks}
use Rattle.pager_state.specs.Batches.{append_refusal, append_batch}
use Rattle.pager_state.specs.Steps.{header_good, differing, lacking, room_for, table_fits, commit_fine, commit_start, commit_refusal, step_fine}
use Rattle.pager_state.specs.declared.Pager.{Pager}
use Rattle.pager_state.specs.declared.Staged.{Staged}
use Rattle.pager_state.proofs.Searches.{no-lowest, lowest, pages-none}
use Rattle.pager_state.proofs.Made.{Fine, ready-fine, fine-ready}
use Rattle.pager_state.proofs.Before.{stands-frame, before-staged, staged-before}
use Rattle.pager_state.proofs.Begun.{off, not-busy}
use Rattle.history.specs.Guards.{GoodHeader, Joined, Unrefused, Full, UnrefusedBatch}
use Rattle.history.proofs.GuardDecoding.{decoding-late, decoding-number}

-- ---- judgements that came out with v

module _ {v : Option Refusal} where
  passed : (b : Bool) (r : Refusal) (rest : Option Refusal) → (Some r ≡ v → ⊥) → unless b r rest ≡ v → (b ≡ true) × (rest ≡ v)
  passed true r rest n e = (refl, e)
  passed false r rest n e = absurd (n e)

  passed_first : (a rest : Option Refusal) → ((r : Refusal) → a ≡ Some r → Some r ≡ v → ⊥) → first a rest ≡ v → (a ≡ None) × (rest ≡ v)
  passed_first None rest n e = (refl, e)
  passed_first (Some r) rest n e = absurd (n r refl e)

-- another number is another refusal
apart : {q r : Refusal} → (number q ≡ number r → ⊥) → Some q ≡ Some r → ⊥
apart n e = n (ap number_of e)

-- an answer that is a refusal comes of that refusal
told-by : {A : Type 0} (refused : Refusal → A) (result : A) (r : Refusal) → (result ≡ refused r → ⊥) → ((q : Refusal) → refused q ≡ refused r → q ≡ r)
    → (v : Option Refusal) → answered refused result v ≡ refused r → v ≡ Some r
told-by refused result r n same None e = absurd (n e)
told-by refused result r n same (Some q) e = ap {B = Option Refusal} Some (same q e)

-- ---- 13

good-header : (h : DbHeader) → header_good h ≡ true → GoodHeader h
good-header h e =
    let v : Bool = is_version h.format_version in
    let a = both_true (leb 1 (count_of h)) (both (leb (count_of h) page_limit) v) e in
    let b = both_true (leb (count_of h) page_limit) v a.1 in
    let c = both_true (leb 4 h.format_version) (leb h.format_version 6) b.1 in
    record { low = leb-true _ _ a.0; high = leb-true _ _ b.0; oldest = leb-true _ _ c.0; newest = leb-true _ _ c.1 }

header-good : (h : DbHeader) → GoodHeader h → header_good h ≡ true
header-good h k =
    rw (
      le-leb 1 (count_of h) k.low,
      le-leb (count_of h) page_limit k.high,
      le-leb 4 h.format_version k.oldest,
      le-leb h.format_version 6 k.newest,
    )

-- ---- 14

module _ (s : Staged) (old new : ℕ) where
  lacks-not : (n : ℕ) → lacks s old new n ≡ false → 1 ≤ n → old ≤ n → n < new → is_staged s n ≡ true
  unfolding lacks
  lacks-not n e a b c = not-false (is_staged s n) (rw (le-leb 1 n a, le-leb old n b, lt-ltb n new c) at e)

  -- a page that lacks is one of those
  lacks-so : (n : ℕ) → lacks s old new n ≡ true → (1 ≤ n) × (old ≤ n) × (n < new) × (is_staged s n ≡ false)
  unfolding lacks
  lacks-so n e =
      let a = both_true (leb 1 n) _ e in
      let b = both_true (leb old n) _ a.1 in
      let c = both_true (ltb n new) (not (is_staged s n)) b.1 in
      (leb-true 1 n a.0, leb-true old n b.0, ltb-true n new c.0, not-true (is_staged s n) c.1)

module _ (w : World) (h : DbHeader) where
  abbrev lack : ℕ → Bool
  lack = lacks w.pager.staged (count_of (header_of w.pager)) (count_of h)

  joined_by : page_limit ≤ lacking w h → count_of h ≤ page_limit → Joined w h
  unfolding lacking
  joined_by e k n a b c =
      let z = pages-none lack 0 (no-lowest lack 0 e) n (omega arith) (omega arith) in
      lacks-not w.pager.staged (count_of (header_of w.pager)) (count_of h) n z a b c

  by-joined : Joined w h → page_limit ≤ lacking w h
  unfolding lacking
  by-joined j = go (le-or-lt page_limit (first_of (pages_from lack 0)))
    where
      go : (page_limit ≤ first_of (pages_from lack 0)) ⊎ (first_of (pages_from lack 0) < page_limit) → page_limit ≤ first_of (pages_from lack 0)
      go (inl k) = k
      go (inr k) =
          let n : ℕ = first_of (pages_from lack 0) in
          let x = lacks-so w.pager.staged (count_of (header_of w.pager)) (count_of h) n (lowest lack 0 n refl k).holds in
          no_test (sym x.3 ∙ j n x.0 x.1 x.2)

-- ---- a commit

module _ (g : List ℕ) (w : World) (h : DbHeader) where
  -- the last of its tests
  abbrev last_test : Option Refusal
  last_test = unless (room_for w (differing g w + 1)) refusal.LogFull None

  -- none of the first five
  past : (v : Option Refusal) → ((r : Refusal) → number r < 15 → Some r ≡ v → ⊥) → commit_refusal g w h ≡ v → Unrefused g w h × (last_test ≡ v)
  unfolding commit_refusal
  past v late e =
      let a = passed (commit_fine g w) refusal.Area _ (late refusal.Area (omega arith)) e in
      let b = passed (not (busy w.pager)) refusal.Busy _ (late refusal.Busy (omega arith)) a.1 in
      let c = passed (not (read_only w.pager)) refusal.ReadOnly _ (late refusal.ReadOnly (omega arith)) b.1 in
      let d = passed (header_good h) refusal.NewHeader _ (late refusal.NewHeader (omega arith)) c.1 in
      let i = passed (leb page_limit (lacking w h)) (refusal.Joining (lacking w h)) _ (late (refusal.Joining (lacking w h)) (omega arith)) d.1 in
      let t = both_true (step_fine g w) (pick (busy w.pager) true (table_fits w)) a.0 in
      let q : busy w.pager ≡ false = off _ b.0 in
      let y : table_fits w ≡ true = rw q at t.1 in
      let f = ready-fine g w t.0 in
      let k = good-header h d.0 in (
        record {
          areas = record { table = f.0.table; staging = f.1; log = f.0.files.log.area; main = f.0.files.main.area };
          log_file = f.0.files.log.len;
          main_file = f.0.files.main.len;
          pages = f.0.count;
          compared = λ n l o i. stands-frame w.table w.pager.wal.len n (before-staged w.table w.pager.wal.len w.pager.staged y n o) i;
          rests = not-busy w.pager.job q;
          writes = off _ c.0;
          header = k;
          joined = joined_by w h (leb-true _ _ i.0) k.high;
        },
        i.1,
      )

  unrefused-fine : Unrefused g w h → Fine w
  unrefused-fine u =
      record {
        table = u.areas.table;
        files = record { log = record { area = u.areas.log; len = u.log_file }; main = record { area = u.areas.main; len = u.main_file } };
        count = u.pages;
      }

  -- then the room decides
  reached : Unrefused g w h → commit_refusal g w h ≡ last_test
  unfolding commit_refusal lacking differing
  reached u =
      rw (
        fine-ready g w (unrefused-fine u) u.areas.staging,
        staged-before w.table w.pager.wal.len w.pager.staged (λ n l o i. u.compared n (omega (arith, u.areas.table, l)) o i),
        u.rests,
        u.writes,
        header-good h u.header,
        le-leb page_limit (lacking w h) (by-joined w h u.joined),
      )

  pub refused-told : (r : Refusal) → commit_start g w h ≡ Err r → commit_refusal g w h ≡ Some r
  unfolding commit_start
  refused-told r e = told-by Err (Ok tt) r begun-not (λ q s. cc) (commit_refusal g w h) e
    where
      begun-not : ◌≡◌ {A = Result (Unit {0}) Refusal} (Ok tt) (Err r) → ⊥
      begun-not q = let z : ◌≡◌ {A = ℕ} 0 1 = cc in omega arith

  pub full-told : commit_start g w h ≡ Err refusal.LogFull → Unrefused g w h × Full w.pager (differing g w + 1)
  full-told e =
      let a = past (Some refusal.LogFull) (λ q l. apart (λ s. omega (arith, l, s))) (refused-told refusal.LogFull e) in
      (a.0, full_by (room_for w (differing g w + 1)) refl a.1)
    where
      full_by : (b : Bool) → room_for w (differing g w + 1) ≡ b → unless b refusal.LogFull None ≡ Some refusal.LogFull → Full w.pager (differing g w + 1)
      full_by true k q = let z : ◌≡◌ {A = ℕ} 0 1 = cc in absurd (omega arith)
      full_by false k q = leb-false _ _ k

  pub told-full : Unrefused g w h → Full w.pager (differing g w + 1) → commit_start g w h ≡ Err refusal.LogFull
  unfolding commit_start
  told-full u f = rw (reached u, lt-leb (w.pager.wal.len + frame_size * (differing g w + 1)) wal_area f)

  pub begun-none : commit_start g w h ≡ Ok tt → commit_refusal g w h ≡ None
  unfolding commit_start
  begun-none e = (resulted Err (Ok tt) (Ok tt) refused-not (commit_refusal g w h) e).0
    where
      refused-not : (r : Refusal) → ◌≡◌ {A = Result (Unit {0}) Refusal} (Err r) (Ok tt) → ⊥
      refused-not r q = let z : ◌≡◌ {A = ℕ} 0 1 = cc in omega arith

  pub none-begun : commit_refusal g w h ≡ None → commit_start g w h ≡ Ok tt
  unfolding commit_start
  none-begun e = rw e

  pub begun-told : commit_start g w h ≡ Ok tt → Unrefused g w h × (w.pager.wal.len + frame_size * (differing g w + 1) ≤ wal_area)
  begun-told e =
      let a = past None (λ r l q. numbered r (ap number_of q)) (begun-none e) in
      (a.0, leb-true _ _ (met (room_for w (differing g w + 1)) refusal.LogFull None a.1).0)

  pub unrefused : Unrefused g w h → w.pager.wal.len + frame_size * (differing g w + 1) ≤ wal_area → commit_refusal g w h ≡ None
  unrefused u f = reached u ∙ rw (le-leb (w.pager.wal.len + frame_size * (differing g w + 1)) wal_area f)

  pub told-begun : Unrefused g w h → w.pager.wal.len + frame_size * (differing g w + 1) ≤ wal_area → commit_start g w h ≡ Ok tt
  told-begun u f = none-begun (unrefused u f)

-- ---- a batch append

-- a heading's refusals are others
heading-by : (a b : Bool) → unless a refusal.Short (unless b refusal.Magic None) ≡ Some refusal.LogFull → ⊥
heading-by true true e = let z : ◌≡◌ {A = ℕ} 0 15 = ap number_of e in omega arith
heading-by true false e = let z : ◌≡◌ {A = ℕ} 3 15 = ap number_of e in omega arith
heading-by false b e = let z : ◌≡◌ {A = ℕ} 2 15 = ap number_of e in omega arith

heading-apart : (body : List ℕ) → heading_refusal body ≡ Some refusal.LogFull → ⊥
unfolding heading_refusal
heading-apart body e = heading-by (leb 18 (length body)) (eqb (field 8 0 body) batch_magic) e

module _ (p : Pager) (l body : List ℕ) where
  pub unrefused-batch : UnrefusedBatch p l body → append_refusal p l body ≡ unless (has_room p.wal) refusal.LogFull (decode_refusal body)
  unfolding append_refusal
  unrefused-batch u =
      rw (
        eq-eqb (length l) wal_area u.log,
        le-leb p.wal.len wal_area u.log_file,
        le-leb (length body) page_size u.page,
        heading-none body u.long u.marked,
        u.rests,
        u.writes,
      )

  pub batch-full-told : (append_batch p l body).answer ≡ Err refusal.LogFull → UnrefusedBatch p l body × Full p 1
  unfolding append_batch append_refusal
  batch-full-told e =
      let v : Option Refusal = Some refusal.LogFull in
      let r : append_refusal p l body ≡ v = told-by Err (Ok tt) refusal.LogFull (λ q. appended-not q) (λ q s. cc) (append_refusal p l body) e in
      let a = passed (both (log_fine p.wal.len l) (leb (length body) page_size)) refusal.Area _ (apart (λ s. omega arith)) r in
      let b = passed_first (heading_refusal body) _ heading-not a.1 in
      let c = passed (not (busy p)) refusal.Busy _ (apart (λ s. omega arith)) b.1 in
      let d = passed (not (read_only p)) refusal.ReadOnly _ (apart (λ s. omega arith)) c.1 in
      let x = both_true (log_fine p.wal.len l) (leb (length body) page_size) a.0 in
      let y = both_true (eqb (length l) wal_area) (leb p.wal.len wal_area) x.0 in (
        record {
          log = eqb-true _ _ y.0;
          log_file = leb-true _ _ y.1;
          page = leb-true _ _ x.1;
          long = decoding-number body b.0 2 (omega arith) (omega arith);
          marked = decoding-number body b.0 3 (omega arith) (omega arith);
          rests = not-busy p.job (off _ c.0);
          writes = off _ d.0;
        },
        full_by b.0 (has_room p.wal) refl d.1,
      )
    where
      appended-not : ◌≡◌ {A = Result (Unit {0}) Refusal} (Ok tt) (Err refusal.LogFull) → ⊥
      appended-not q = let z : ◌≡◌ {A = ℕ} 0 1 = cc in omega arith

      heading-not : (r : Refusal) → heading_refusal body ≡ Some r → Some r ≡ Some refusal.LogFull → ⊥
      heading-not r h q = heading-apart body (h ∙ q)

      full_by : heading_refusal body ≡ None → (b : Bool) → has_room p.wal ≡ b → unless b refusal.LogFull (decode_refusal body) ≡ Some refusal.LogFull → Full p 1
      full_by h true k q = absurd (omega (arith, decoding-late body h refusal.LogFull q))
      full_by h false k q = let z = leb-false (p.wal.len + frame_size) wal_area k in omega arith

  pub batch-told-full : UnrefusedBatch p l body → Full p 1 → (append_batch p l body).answer ≡ Err refusal.LogFull
  unfolding append_batch
  batch-told-full u f = rw (unrefused-batch u, lt-leb (p.wal.len + frame_size) wal_area (omega arith))
