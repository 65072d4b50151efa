-- A clean opening of files as they should be: it is not refused, it may be cut, and what it gives. Assumes nothing.
use mathlib.Core.Path.{◌≡◌, refl, sym, ap, ◌∙◌}
use mathlib.Core.Bool.{Bool, true, false}
use mathlib.Core.List.{List, [], ◌∷◌, ◌++◌, map, append-nil}
use Prim.Native.Nat.{ℕ, zero, suc, ◌+◌, ◌*◌, ◌^◌, max, ◌≤◌, ◌<◌}
use native.Mathlib.Nat.{add-zero, zero-add}
use native.Mathlib.Omega.{arith}
use borrow.Author.Tests.{eq-eqb, le-leb, leb-true, eqb-true}
use lib.Dec.{leb, ltb, eqb}
use lib.ListN.{length, take, drop, get_or, length-append, length-drop}
use lib.Seq.{take_at, take-take}
use Rattle.std.specs.Prelude.{Option, None, Some, Ok}
use Rattle.le.specs.Choice.{pick, both}
use Rattle.le.specs.Le.{field}
use Rattle.le.proofs.Fields.{drop-take, field-part}
use Rattle.le.proofs.Compare.{both_true}
use Rattle.page.specs.Page.{page_size}
use Rattle.mvcc.specs.Batch.{Each}
use Rattle.header.specs.Header.{decode_header, header_in}
use Rattle.header.specs.declared.DbHeader.{DbHeader}
use Rattle.header.proofs.RoundTrip.{decoded-as}
use Rattle.wal.specs.Header.{header_size, encode_wal_header, decode_wal_header}
use Rattle.wal.specs.Recovery.{chunk_at, good_front, last_count, batches_in, Recovered, recovered, committed_frames, commit_point, wal_of, wal_area}
use Rattle.wal.specs.Write.{with_clock}
use Rattle.wal.specs.declared.WalHeader.{WalHeader}
use Rattle.wal.specs.declared.Wal.{Wal}
use Rattle.wal.proofs.HeaderRoundTrip.{decode-encode}
use Rattle.wal.proofs.Frames.{all-good-cons}
use Rattle.wal.proofs.Recovered.{recovered-cut, cut-committed}
use Rattle.wal.proofs.Laid.{joined}
use Rattle.wal.proofs.Opening.{length_cut}
use Rattle.pager_state.specs.World.{world, main_area_size, staging_area, page_limit, count_of, in_area, lengths_fine}
use Rattle.pager_state.specs.Overlay.{page_from, entry, is_staged, slot_of}
use Rattle.pager_state.specs.Opening.{tabulate, place_from, has_page, table_of, empty_staged, opens_as, kept_of, greatest, clock_taken, found_in, found_by, main_header_of, header_by, opened_store, judged, open_fine, open_pager, open_refusal, open_stores, open_table, open_log_area}
use Rattle.pager_state.specs.Stores.{File, Disk, content, SetLen, Other, len_file, len_cut, cut_all, whole_of, stored_all}
use Rattle.pager_state.specs.declared.AccessMode.{AccessMode}
use Rattle.pager_state.specs.declared.AccessMode.TheVariants as mode
use Rattle.pager_state.specs.declared.FileKind.TheVariants as file
use Rattle.pager_state.specs.declared.Opening.TheVariants as opening
use Rattle.pager_state.specs.declared.Pager.{Pager}
use Rattle.pager_state.specs.Opened as opened
use Rattle.history.specs.Model.{Batch, Model, model_open, model_stores}
use Rattle.history.specs.Calls.{Lent, cleanly, file_read_into, read_into}
use Rattle.history.specs.Run.{kinds, kept_after}
use Rattle.history.specs.Demand3.{Sized}
use Rattle.history.proofs.Files.{lasting, grown-none, len-file, length-content}
use Rattle.history.proofs.Frames.{batches_of, times-of}
use Rattle.history.proofs.Slots.{Slots}
use Rattle.history.proofs.Disk.{main_page, view_of, header_over, Timed, LogIs, ModelIs, OnDisk, DiskOk, short-stop, none-committed, whole-left, log-inside, log-len, committed-len, front-is, recovered-is, committed-is}
use Rattle.history.proofs.Rest.{Resting}

-- ---- the same files in other areas

pub part_same : (a c : List ℕ) (len at n : ℕ) → take len a ≡ take len c → at + n ≤ len → take n (drop at a) ≡ take n (drop at c)
part_same a c len at n e h =
    sym (drop-take at n a) ∙ ap (drop at) (sym (take-take (at + n) len a h) ∙ ap (take (at + n)) e ∙ take-take (at + n) len c h) ∙ drop-take at n c

main-same : (mh : DbHeader) (a c : List ℕ) (len n : ℕ) → take len a ≡ take len c → page_size * count_of mh ≤ len → main_page mh a n ≡ main_page mh c n
main-same mh a c len n e h = go (leb 1 n) (ltb n (count_of mh)) refl
  where
    go : (s t : Bool) → ltb n (count_of mh) ≡ t → pick (both s t) (Some (page_from (page_size * n) a)) None ≡ pick (both s t) (Some (page_from (page_size * n) c)) None
    go false t q = refl
    go true false q = refl
    go true true q =
        let k : page_size * n + page_size ≤ len = omega (arith, leb-true (suc n) (count_of mh) q) in
        ap {B = Option (List ℕ)} Some (part_same a c len (page_size * n) page_size e k)

-- the same log in another file, and the same model over another main file
pub log-again : {f : File} {l : WalHeader} {S P : List (List ℕ)} {t : List ℕ} → LogIs f l S P t → (g : File) → content g ≡ content f → length g.area ≡ wal_area
    → g.len ≤ wal_area → LogIs g l S P t
log-again o g e a n =
    record {
      written = o.written;
      bytes = e ∙ o.bytes;
      whole = o.whole;
      good = o.good;
      stop = o.stop;
      ends = o.ends;
      loose = o.loose;
      area = a;
      fits = n;
    }

pub model-over : {m : List ℕ} {b : Model} {S : List (List ℕ)} {mh : DbHeader} → ModelIs m b S mh → {k : List ℕ} {own : DbHeader}
    → header_over own S ≡ Ok b.header → ((n : ℕ) → 1 ≤ n → n < count_of b.header → view_of S own k n ≡ b.pages n) → ModelIs k b S own
model-over o top pages =
    record {
      top = top;
      plain = o.plain;
      least = o.least;
      most = o.most;
      pages = pages;
      there = o.there;
      above = o.above;
      batches = o.batches;
      times = o.times;
    }

pub re-lay : {d : Disk} {b : Model} {l : WalHeader} {S P : List (List ℕ)} {t : List ℕ} {mh : DbHeader} → OnDisk d b l S P t mh → (e : Disk)
    → content e.log ≡ content d.log → length e.log.area ≡ wal_area → e.log.len ≤ wal_area
    → e.main.len ≡ d.main.len → take d.main.len e.main.area ≡ take d.main.len d.main.area → length e.main.area ≡ main_area_size
    → OnDisk e b l S P t mh
re-lay {d} {b} {l} {S} {P} {t} {mh} o e h₁ h₂ h₃ h₄ h₅ h₆ =
    record {
      log = log-again o.log e.log h₁ h₂ h₃;
      main =
          record {
            area = h₆;
            fits = rw h₄ o.main.fits;
            long = rw h₄ o.main.long;
            has = rw h₄ o.main.has;
            head = ap decode_header (part_same e.main.area d.main.area d.main.len 0 page_size h₅ o.main.long) ∙ o.main.head;
          };
      model = model-over o.model o.model.top (λ n n1 n2. rw (main-same mh e.main.area d.main.area d.main.len n h₅ o.main.has) (o.model.pages n n1 n2));
    }

-- of the model's other fields the waiting batches' times alone play a part
pub re-model : {d : Disk} {b : Model} {l : WalHeader} {S P : List (List ℕ)} {t : List ℕ} {mh : DbHeader} → OnDisk d b l S P t mh → (c : Model)
    → c.header ≡ b.header → c.pages ≡ b.pages → c.committed ≡ b.committed → Timed (c.committed ++ c.waiting) → OnDisk d c l S P t mh
re-model o c e₁ e₂ e₃ times =
    record {
      log = o.log;
      main = o.main;
      model =
          record {
            top = o.model.top ∙ ap Ok (sym e₁);
            plain = rw e₁ o.model.plain;
            least = rw e₁ o.model.least;
            most = rw e₁ o.model.most;
            pages = rw (e₁, e₂) o.model.pages;
            there = rw (e₁, e₂) o.model.there;
            above = rw (e₁, e₂) o.model.above;
            batches = o.model.batches ∙ sym e₃;
            times = times;
          };
    }

-- ---- times of 64 bits

each_left : {A : Type 0} (P : A → Type 0) (xs ys : List A) → Each P (xs ++ ys) → Each P xs
unfolding Each
each_left P [] ys h = tt
each_left P (x ∷ xs) ys h = (h.0, each_left P xs ys h.1)

-- a clean opening drops what waits
open-timed : (b : Model) → Timed (b.committed ++ b.waiting) → Timed ((model_open b).committed ++ (model_open b).waiting)
open-timed b h = rw (append-nil b.committed) (each_left (λ (x : Batch). x.time < 2 ^ 64) b.committed b.waiting h)

-- so the greatest has 64 bits
greatest-timed : (bs : List Batch) → Timed bs → greatest (map (λ (b : Batch). b.time) bs) < 2 ^ 64
unfolding greatest Each
greatest-timed [] h = omega arith
greatest-timed (b ∷ bs) h = omega (arith, h.0, greatest-timed bs h.1)

-- ---- the areas lent

-- what refusal 1 asks of areas and of the lengths of the files in them
pub fine-sized : (a : Lent) (l m : ℕ) → lengths_fine (length a.table) (length a.log) l (length a.main) m (length a.staging) ≡ true → Sized a
fine-sized a l m e =
    let x = both_true (eqb (length a.table) page_limit) _ e in
    let y = both_true (in_area wal_area (length a.log) l) _ x.1 in
    let z = both_true (in_area main_area_size (length a.main) m) (eqb (length a.staging) staging_area) y.1 in
    record {
      table = eqb-true _ _ x.0;
      staging = eqb-true _ _ z.1;
      log = eqb-true _ _ (both_true (eqb (length a.log) wal_area) (leb l wal_area) y.0).0;
      main = eqb-true _ _ (both_true (eqb (length a.main) main_area_size) (leb m main_area_size) z.0).0;
    }

pub sized-fine : (a : Lent) (l m : ℕ) → Sized a → l ≤ wal_area → m ≤ main_area_size
    → lengths_fine (length a.table) (length a.log) l (length a.main) m (length a.staging) ≡ true
sized-fine a l m s h k =
    rw (
      eq-eqb (length a.table) page_limit s.table,
      eq-eqb (length a.log) wal_area s.log,
      le-leb l wal_area h,
      eq-eqb (length a.main) main_area_size s.main,
      le-leb m main_area_size k,
      eq-eqb (length a.staging) staging_area s.staging,
    )

-- the areas with both files read into them
abbrev pub laid_areas : Lent → Disk → Lent
laid_areas lent d = record { table = lent.table; staging = lent.staging; log = (read_into lent d).log.area; main = (read_into lent d).main.area }

abbrev pub Areas : Lent → Disk → Type 0
Areas lent d = Sized (laid_areas lent d)

pub laid-content : (f : File) (a : List ℕ) → f.len ≤ length f.area → content (file_read_into a f) ≡ content f
laid-content f a h = take_at (content f) (drop f.len a) f.len (length-content f h)

laid-long : (f : File) (a : List ℕ) (n : ℕ) → f.len ≤ length f.area → f.len ≤ n → length a ≡ n → length (content f ++ drop f.len a) ≡ n
laid-long f a n h k e = length-append (content f) (drop f.len a) ∙ omega (arith, length-content f h, length-drop f.len a)

module _ {d : Disk} {b : Model} {l : WalHeader} {S P : List (List ℕ)} {t : List ℕ} {mh : DbHeader} (o : OnDisk d b l S P t mh) where
  pub main-inside : d.main.len ≤ length d.main.area
  main-inside = rw o.main.area o.main.fits

  pub sized-areas : (lent : Lent) → Sized lent → Areas lent d
  sized-areas lent s =
      record {
        table = s.table;
        staging = s.staging;
        log = laid-long d.log lent.log wal_area (log-inside o) o.log.fits s.log;
        main = laid-long d.main lent.main main_area_size main-inside o.main.fits s.main;
      }

  pub laid_on : (lent : Lent) → Areas lent d → OnDisk (read_into lent d) b l S P t mh
  laid_on lent a =
      re-lay o (read_into lent d) (laid-content d.log lent.log (log-inside o)) a.log o.log.fits refl
      (laid-content d.main lent.main main-inside) a.main

pub fine-areas : (lent : Lent) (d : Disk) → open_fine lent.table (read_into lent d) lent.staging ≡ true → Areas lent d
fine-areas lent d e = fine-sized (laid_areas lent d) (read_into lent d).log.len (read_into lent d).main.len e

-- ---- fronts of good frames

pub good_left : (salt : ℕ) (fs gs : List (List ℕ)) → good_front salt (fs ++ gs) ≡ fs ++ gs → good_front salt fs ≡ fs
unfolding good_front
good_left salt [] gs e = refl
good_left salt (f ∷ fs) gs e =
    let p = all-good-cons salt f (fs ++ gs) e in
    rw (p.0, good_left salt fs gs p.1)

-- ---- what the opening finds and answers

header-inside : (l : List ℕ) → header_in (take page_size l) ≡ header_in l
unfolding header_in
header-inside l =
    let f : (w k : ℕ) → k + w ≤ page_size → field w k (take page_size l) ≡ field w k l = λ w k h. rw zero-add at (field-part w k page_size 0 l h) in
    rw (f 4 20 (omega arith), f 4 24 (omega arith), f 2 16 (omega arith), f 4 28 (omega arith))

module _ {x : Disk} {b : Model} {l : WalHeader} {S P : List (List ℕ)} {t : List ℕ} {mh : DbHeader} (o : OnDisk x b l S P t mh) where
  -- what is kept of the log
  abbrev kept_log : List ℕ
  kept_log = take (commit_point (recovered (content x.log))) (content x.log)

  -- the log as it is then open
  abbrev pub open_log : Wal
  open_log = with_clock (wal_of (length kept_log) (recovered kept_log)) (clock_taken true (recovered (content x.log)))

  -- the store as it is then open
  abbrev pub open_store : Pager
  open_store = opens_as b.header mh x.main.len open_log (chunk_at (length S)) opening.Clean

  pub point-is : commit_point (recovered (content x.log)) ≡ chunk_at (length S)
  point-is = ap (λ (fs : List (List ℕ)). chunk_at (length fs)) (committed-is o)

  long-enough : header_size ≤ length (content x.log)
  long-enough = omega (arith, length-content x.log (log-inside o), log-len o)

  pub open-len : open_log.len ≡ chunk_at (length S)
  unfolding wal_of with_clock
  open-len = length_cut (content x.log) long-enough ∙ point-is

  salt-kept : (recovered kept_log).header.salt ≡ l.salt
  salt-kept = ap (λ (r : Recovered). r.header.salt) (recovered-cut (content x.log) ∙ ap (λ (r : Recovered). record { header = r.header; frames = committed_frames (recovered (content x.log)); stopped = false }) (recovered-is o))

  pub open-salt : open_log.header.salt ≡ l.salt
  unfolding wal_of with_clock
  open-salt = salt-kept

  -- "the larger of the log header's clock and the greatest commit time among the recovered batches"
  pub open-clock : open_log.header.clock_high_water ≡ max l.clock_high_water (greatest (map (λ (b : Batch). b.time) (batches_of S)))
  unfolding wal_of with_clock clock_taken
  open-clock = rw (committed-is o, recovered-is o, times-of (batches_in S))

  pub open-below : open_log.header.clock_high_water < 2 ^ 64
  open-below =
      let late = greatest-timed b.committed (each_left (λ (x : Batch). x.time < 2 ^ 64) b.committed b.waiting o.model.times) in
      rw (open-clock, o.model.batches) (omega (arith, o.log.written.clock, late))

  main-is : main_header_of x.main ≡ Ok mh
  unfolding main_header_of
  main-is = rw (le-leb page_size x.main.len o.main.long) o.main.head

  found-frames : (m : AccessMode) → (found_by (cleanly m) x.log).frames ≡ S
  unfolding found_by found_in kept_of
  found-frames m = cut-committed (content x.log) ∙ committed-is o

  found-last : (m : AccessMode) → (found_by (cleanly m) x.log).last ≡ last_count S
  unfolding found_by found_in kept_of
  found-last m = ap last_count (cut-committed (content x.log) ∙ committed-is o)

  found-log : (m : AccessMode) → (found_by (cleanly m) x.log).log ≡ open_log
  unfolding found_by found_in kept_of
  found-log m = refl

  header-by : (m : AccessMode) → header_by mh (found_by (cleanly m) x.log) ≡ Ok b.header
  unfolding header_by header_over
  header-by m = rw (found-frames m, found-last m) o.model.top

  log-decodes : decode_wal_header (content x.log) ≡ Ok l
  log-decodes = rw o.log.bytes (decode-encode l (joined (S ++ P) ++ t) o.log.written)

  judged-is : (m : AccessMode) → judged (cleanly m) x mh ≡ opened_store (cleanly m) x mh (found_by (cleanly m) x.log) b.header
  unfolding judged
  judged-is m = rw (log-decodes, header-by m)

  module _ (T G : List ℕ) (tl : length T ≡ page_limit) (gl : length G ≡ staging_area) where
    fine-is : open_fine T x G ≡ true
    fine-is =
        sized-fine (record { table = T; staging = G; log = x.log.area; main = x.main.area }) x.log.len x.main.len
        (record { table = tl; staging = gl; log = o.log.area; main = o.main.area }) o.log.fits o.main.fits

    opening-is : (m : AccessMode) → open_pager (cleanly m) T x G ≡ opened_store (cleanly m) x mh (found_by (cleanly m) x.log) b.header
    unfolding open_pager
    opening-is m = rw (fine-is, main-is, le-leb (page_size * count_of mh) x.main.len o.main.has) (judged-is m)

    -- read-write it is not refused
    pub opens : open_pager (cleanly mode.ReadWrite) T x G ≡ opened.Opened open_store
    unfolding opened_store
    opens =
        opening-is mode.ReadWrite
        ∙ rw (le-leb (count_of b.header) page_limit o.model.most, found-log mode.ReadWrite, found-frames mode.ReadWrite)

    -- read-only it is (10)
    pub refuses : open_refusal (open_pager (cleanly mode.ReadOnly) T x G) ≡ 10
    unfolding opened_store
    refuses = rw (opening-is mode.ReadOnly, le-leb (count_of b.header) page_limit o.model.most)

    own-header : header_in x.main.area ≡ mh
    own-header = sym (header-inside x.main.area) ∙ (decoded-as (take page_size x.main.area) mh o.main.head).fields

    pub table_is : open_table (cleanly mode.ReadWrite) T x G ≡ table_of mh S
    unfolding open_table
    table_is = rw (opens, own-header, found-frames mode.ReadWrite)

    pub area-is : open_log_area (cleanly mode.ReadWrite) T x G ≡ x.log.area
    unfolding open_log_area open_stores stored_all len_file
    area-is =
        let k : commit_point (recovered (content x.log)) ≤ x.log.len = rw point-is (committed-len o) in
        rw opens (grown-none x.log (commit_point (recovered (content x.log))) k)

  -- its one store
  pub stores-is : (m : AccessMode) → open_stores (cleanly m) x ≡ SetLen Other file.Log (chunk_at (length S)) true ∷ []
  unfolding open_stores
  stores-is m = rw point-is

  -- ---- the files with the log cut at the commit point

  pub cut_on : OnDisk (record { main = x.main; log = lasting x.log (chunk_at (length S)) }) (model_open b) l S [] [] mh
  cut_on =
      let nil : S ++ [] ≡ S = append-nil S in
      record {
        log =
            record {
              written = o.log.written;
              bytes = cut-content ∙ rw nil (ap (λ (r : List ℕ). encode_wal_header l ++ r) (sym (append-nil (joined S))));
              whole = rw nil (whole-left S P o.log.whole);
              good = rw nil (good_left l.salt S P o.log.good);
              stop = short-stop [] l.salt (omega arith);
              ends = o.log.ends;
              loose = none-committed;
              area = o.log.area;
              fits = omega (arith, committed-len o, o.log.fits);
            };
        main = o.main;
        model = (re-model o (model_open b) refl refl refl (open-timed b o.model.times)).model;
      }
    where
      cut-content : take (chunk_at (length S)) x.log.area ≡ encode_wal_header l ++ joined S
      cut-content = sym (take-take (chunk_at (length S)) x.log.len x.log.area (committed-len o)) ∙ front-is o

  cut_ok : (z : List ℕ) → joined S ≡ z → {f : File} → f ≡ lasting x.log (chunk_at (length S)) → DiskOk (record { main = x.main; log = f }) (model_open b) z
  cut_ok z e q = rw q (record { l = l; S = S; P = []; t = []; mh = mh; on = cut_on; kept = e })

  pub open-cut : (z : List ℕ) → joined S ≡ z → (j k : ℕ)
      → DiskOk (cut_all (SetLen Other file.Log (chunk_at (length S)) true ∷ []) j k x)
      (model_stores [] (kinds (whole_of (SetLen Other file.Log (chunk_at (length S)) true ∷ []) j k)) (model_open b))
      (kept_after (whole_of (SetLen Other file.Log (chunk_at (length S)) true ∷ []) j k) x z)
  unfolding cut_all whole_of len_cut model_stores kept_after
  open-cut z e zero zero = record { l = l; S = S; P = P; t = t; mh = mh; on = re-model o (model_open b) refl refl refl (open-timed b o.model.times); kept = e }
  open-cut z e zero (suc k) = rw (le-leb 1 (suc k) (omega arith)) (cut_ok z e (len-file x.log (chunk_at (length S)) (committed-len o)))
  open-cut z e (suc j) k = cut_ok z e (len-file x.log (chunk_at (length S)) (committed-len o))

-- ---- the open store

tabulate-at : (g : ℕ → ℕ) (i k n : ℕ) → n < k → get_or (tabulate g i k) n 0 ≡ g (i + n)
unfolding tabulate
tabulate-at g i zero n h = absurd (omega arith)
tabulate-at g i (suc k) zero h = ap g (sym (add-zero i))
tabulate-at g i (suc k) (suc n) h = let e : suc i + n ≡ i + suc n = omega arith in tabulate-at g (suc i) k n (omega arith) ∙ ap g e

length-tabulate : (g : ℕ → ℕ) (i k : ℕ) → length (tabulate g i k) ≡ k
unfolding tabulate
length-tabulate g i zero = refl
length-tabulate g i (suc k) = ap suc (length-tabulate g (suc i) k)

pub table-long : (h : DbHeader) (fs : List (List ℕ)) → length (table_of h fs) ≡ page_limit
unfolding table_of
table-long h fs = length-tabulate _ 0 page_limit

pub table_at : (h : DbHeader) (fs : List (List ℕ)) (n : ℕ) → n < page_limit → get_or (table_of h fs) n 0 ≡ entry (place_from n 0 fs) (has_page h n)
unfolding table_of
table_at h fs n k =
    tabulate-at (λ (m : ℕ). entry (place_from m 0 fs) (has_page h m)) 0 page_limit n k
    ∙ ap (λ (m : ℕ). entry (place_from m 0 fs) (has_page h m)) (zero-add n)

pub empty-slots : Slots empty_staged
unfolding empty_staged
empty-slots = record { few = omega arith; long = refl; low = λ i h. absurd (omega arith); once = λ i h. absurd (omega arith) }

pub empty-none : (n : ℕ) → is_staged empty_staged n ≡ false
unfolding empty_staged is_staged slot_of
empty-none n = refl

-- a store with nothing staged and nothing part done, whose files are these
pub rests : (x : Disk) (b : Model) (l : WalHeader) (S : List (List ℕ)) (mh own : DbHeader) (v : Wal) (end : ℕ) (G : List ℕ)
    → OnDisk x b l S [] [] mh → v.len ≡ x.log.len → v.header.salt ≡ l.salt → l.clock_high_water ≤ v.header.clock_high_water
    → v.header.clock_high_water < 2 ^ 64 → length G ≡ staging_area
    → ((n : ℕ) → b.staged n ≡ None) → b.waiting ≡ []
    → Resting (world (opens_as b.header own x.main.len v end opening.Clean) (table_of mh S) x.log.area x.main.area) G b l S [] mh
unfolding opens_as batches_in
rests x b l S mh own v end G o e₁ e₂ older e₃ e₄ e₅ e₆ =
    let f : record { main = x.main; log = record { area = x.log.area; len = v.len } } ≡ x = λ i. record { main = x.main; log = record { area = x.log.area; len = e₁ i } } in
    record {
      held =
          record {
            on = rw f o;
            table_long = table-long mh S;
            staging_long = e₄;
            salt = e₂;
            older = older;
            clock = e₃;
            header = refl;
            clean = refl;
            slots = empty-slots;
            staged = λ n. rw (empty-none n) (sym (e₅ n));
            waiting = sym e₆;
          };
      table = λ n h. rw (append-nil S) (table_at mh S n h);
      loose = λ n h. refl;
    }
