-- What an opening that isn't refused knows, and what it leaves of table and log. Assumes nothing.
use mathlib.Core.Path.{◌≡◌, refl, sym, ap, ◌∙◌}
use mathlib.Core.Bool.{Bool, true, false}
use mathlib.Core.List.{List}
use Prim.Native.Nat.{ℕ, ◌-◌, ◌*◌, ◌≤◌}
use native.Mathlib.Omega.{arith}
use borrow.Author.Tests.{eq-eqb, eqb-true, leb-true}
use lib.Dec.{leb, eqb}
use lib.ListN.{length, take, length-take}
use Rattle.std.specs.Prelude.{Err, Ok, Result}
use Rattle.le.specs.Choice.{pick, both}
use Rattle.le.specs.Le.{put}
use Rattle.le.proofs.Fields.{field-part}
use Rattle.le.proofs.Stores.{put-none}
use Rattle.le.proofs.Compare.{no_test, both_true}
use Rattle.header.specs.Header.{header_in, decode_header}
use Rattle.header.specs.declared.DbHeader.{DbHeader}
use Rattle.header.proofs.RoundTrip.{decoded-as}
use Rattle.wal.specs.Header.{decode_wal_header, encode_wal_header}
use Rattle.wal.specs.Recovery.{chunks, chunk_at, recovered, commit_point}
use Rattle.wal.specs.Write.{created_header, with_header}
use Rattle.wal.specs.declared.WalHeader.{WalHeader}
use Rattle.wal.specs.declared.Wal.{Wal}
use Rattle.wal.proofs.HeaderRoundTrip.{decoded-as as log-decoded-as}
use Rattle.wal.proofs.Recovered.{commit-within}
use Rattle.refusal.specs.declared.Refusal.{Refusal}
use Rattle.refusal.specs.declared.Refusal.TheVariants as refusal
use Rattle.pager_state.specs.World.{count_of, lengths_fine}
use Rattle.pager_state.specs.Stores.{File, Disk, content, grown, put_file, len_file, stored_all}
use Rattle.pager_state.specs.Opening.{table_of, opens_as, How, writes, found_in, found_fresh, found_by, main_header_of, judged_main, judged_log, judged_zero, header_by, opening_of, open_fine, open_pager, opened_answer, opens, log_stores, open_stores, empty_file, start_disk, open_table, open_log_area}
use Rattle.pager_state.specs.Opened.{Opens}
use Rattle.pager_state.specs.Opened as opened
use Rattle.pager_state.specs.declared.Pager.{Pager}
use Rattle.pager_state.specs.declared.Outcome.{Outcome}
use Rattle.pager_open.specs.Judging.{is_clean_read_only, opened_with, judged_found, judged_behind, judged_files}
use Rattle.pager_open.proofs.Found.{found-end, found-chunks, fresh-chunks}
use Rattle.pager_open.proofs.Judged.{opening-judged}

-- ---- lengths

-- what refusal 1 lets through
pub record Fine (t la l ma : ℕ) : Type 0 where
  pub table : t ≡ 1024
  pub area : la ≡ 4210720
  pub file : l ≤ 4210720
  pub main : ma ≡ 4194304

pub lengths : (t la l ma m g : ℕ) → lengths_fine t la l ma m g ≡ true → Fine t la l ma
lengths t la l ma m g e =
    let a = both_true (eqb t 1024) _ e in
    let b = both_true (both (eqb la 4210720) (leb l 4210720)) _ a.1 in
    let c = both_true (eqb la 4210720) (leb l 4210720) b.0 in
    let d = both_true (both (eqb ma 4194304) (leb m 4194304)) _ b.1 in
    record {
      table = eqb-true t 1024 a.0;
      area = eqb-true la 4210720 c.0;
      file = leb-true l 4210720 c.1;
      main = eqb-true ma 4194304 (both_true (eqb ma 4194304) (leb m 4194304) d.0).0;
    }

-- ---- the answer and what it stands for

no_answer : {A : Type 0} (r : Refusal) → ◌≡◌ {A = Result (Unit {0}) Refusal} (Err r) (Ok tt) → A
no_answer r e = absurd (let z : ◌≡◌ {A = ℕ} 0 1 = cc in omega arith)

opened-by : (o : Opens) → (opened_answer o).answer ≡ Ok tt → o ≡ opened.Opened (opened_answer o).pager
opened-by (opened.Opened p) e = refl
opened-by (opened.Refused r) e = no_answer r e

refused-by : (o : Opens) (r : Refusal) → (opened_answer o).answer ≡ Err r → opens o ≡ false
refused-by (opened.Opened p) r e = no_answer r (sym e)
refused-by (opened.Refused k) r e = refl

pub store-opened : (o : Opens) (r : Outcome (Unit {0})) → r ≡ opened_answer o → r.answer ≡ Ok tt → o ≡ opened.Opened r.pager
store-opened o r e t = rw e (opened-by o (sym (ap (λ (x : Outcome (Unit {0})). x.answer) e) ∙ t))

-- ---- what the refusals that were passed tell

-- a choice that came out as a store was not the refusal
chosen : (t : Bool) (x r : Opens) (p : Pager) → opens r ≡ false → pick t x r ≡ opened.Opened p → (t ≡ true) × (x ≡ opened.Opened p)
chosen true x r p n e = (refl, e)
chosen false x r p n e = no_test (sym n ∙ ap opens e)

record Read (d : Result DbHeader Refusal) (next : DbHeader → Opens) (p : Pager) : Type 0 where
  found : DbHeader
  header : d ≡ Ok found
  rest : next found ≡ opened.Opened p

refused-not : (r : Opens) (p : Pager) {A : Type 0} → opens r ≡ false → r ≡ opened.Opened p → A
refused-not r p n e = no_test (sym n ∙ ap opens e)

main-read : (d : Result DbHeader Refusal) (next : DbHeader → Opens) (p : Pager) → judged_main d next ≡ opened.Opened p → Read d next p
main-read (Ok h) next p e = record { found = h; header = refl; rest = e }
main-read (Err r) next p e = refused-not (opened.Refused r) p refl e

zero-read : (d : Result DbHeader Refusal) (next : DbHeader → Opens) (p : Pager) → judged_zero d next ≡ opened.Opened p → Read d next p
zero-read (Ok h) next p e = record { found = h; header = refl; rest = e }
zero-read (Err r) next p e = refused-not (opened.Refused refusal.PageZero) p refl e

record LogRead (d : Result WalHeader Refusal) (next : Opens) (p : Pager) : Type 0 where
  found : WalHeader
  header : d ≡ Ok found
  rest : next ≡ opened.Opened p

log-read : (d : Result WalHeader Refusal) (next : Opens) (p : Pager) → judged_log d next ≡ opened.Opened p → LogRead d next p
log-read (Ok h) next p e = record { found = h; header = refl; rest = e }
log-read (Err r) next p e = refused-not (opened.Refused r) p refl e

-- what a store was opened with
record With (mh : DbHeader) (v : Wal) (p : Pager) : Type 0 where
  header : p.storage.header ≡ mh
  end : p.recovered ≡ v.last_commit_offset

opened-with : (how : How) (len : ℕ) (mh : DbHeader) (v : Wal) (h : DbHeader) (p : Pager) → opened_with how len mh v h ≡ opened.Opened p → With mh v p
unfolding opened_with opens_as
opened-with how len mh v h p e =
    let a = chosen (leb (count_of h) 1024) _ (opened.Refused refusal.Limit) p refl e in
    let b = not-barred (is_clean_read_only how) (opens_as h mh len v v.last_commit_offset (opening_of how)) a.1 in
    record { header = ap (λ (x : Pager). x.storage.header) (sym b); end = ap (λ (x : Pager). x.recovered) (sym b) }
  where
    not-barred : (t : Bool) (q : Pager) → pick t (opened.Refused refusal.ReadOnly) (opened.Opened q) ≡ opened.Opened p → q ≡ p
    not-barred true q k = refused-not (opened.Refused refusal.ReadOnly) p refl k
    not-barred false q k = cc

module _ (how : How) (len : ℕ) (f : File) (mh : DbHeader) (p : Pager) where
  found-with : judged_found how len mh (found_by how f) ≡ opened.Opened p → With mh (found_by how f).log p
  unfolding judged_found
  found-with e =
      let z = zero-read (header_by mh (found_by how f)) (opened_with how len mh (found_by how f).log) p e in
      opened-with how len mh (found_by how f).log z.found p z.rest

  -- a log that exists has its header
  record Behind : Type 0 where
    opened-so : With mh (found_by how f).log p
    long : how.exists ≡ true → 32 ≤ length (content f)

  log-or-none : (b : Bool) → how.exists ≡ b → (rest : Opens) → (rest ≡ opened.Opened p → With mh (found_by how f).log p)
      → pick b (judged_log (decode_wal_header (content f)) rest) rest ≡ opened.Opened p → Behind
  log-or-none true t rest known e =
      let r = log-read (decode_wal_header (content f)) rest p e in
      record { opened-so = known r.rest; long = λ s. (log-decoded-as (content f) r.found r.header).long }
  log-or-none false t rest known e = record { opened-so = known e; long = λ s. no_test (sym t ∙ s) }

  behind : judged_behind how len f mh ≡ opened.Opened p → Behind
  unfolding judged_behind
  behind e =
      let a = chosen (leb (4096 * count_of mh) len) _ (opened.Refused refusal.MainShort) p refl e in
      log-or-none how.exists refl (judged_found how len mh (found_by how f)) found-with a.1

-- nothing behind a page's length is read of the main file's own header
header-front : (l : List ℕ) → header_in (take 4096 l) ≡ header_in l
unfolding header_in
header-front l =
    rw (
      field-part 4 20 4096 0 l (omega arith),
      field-part 4 24 4096 0 l (omega arith),
      field-part 2 16 4096 0 l (omega arith),
      field-part 4 28 4096 0 l (omega arith),
    )

pub record Known (how : How) (d : Disk) (p : Pager) : Type 0 where
  pub header : p.storage.header ≡ header_in d.main.area
  pub end : p.recovered ≡ chunk_at (length (found_by how d.log).frames)
  pub long : how.exists ≡ true → 32 ≤ length (content d.log)

main-there : (f : File) (h : DbHeader) → main_header_of f ≡ Ok h → h ≡ header_in f.area
unfolding main_header_of
main-there f h e =
    let k = long-enough (leb 4096 f.len) (decode_header (take 4096 f.area)) e in
    sym (decoded-as (take 4096 f.area) h k).fields ∙ header-front f.area
  where
    long-enough : (t : Bool) (x : Result DbHeader Refusal) → pick t x (Err refusal.Short) ≡ Ok h → x ≡ Ok h
    long-enough true x k = k
    long-enough false x k = let z : ◌≡◌ {A = ℕ} 0 1 = cc in absurd (omega arith)

pub opening-known : (how : How) (d : Disk) (p : Pager) → judged_files how d ≡ opened.Opened p → Known how d p
unfolding judged_files
opening-known how d p e =
    let m = main-read (main_header_of d.main) (judged_behind how d.main.len d.log) p e in
    let b = behind how d.main.len d.log m.found p m.rest in
    record {
      header = b.opened-so.header ∙ main-there d.main m.found m.header;
      end = b.opened-so.end ∙ sym (found-end how d.log);
      long = b.long;
    }

-- ---- the table

-- the frames that are found are those in front of where the batches end
chunks-found : (how : How) (f : File) (b : Bool) → how.exists ≡ b → (how.exists ≡ true → 32 ≤ length (content f))
    → let x = pick b (found_in how.clean (content f)) (found_fresh how) in chunks (take (chunk_at (length x.frames)) f.area) ≡ x.frames
chunks-found how f true t h = found-chunks how.clean f (h t)
chunks-found how f false t h = fresh-chunks how f.area

pub table_filled : (how : How) (d : Disk) (p : Pager) → Known how d p → {u : List ℕ} → u ≡ table_of p.storage.header (chunks (take p.recovered d.log.area))
    → u ≡ table_of (header_in d.main.area) (found_by how d.log).frames
unfolding found_by
table_filled how d p k e = e ∙ rw (k.header, k.end, chunks-found how d.log how.exists refl k.long)

-- ---- the log's area

pub grown-none : (f : File) (n : ℕ) → n ≤ f.len → grown f n ≡ f.area
unfolding grown
grown-none f n h =
    let z : n - f.len ≡ 0 = omega arith in
    rw z (put-none f.area f.len)

-- "A clean opening .. cuts the log": no byte changes
cut-area : (f : File) → 32 ≤ length (content f) → grown f (commit_point (recovered (content f))) ≡ f.area
cut-area f h = grown-none f (commit_point (recovered (content f))) (omega (arith, commit-within (content f) h, length-take f.len f.area))

-- a fresh log's two stores
pub fresh-area : (l : List ℕ) (salt : ℕ) (d : Disk) → d.log ≡ empty_file l → (stored_all (log_stores salt) d).log.area ≡ put l 0 (encode_wal_header (created_header salt))
unfolding stored_all log_stores put_file len_file
fresh-area l salt d e =
    rw (e, grown-none (empty_file l) 0 (omega arith), grown-none (record { area = l; len = 0 }) 0 (omega arith))

module _ (how : How) (d : Disk) where
  stored-log : (b c w : Bool) → how.exists ≡ b → how.clean ≡ c → writes how.access ≡ w → length d.log.area ≡ 4210720
      → (how.exists ≡ true → 32 ≤ length (content d.log))
      → pick b d.log.area (pick w (with_header d.log.area (created_header how.salt)) d.log.area)
      ≡ (stored_all (open_stores how d) (start_disk how d)).log.area
  unfolding open_stores stored_all len_file with_header
  stored-log true true w eb ec ew n h = rw (eb, ec) (sym (cut-area d.log (h eb)))
  stored-log true false w eb ec ew n h = rw (eb, ec)
  stored-log false c true eb ec ew n h =
      rw (eb, ew, eq-eqb (length d.log.area) 4210720 n)
      (sym (fresh-area d.log.area how.salt (record { main = d.main; log = empty_file d.log.area }) refl))
  stored-log false c false eb ec ew n h = rw (eb, ew)

  -- ---- an opening that was refused, and one that wasn't

  module _ (t g : List ℕ) where
    pub refused-leaves : opens (open_pager how t d g) ≡ false → (t ≡ open_table how t d g) × (d.log.area ≡ open_log_area how t d g)
    unfolding open_table open_log_area
    refused-leaves e = (rw e, rw e)

    pub opened-leaves : (p : Pager) {u v : List ℕ} → open_pager how t d g ≡ opened.Opened p → Known how d p → length d.log.area ≡ 4210720
        → u ≡ table_of p.storage.header (chunks (take p.recovered d.log.area))
        → v ≡ pick how.exists d.log.area (pick (writes how.access) (with_header d.log.area (created_header how.salt)) d.log.area)
        → (u ≡ open_table how t d g) × (v ≡ open_log_area how t d g)
    unfolding open_table open_log_area
    opened-leaves p e k n a b =
        (rw e (table_filled how d p k a), rw e (b ∙ stored-log how.exists how.clean (writes how.access) refl refl refl n k.long))

    -- what an opening answers and leaves
    abbrev pub Leaves : Outcome (Unit {0}) → List ℕ → List ℕ → Type 0
    Leaves r u v = (r ≡ opened_answer (open_pager how t d g)) × ((u ≡ open_table how t d g) × (v ≡ open_log_area how t d g))

    leaves-refused : (o : Opens) {r : (Outcome (Unit {0}))} → open_pager how t d g ≡ o → opens o ≡ false → r ≡ opened_answer o → Leaves r t d.log.area
    leaves-refused o e n a = (rw e a, refused-leaves (rw e n))

    -- refusal 1, then the others
    pub area-refused : {r : (Outcome (Unit {0}))} → open_fine t d g ≡ false → r ≡ opened_answer (opened.Refused refusal.Area) → Leaves r t d.log.area
    area-refused n a = leaves-refused (opened.Refused refusal.Area) (opening-judged how d t g ∙ rw n) refl a

    module _ (fine : open_fine t d g ≡ true) (r : Outcome (Unit {0})) (a : r ≡ opened_answer (judged_files how d)) where
      judged-here : open_pager how t d g ≡ judged_files how d
      judged-here = opening-judged how d t g ∙ rw fine

      pub judged-refused : (k : Refusal) → r.answer ≡ Err k → Leaves r t d.log.area
      judged-refused k n =
          leaves-refused (judged_files how d) judged-here (refused-by (judged_files how d) k (sym (ap (λ (x : Outcome (Unit {0})). x.answer) a) ∙ n)) a

      pub judged-opened : {u v : List ℕ} → r.answer ≡ Ok tt → length d.log.area ≡ 4210720
          → u ≡ table_of r.pager.storage.header (chunks (take r.pager.recovered d.log.area))
          → v ≡ pick how.exists d.log.area (pick (writes how.access) (with_header d.log.area (created_header how.salt)) d.log.area)
          → Leaves r u v
      judged-opened y n b c =
          let o = store-opened (judged_files how d) r a y in
          (rw judged-here a, opened-leaves r.pager (judged-here ∙ o) (opening-known how d r.pager o) n b c)
