-- Creation and opening: document 01's lines on `pager.rs` and "Added by design". What an opening knows is a function of the two files' bytes.
use Rattle.std.specs.Prelude.{Option, Err, None, Ok, Result, Some, Bool, true, false, List, [], ◌∷◌, map, ℕ, zero, suc, ◌*◌, max, leb, ltb, eqb, length, take, replicate}
use Rattle.le.specs.Choice.{pick, both}
use Rattle.page.specs.Page.{page_size, empty_table_page}
use Rattle.refusal.specs.Refusal.{number, unless, answered}
use Rattle.refusal.specs.declared.Refusal.{Refusal}
use Rattle.refusal.specs.declared.Refusal.TheVariants as refusal
use Rattle.header.specs.Header.{encode_header, header_in, decode_header}
use Rattle.header.specs.declared.DbHeader.{DbHeader}
use Rattle.frame.specs.Frame.{body_of}
use Rattle.mvcc.specs.Seen.{commit_ts_of}
use Rattle.wal.specs.Header.{header_size, encode_wal_header, decode_wal_header}
use Rattle.wal.specs.Recovery.{chunk_at, page_of, page_in, batches_in, Recovered, recovered, committed_frames, commit_point, last_commit_of, wal_of}
use Rattle.wal.specs.Write.{empty_wal, created_header, with_clock}
use Rattle.wal.specs.declared.Wal.{Wal}
use Rattle.wal.specs.declared.WalHeader.{WalHeader}
use Rattle.pager_state.specs.World.{page_limit, count_of, lengths_fine, staged_limit}
use Rattle.pager_state.specs.Overlay.{entry}
use Rattle.pager_state.specs.Stores.{File, Disk, content, Act, Put, SetLen, Other, stored_all}
use Rattle.pager_state.specs.declared.AccessMode.{AccessMode}
use Rattle.pager_state.specs.declared.AccessMode.TheVariants as mode
use Rattle.pager_state.specs.declared.Opening.{Opening}
use Rattle.pager_state.specs.declared.Opening.TheVariants as opening
use Rattle.pager_state.specs.declared.FileKind.TheVariants as file
use Rattle.pager_state.specs.declared.Staged.{Staged}
use Rattle.pager_state.specs.declared.Job.TheVariants as job
use Rattle.pager_state.specs.declared.Pager.{Pager}
use Rattle.pager_state.specs.Opened as opened
use Rattle.pager_state.specs.Opened.{Opens}
use Rattle.pager_state.specs.declared.Outcome.{Outcome}

-- ---- the page table

-- g of each of k numbers from i on
unfoldable pub tabulate : (ℕ → ℕ) → ℕ → ℕ → List ℕ
tabulate g i zero = []
tabulate g i (suc k) = g i ∷ tabulate g (suc i) k

-- "Per page the last sealed frame counts": where the last frame of page n stands, the first of the list having index i; 0 if none does
unfoldable pub place_from : ℕ → ℕ → List (List ℕ) → ℕ
place_from n i [] = 0
place_from n i (f ∷ fs) =
    let later = place_from n (suc i) fs in
    pick (both (eqb later 0) (eqb (page_of f) n)) (chunk_at i) later

-- "the main file's pages from 1 to below its own header's count"
abbrev pub has_page : DbHeader → ℕ → Bool
has_page h n = both (leb 1 n) (ltb n (count_of h))

-- the table of a store with these committed frames and this main header
unfoldable pub table_of : DbHeader → List (List ℕ) → List ℕ
table_of h fs = tabulate (λ (n : ℕ). entry (place_from n 0 fs) (has_page h n)) 0 page_limit

-- ---- the store

unfoldable pub empty_staged : Staged
empty_staged = record { count = 0; pages = replicate staged_limit 0 }

-- an open store with nothing staged and nothing part done; mh is the main file's own header
unfoldable pub opens_as : DbHeader → DbHeader → ℕ → Wal → ℕ → Opening → Pager
opens_as h mh len v end how =
    record {
      current_header = h;
      wal = v;
      recovered = end;
      storage = record { len = len; header = mh };
      staged = empty_staged;
      job = job.Idle;
      opening = how;
    }

-- the store beside a refusal: one without pages that writes nothing
abbrev pub no_header : DbHeader
no_header = record { page_count = 0; schema_root_page = 0; format_version = 0; freelist_head = 0 }

unfoldable pub no_pager : Pager
no_pager = opens_as no_header no_header 0 (empty_wal (created_header 0)) header_size opening.NoLog

-- ---- creation

-- "page 0 .. the header; page 1 .. an empty" table page
unfoldable pub first_header : DbHeader
first_header = record { page_count = 2; schema_root_page = 1; format_version = 4; freelist_head = 0 }

-- a new log, in place of whatever was there
unfoldable pub log_stores : ℕ → List Act
log_stores salt = SetLen Other file.Log 0 false ∷ Put Other file.Log 0 (encode_wal_header (created_header salt)) true ∷ []

-- creation's stores, as the Rust stores them: both files are emptied first
unfoldable pub create_stores : ℕ → List Act
create_stores salt =
    SetLen Other file.Main 0 false
    ∷ Put Other file.Main 0 (encode_header first_header) false
    ∷ Put Other file.Main page_size empty_table_page true
    ∷ log_stores salt

abbrev pub empty_file : List ℕ → File
empty_file l = record { area = l; len = 0 }

-- the two areas after creation
unfoldable pub created_disk : List ℕ → List ℕ → ℕ → Disk
created_disk l m salt = stored_all (create_stores salt) (record { main = empty_file m; log = empty_file l })

unfoldable pub created_pager : ℕ → Pager
created_pager salt = opens_as first_header first_header 8192 (empty_wal (created_header salt)) header_size opening.Clean

-- refusal 1: g is the staging area, of which only the length is looked at
abbrev pub create_fine : List ℕ → List ℕ → List ℕ → List ℕ → Bool
create_fine t l m g = lengths_fine (length t) (length l) 0 (length m) 0 (length g)

abbrev pub create_refusal : List ℕ → List ℕ → List ℕ → List ℕ → Option Refusal
create_refusal t l m g = unless (create_fine t l m g) refusal.Area None

unfoldable pub create : List ℕ → List ℕ → List ℕ → List ℕ → ℕ → Outcome (Unit {0})
create t l m g salt =
    record {
      answer = answered Err (Ok tt) (create_refusal t l m g);
      pager = pick (create_fine t l m g) (created_pager salt) no_pager;
    }

unfoldable pub create_table : List ℕ → List ℕ → List ℕ → List ℕ → List ℕ
create_table t l m g = pick (create_fine t l m g) (table_of first_header []) t

unfoldable pub create_log : List ℕ → List ℕ → List ℕ → List ℕ → ℕ → List ℕ
create_log t l m g salt = pick (create_fine t l m g) (created_disk l m salt).log.area l

unfoldable pub create_main : List ℕ → List ℕ → List ℕ → List ℕ → ℕ → List ℕ
create_main t l m g salt = pick (create_fine t l m g) (created_disk l m salt).main.area m

-- ---- what an opening is given, besides the table

-- "who also says whether a log exists"; "Plain opening is the Rust's and keeps the tail"
pub record How : Type 0 where
  pub clean : Bool
  pub access : AccessMode
  pub exists : Bool
  pub salt : ℕ

abbrev pub writes : AccessMode → Bool
writes mode.ReadWrite = true
writes mode.ReadOnly = false

-- ---- what it finds in the log

-- the committed frames, the log as it is then open, and the last commit count
pub record Found : Type 0 where
  pub frames : List (List ℕ)
  pub log : Wal
  pub last : Option ℕ

-- "Plain opening .. keeps the tail"; "A clean opening .. cuts the log at the commit point; its frame count is the frames kept"
unfoldable pub kept_of : Bool → List ℕ → List ℕ
kept_of clean l = pick clean (take (commit_point (recovered l)) l) l

-- the commit times of the batches among some frames
abbrev pub commit_times : List (List ℕ) → List ℕ
commit_times fs = map (λ (f : List ℕ). commit_ts_of (body_of f)) (batches_in fs)

-- "the greatest commit time"; 0 for none
unfoldable pub greatest : List ℕ → ℕ
greatest [] = 0
greatest (t ∷ ts) = max t (greatest ts)

-- document 02, P4: "A clean opening .. takes the larger of the log header's clock and the greatest commit time among the recovered batches.
-- Plain openings keep the header's clock"
unfoldable pub clock_taken : Bool → Recovered → ℕ
clock_taken clean r =
    let clock = r.header.clock_high_water in
    pick clean (max clock (greatest (commit_times (committed_frames r)))) clock

unfoldable pub found_in : Bool → List ℕ → Found
found_in clean l =
    let k = kept_of clean l in
    let r = recovered k in
    record { frames = committed_frames r; log = with_clock (wal_of (length k) r) (clock_taken clean (recovered l)); last = last_commit_of r }

-- "absent means a fresh log, or read-only an empty one whose clock stays 0"
unfoldable pub found_fresh : How → Found
found_fresh how = record { frames = []; log = empty_wal (created_header (pick (writes how.access) how.salt 0)); last = None }

unfoldable pub found_by : How → File → Found
found_by how f = pick how.exists (found_in how.clean (content f)) (found_fresh how)

-- ---- refusals: "opening, after 1, judges the main file (2 to 5, then 7), then the log (2 to 5), then 8, then 6 for the final count, then 10"

-- 2 to 5 of the main file; "main under 4,096"
unfoldable pub main_header_of : File → Result DbHeader Refusal
main_header_of f = pick (leb page_size f.len) (decode_header (take page_size f.area)) (Err refusal.Short)

abbrev pub judged_main : Result DbHeader Refusal → (DbHeader → Opens) → Opens
judged_main (Ok h) next = next h
judged_main (Err r) next = opened.Refused r

-- 7: "main below page count × 4,096"
abbrev pub is_long : File → DbHeader → Bool
is_long f h = leb (page_size * count_of h) f.len

-- 2 to 5 of the log, where one exists
abbrev pub judged_log : Result WalHeader Refusal → Opens → Opens
judged_log (Ok h) next = next
judged_log (Err r) next = opened.Refused r

-- 8: "the log's page 0 has refusal 3, 4 or 5"
abbrev pub judged_zero : Result DbHeader Refusal → (DbHeader → Opens) → Opens
judged_zero (Ok h) next = next h
judged_zero (Err r) next = opened.Refused refusal.PageZero

abbrev pub recounted : DbHeader → Option ℕ → DbHeader
recounted h None = h
recounted h (Some c) =
    record {
      page_count = c;
      schema_root_page = h.schema_root_page;
      format_version = h.format_version;
      freelist_head = h.freelist_head;
    }

-- "Page 0 in the log replaces the main header, its own page count included; otherwise the last commit count replaces the page count"
unfoldable pub header_by : DbHeader → Found → Result DbHeader Refusal
header_by mh x = pick (eqb (place_from 0 0 x.frames) 0) (Ok (recounted mh x.last)) (decode_header (body_of (page_in 0 x.frames)))

abbrev pub opening_of : How → Opening
opening_of how =
    pick (writes how.access) (pick how.clean opening.Clean opening.Plain) (pick how.exists opening.ReadOnly opening.NoLog)

-- 6: "a page count above 1,024"; 10: a "clean opening, read-only"
unfoldable pub opened_store : How → Disk → DbHeader → Found → DbHeader → Opens
opened_store how d mh x h =
    pick (leb (count_of h) page_limit)
    (pick (both how.clean (pick (writes how.access) false true))
    (opened.Refused refusal.ReadOnly)
    (opened.Opened (opens_as h mh d.main.len x.log (chunk_at (length x.frames)) (opening_of how))))
    (opened.Refused refusal.Limit)

unfoldable pub judged : How → Disk → DbHeader → Opens
judged how d mh =
    let x = found_by how d.log in
    let next = judged_zero (header_by mh x) (opened_store how d mh x) in
    pick how.exists (judged_log (decode_wal_header (content d.log)) next) next

-- refusal 1
abbrev pub open_fine : List ℕ → Disk → List ℕ → Bool
open_fine t d g = lengths_fine (length t) (length d.log.area) d.log.len (length d.main.area) d.main.len (length g)

unfoldable pub open_pager : How → List ℕ → Disk → List ℕ → Opens
open_pager how t d g =
    pick (open_fine t d g)
    (judged_main (main_header_of d.main) (λ (mh : DbHeader). pick (is_long d.main mh) (judged how d mh) (opened.Refused refusal.MainShort)))
    (opened.Refused refusal.Area)

-- 0 is no refusal
abbrev pub open_refusal : Opens → ℕ
open_refusal (opened.Opened p) = 0
open_refusal (opened.Refused r) = number r

abbrev pub opens : Opens → Bool
opens (opened.Opened p) = true
opens (opened.Refused r) = false

-- the same as the call gives it, the answer beside the store
abbrev pub opened_answer : Opens → Outcome (Unit {0})
opened_answer (opened.Opened p) = record { answer = Ok tt; pager = p }
opened_answer (opened.Refused r) = record { answer = Err r; pager = no_pager }

-- ---- the areas afterwards; a refusal leaves them

-- the opening's stores: a fresh log is stored, a clean opening cuts the log
unfoldable pub open_stores : How → Disk → List Act
open_stores how d =
    pick how.exists
    (pick how.clean (SetLen Other file.Log (commit_point (recovered (content d.log))) true ∷ []) [])
    (pick (writes how.access) (log_stores how.salt) [])

-- a fresh log lies in an empty file
abbrev pub start_disk : How → Disk → Disk
start_disk how d = record { main = d.main; log = pick how.exists d.log (empty_file d.log.area) }

-- the main file's own header stands at its start
unfoldable pub open_table : How → List ℕ → Disk → List ℕ → List ℕ
open_table how t d g = pick (opens (open_pager how t d g)) (table_of (header_in d.main.area) (found_by how d.log).frames) t

unfoldable pub open_log_area : How → List ℕ → Disk → List ℕ → List ℕ
open_log_area how t d g =
    pick (opens (open_pager how t d g)) (stored_all (open_stores how d) (start_disk how d)).log.area d.log.area
