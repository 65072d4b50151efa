-- What the parts of an opening answer: pieces of `open_pager` over what the parts before them found.
use Rattle.std.specs.Prelude.{Option, Bool, true, false, List, ℕ, ◌-◌, ◌*◌, ◌/◌, max, leb}
use Rattle.le.specs.Choice.{pick, both}
use Rattle.page.specs.Page.{page_size}
use Rattle.frame.specs.Frame.{frame_size, body_of}
use Rattle.mvcc.specs.Seen.{commit_ts_of}
use Rattle.refusal.specs.declared.Refusal.TheVariants as refusal
use Rattle.header.specs.declared.DbHeader.{DbHeader}
use Rattle.wal.specs.Header.{header_size, decode_wal_header}
use Rattle.wal.specs.Recovery.{is_batch}
use Rattle.wal.specs.Read.{committed_chunks}
use Rattle.wal.specs.declared.WalHeader.{WalHeader}
use Rattle.wal.specs.declared.Wal.{Wal}
use Rattle.pager_state.specs.World.{page_limit, count_of}
use Rattle.pager_state.specs.Stores.{File, Disk, content}
use Rattle.pager_state.specs.Opening.{How, Found, writes, commit_times, greatest, found_by, main_header_of, judged_main, judged_log, judged_zero, header_by, opening_of, opens_as}
use Rattle.pager_state.specs.Opened.{Opens}
use Rattle.pager_state.specs.Opened as opened

-- the commit time of a frame that holds a batch; 0 of a page's
abbrev pub time_of : List ℕ → ℕ
time_of f = pick (is_batch f) (commit_ts_of (body_of f)) 0

-- the header with the larger of its clock and the greatest commit time among some frames
abbrev pub clocked : WalHeader → List (List ℕ) → WalHeader
clocked h fs =
    record {
      version = h.version;
      salt = h.salt;
      checkpoint_seq = h.checkpoint_seq;
      clock_high_water = max h.clock_high_water (greatest (commit_times fs));
    }

-- an open log that ends with its last commit frame: "its frame count is the frames kept"
unfoldable pub committed_wal : WalHeader → ℕ → Option ℕ → Wal
committed_wal h end last =
    record {
      header = h;
      len = end;
      good_end = end;
      last_commit_offset = end;
      last_commit_page_count = last;
      frame_count = (end - header_size) / frame_size;
    }

-- "A clean opening .. cuts the log at the commit point", and "takes the larger of the log header's clock and the greatest commit time"
abbrev pub kept_wal : Bool → List ℕ → Wal → Wal
kept_wal clean l v =
    let end = v.last_commit_offset in
    pick clean (committed_wal (clocked v.header (committed_chunks end l)) end v.last_commit_page_count) v

-- 10: "clean opening, read-only"
abbrev pub is_clean_read_only : How → Bool
is_clean_read_only how = both how.clean (pick (writes how.access) false true)

-- 6, then 10, then the store: h is the header that counts, mh the main file's own, len its length
unfoldable pub opened_with : How → ℕ → DbHeader → Wal → DbHeader → Opens
opened_with how len mh v h =
    pick (leb (count_of h) page_limit)
    (pick (is_clean_read_only how) (opened.Refused refusal.ReadOnly) (opened.Opened (opens_as h mh len v v.last_commit_offset (opening_of how))))
    (opened.Refused refusal.Limit)

-- 8, then the rest
unfoldable pub judged_found : How → ℕ → DbHeader → Found → Opens
judged_found how len mh x = judged_zero (header_by mh x) (opened_with how len mh x.log)

-- 7, then the log's 2 to 5 if there is one, then the rest
unfoldable pub judged_behind : How → ℕ → File → DbHeader → Opens
judged_behind how len f mh =
    let rest = judged_found how len mh (found_by how f) in
    pick (leb (page_size * count_of mh) len) (pick how.exists (judged_log (decode_wal_header (content f)) rest) rest) (opened.Refused refusal.MainShort)

-- all but refusal 1
unfoldable pub judged_files : How → Disk → Opens
judged_files how d = judged_main (main_header_of d.main) (judged_behind how d.main.len d.log)
