-- What creating, truncating, appending and setting the clock answer and leave.
use Rattle.std.specs.Prelude.{Err, None, Ok, Result, Some, ℕ, ◌+◌, ◌%◌, ◌^◌, Bool, true, not, List, length, ◌==◌, nat_eq, nat_le}
use Rattle.le.specs.Choice.{pick, both}
use Rattle.le.specs.Le.{put}
use Rattle.page.specs.Page.{page_size}
use Rattle.frame.specs.Frame.{frame_size, encode_frame}
use Rattle.refusal.specs.declared.Refusal.TheVariants as refusal
use Rattle.refusal.specs.declared.Refusal.{Refusal}
use Rattle.wal.specs.Header.{header_size, wal_version, encode_wal_header}
use Rattle.wal.specs.Recovery.{readable_as, wal_area}
use Rattle.wal.specs.declared.WalHeader.{WalHeader}
use Rattle.wal.specs.declared.Wal.{Wal}

-- ---- a log of its header alone

-- an open log without frames
unfoldable pub empty_wal : WalHeader → Wal
empty_wal h =
    record {
      header = h;
      len = header_size;
      good_end = header_size;
      last_commit_offset = header_size;
      last_commit_page_count = None;
      frame_count = 0;
    }

-- the area with the header stored in front, where its length is the log area's; the bytes behind stay
unfoldable pub with_header : List ℕ → WalHeader → List ℕ
with_header l h = pick (length l == wal_area) (put l 0 (encode_wal_header h)) l

-- "Salts come from the caller": a new log's header
unfoldable pub created_header : ℕ → WalHeader
created_header salt = record { version = wal_version; salt = salt; checkpoint_seq = 0; clock_high_water = 0 }

-- refusal 1: "a wrong area length"
unfoldable pub create_answer : List ℕ → ℕ → Result Wal Refusal
create_answer l salt = pick (length l == wal_area) (Ok (empty_wal (created_header salt))) (Err refusal.Area)

abbrev pub create_after : List ℕ → ℕ → List ℕ
create_after l salt = with_header l (created_header salt)

-- refusal 1 of a log that is lent with its area: "a wrong area length, or a file length above its area"
abbrev pub area_fine : List ℕ → Wal → Bool
area_fine l w = both (length l == wal_area) (nat_le w.len wal_area)

-- "log length 32; log header with the next sequence and the given salt"; "checkpoint sequence (4, wraps)"
unfoldable pub truncated_header : WalHeader → ℕ → WalHeader
truncated_header h salt =
    record {
      version = wal_version;
      salt = salt;
      checkpoint_seq = (h.checkpoint_seq + 1) % 2 ^ 32;
      clock_high_water = h.clock_high_water;
    }

unfoldable pub truncate_answer : List ℕ → Wal → ℕ → Result Wal Refusal
truncate_answer l w salt =
    pick (area_fine l w) (Ok (empty_wal (truncated_header w.header salt))) (Err refusal.Area)

unfoldable pub truncate_after : List ℕ → Wal → ℕ → List ℕ
truncate_after l w salt = pick (area_fine l w) (with_header l (truncated_header w.header salt)) l

-- ---- one frame more

-- the log one frame longer; where that joins the good frames these end behind it, and "A nonzero commit count seals":
-- "The commit point is the end of the last seal"
unfoldable pub longer : Bool → Wal → ℕ → Wal
longer joins w count =
    let plain = nat_eq count 0 in
    let end = w.len + frame_size in
    record {
      header = w.header;
      len = end;
      good_end = pick joins end w.good_end;
      last_commit_offset = pick (both joins (not plain)) end w.last_commit_offset;
      last_commit_page_count = pick plain w.last_commit_page_count (Some count);
      frame_count = (w.frame_count + 1) % 2 ^ 64;
    }

-- "Reading stops at the first frame that isn't": a good frame joins the good ones only where the length stood right at their end
abbrev pub joins : Wal → Bool → Bool
joins w is_good = both is_good (w.len == w.good_end)

-- the log with a good frame more
abbrev pub with_frame : Wal → ℕ → Wal
with_frame w count = longer (joins w true) w count

-- .. and of a page with it
abbrev pub appendable : List ℕ → Wal → List ℕ → Bool
appendable l w body = both (length body == page_size) (area_fine l w)

-- 15: "length + 4,112 × frames to add is above 4,210,720"
abbrev pub has_room : Wal → Bool
has_room w = nat_le (w.len + frame_size) wal_area

-- refusals in the order of their numbers; a frame that is written is good unless it is "a batch" whose body does not decode
unfoldable pub append_frame_answer : List ℕ → Wal → ℕ → List ℕ → ℕ → Result Wal Refusal
append_frame_answer l w page body count =
    pick (appendable l w body)
    (pick (has_room w)
    (Ok (longer (joins w (readable_as page body)) w count))
    (Err refusal.LogFull))
    (Err refusal.Area)

-- "An added frame lands at the log's length, even where a torn tail leaves that off the frame places"
unfoldable pub append_frame_after : List ℕ → Wal → ℕ → List ℕ → ℕ → List ℕ
append_frame_after l w page body count =
    pick (both (appendable l w body) (has_room w)) (put l w.len (encode_frame page count w.header.salt body)) l

-- ---- the clock

-- the log with another clock
unfoldable pub with_clock : Wal → ℕ → Wal
with_clock w value =
    let h = w.header in
    record {
      header =
          record { version = h.version; salt = h.salt; checkpoint_seq = h.checkpoint_seq; clock_high_water = value };
      len = w.len;
      good_end = w.good_end;
      last_commit_offset = w.last_commit_offset;
      last_commit_page_count = w.last_commit_page_count;
      frame_count = w.frame_count;
    }

-- 16: "set below the present clock"
unfoldable pub clock_answer : Wal → ℕ → Result Wal Refusal
clock_answer w value = pick (nat_le w.header.clock_high_water value) (Ok (with_clock w value)) (Err refusal.Clock)
