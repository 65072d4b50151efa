-- One frame of the log: "page number, commit count, salt, checksum (4 each), body".
use Rattle.std.specs.Prelude.{Err, Result, Bool, not, List, ◌++◌, ℕ, ◌+◌, leb, eqb, length, take, drop}
use Rattle.refusal.specs.declared.Refusal.{Refusal}
use Rattle.refusal.specs.declared.Refusal.TheVariants as refusal
use Rattle.le.specs.Choice.{pick, both}
use Rattle.le.specs.Le.{le_bytes, field, whole_field, put, store}
use Rattle.le.specs.Answers.{stored_of}
use Rattle.page.specs.Page.{page_size}
use Rattle.checksum.specs.Checksum.{sum_from}
use Rattle.frame.specs.declared.FrameHeader.{FrameHeader}

-- heading and body
abbrev pub frame_size : ℕ
frame_size = 4112

-- ---- writing

-- the 12 bytes before the checksum
unfoldable pub heading : ℕ → ℕ → ℕ → List ℕ
heading page count salt = le_bytes 4 page ++ (le_bytes 4 count ++ le_bytes 4 salt)

-- its checksum: "start at 0; for each of 12 heading bytes, then 4,096 body bytes .."
unfoldable pub frame_sum : ℕ → ℕ → ℕ → List ℕ → ℕ
frame_sum page count salt body = sum_from 0 (heading page count salt ++ body)

-- the whole frame
unfoldable pub encode_frame : ℕ → ℕ → ℕ → List ℕ → List ℕ
encode_frame page count salt body = heading page count salt ++ (le_bytes 4 (frame_sum page count salt body) ++ body)

-- ---- reading: f is the bytes of a frame

-- the bytes of the frame at `at`
abbrev pub frame_at : ℕ → List ℕ → List ℕ
frame_at at l = take frame_size (drop at l)

-- its heading; of less than a frame, a field that is not wholly there is 0
unfoldable pub frame_header : List ℕ → FrameHeader
frame_header f =
    record {
      page_num = whole_field 4 0 f;
      commit_page_count = whole_field 4 4 f;
      salt = whole_field 4 8 f;
      checksum = whole_field 4 12 f;
    }

unfoldable pub body_of : List ℕ → List ℕ
body_of f = drop 16 f

-- what the checksum of those bytes is
unfoldable pub checksum_of : List ℕ → ℕ
checksum_of f = sum_from 0 (take 12 f ++ drop 16 f)

-- "A nonzero commit count seals"
abbrev pub is_commit : FrameHeader → Bool
is_commit h = not (eqb h.commit_page_count 0)

-- "salt and checksum agree"
unfoldable pub intact : ℕ → List ℕ → Bool
intact salt f = both (eqb (field 4 8 f) salt) (eqb (field 4 12 f) (checksum_of f))

-- a good frame but for a batch's body, which the log judges: "wholly inside the length, salt and checksum agree"
unfoldable pub intact_at : List ℕ → ℕ → ℕ → Bool
intact_at l at salt = both (leb (at + frame_size) (length l)) (intact salt (frame_at at l))

-- ---- storing

-- the page behind the heading's place becomes a frame where that fits; otherwise refusal 1, and the log stays as it was
unfoldable pub heading_after : List ℕ → ℕ → ℕ → ℕ → ℕ → List ℕ
heading_after l at page count salt =
    pick (leb (at + frame_size) (length l)) (put l at (encode_frame page count salt (body_of (frame_at at l)))) l

-- a frame is stored where its body has a page's length and it fits; otherwise refusal 1, and the log stays as it was
abbrev pub frame_stored : List ℕ → ℕ → List ℕ → Result (Unit {0}) Refusal
frame_stored l at body = pick (eqb (length body) page_size) (stored_of l at frame_size) (Err refusal.Area)

unfoldable pub frame_after : List ℕ → ℕ → ℕ → ℕ → ℕ → List ℕ → List ℕ
frame_after l at page count salt body = pick (eqb (length body) page_size) (store l at (encode_frame page count salt body)) l
