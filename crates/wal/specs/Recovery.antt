-- What reading a log finds: document 01's line on `wal.rs`, from "Frames stand at" to "a final undecodable batch frame".
-- A frame is the list of its 4,112 bytes.
use Rattle.std.specs.Prelude.{Err, None, Ok, Option, Result, Some, ℕ, zero, suc, ◌+◌, ◌*◌, ◌/◌, Bool, true, false, List, [], ◌∷◌, length, take, drop, ◌==◌, nat_le}
use mathlib.Core.List.{foldl}
use Rattle.le.specs.Choice.{pick, both}
use Rattle.frame.specs.Frame.{frame_size, frame_at, frame_header, body_of, is_commit, intact, intact_at}
use Rattle.mvcc.specs.Seen.{decodes}
use Rattle.refusal.specs.declared.Refusal.TheVariants as refusal
use Rattle.refusal.specs.declared.Refusal.{Refusal}
use Rattle.wal.specs.Header.{header_size, wal_header_in, decode_wal_header}
use Rattle.wal.specs.declared.WalHeader.{WalHeader}
use Rattle.wal.specs.declared.Wal.{Wal}

-- ---- frames by their places

-- the first n runs of a frame's size
unfoldable pub runs : ℕ → List ℕ → List (List ℕ)
runs zero l = []
runs (suc n) l = take frame_size l ∷ runs n (drop frame_size l)

-- all runs that lie wholly inside l
unfoldable pub whole_runs : List ℕ → List (List ℕ)
whole_runs l = runs (length l / frame_size) l

-- "Frames stand at 32 + 4,112 × i", "wholly inside the length"
unfoldable pub chunks : List ℕ → List (List ℕ)
chunks l = whole_runs (drop header_size l)

-- the place of the chunk at an index
abbrev pub chunk_at : ℕ → ℕ
chunk_at i = header_size + frame_size * i

-- ---- one frame

abbrev pub page_of : List ℕ → ℕ
page_of f = (frame_header f).page_num

abbrev pub commit_count : List ℕ → ℕ
commit_count f = (frame_header f).commit_page_count

-- "A nonzero commit count seals"
abbrev pub is_commit_frame : List ℕ → Bool
is_commit_frame f = is_commit (frame_header f)

-- "page 4294967295 (a batch)"
abbrev pub batch_page : ℕ
batch_page = 4294967295

abbrev pub is_batch : List ℕ → Bool
is_batch f = page_of f == batch_page

-- "for page 4294967295 (a batch), the body decodes"
abbrev pub readable_as : ℕ → List ℕ → Bool
readable_as page body = pick (page == batch_page) (decodes body) true

abbrev pub readable : List ℕ → Bool
readable f = readable_as (page_of f) (body_of f)

-- "A frame is good if wholly inside the length, salt and checksum agree and, for page 4294967295 (a batch), the body decodes"
unfoldable pub good : ℕ → List ℕ → Bool
good salt f = both (intact salt f) (readable f)

-- the same at a place of the log
unfoldable pub good_at : List ℕ → ℕ → ℕ → Bool
good_at l at salt = both (intact_at l at salt) (readable (frame_at at l))

-- ---- lists of frames

-- "Reading stops at the first frame that isn't"
unfoldable pub good_front : ℕ → List (List ℕ) → List (List ℕ)
good_front salt [] = []
good_front salt (f ∷ fs) =
    let rest = good_front salt fs in
    pick (good salt f) (f ∷ rest) []

-- whether it stops at "a final undecodable batch frame": one that isn't good although salt and checksum agree
unfoldable pub undecodable : ℕ → List (List ℕ) → Bool
undecodable salt [] = false
undecodable salt (f ∷ fs) =
    let rest = undecodable salt fs in
    pick (good salt f) rest (intact salt f)

-- f before some committed frames; where there are none, f if it commits
abbrev pub committed_from : List ℕ → List (List ℕ) → List (List ℕ)
committed_from f [] = pick (is_commit_frame f) (f ∷ []) []
committed_from f (g ∷ gs) = f ∷ g ∷ gs

-- the longest front part that ends in a commit frame
unfoldable pub committed : List (List ℕ) → List (List ℕ)
committed [] = []
committed (f ∷ fs) = committed_from f (committed fs)

-- the commit count of the last frame
unfoldable pub last_count : List (List ℕ) → Option ℕ
last_count fs = foldl (λ (found : Option ℕ) (f : List ℕ). Some (commit_count f)) None fs

-- "Per page the last sealed frame counts": the last frame of the page, or no byte
unfoldable pub page_in : ℕ → List (List ℕ) → List ℕ
page_in p fs = foldl (λ (found f : List ℕ). pick (page_of f == p) f found) [] fs

-- "batches come in log order"
unfoldable pub batches_in : List (List ℕ) → List (List ℕ)
batches_in [] = []
batches_in (f ∷ fs) =
    let rest = batches_in fs in
    pick (is_batch f) (f ∷ rest) rest

-- ---- a whole log

-- all that reading finds: the header, the good frames, and whether an undecodable batch ended it
pub record Recovered : Type 0 where
  pub header : WalHeader
  pub frames : List (List ℕ)
  pub stopped : Bool

unfoldable pub recovered : List ℕ → Recovered
recovered l =
    let salt = (wal_header_in l).salt in
    record { header = wal_header_in l; frames = good_front salt (chunks l); stopped = undecodable salt (chunks l) }

abbrev pub committed_frames : Recovered → List (List ℕ)
committed_frames r = committed r.frames

-- where the good frames end
abbrev pub good_end_of : Recovered → ℕ
good_end_of r = chunk_at (length r.frames)

-- "The commit point is the end of the last seal, else 32"
abbrev pub commit_point : Recovered → ℕ
commit_point r = chunk_at (length (committed_frames r))

-- the last commit frame's count, or none
abbrev pub last_commit_of : Recovered → Option ℕ
last_commit_of r = last_count (committed_frames r)

-- "The frame count includes an unsealed good frame and a final undecodable batch frame"
abbrev pub frame_count_of : Recovered → ℕ
frame_count_of r = length r.frames + pick r.stopped 1 0

-- ---- opening

-- what an open log of a length holds
unfoldable pub wal_of : ℕ → Recovered → Wal
wal_of n r =
    record {
      header = r.header;
      len = n;
      good_end = good_end_of r;
      last_commit_offset = commit_point r;
      last_commit_page_count = last_commit_of r;
      frame_count = frame_count_of r;
    }

-- "Log area 4,210,720 bytes (1,024 frames)"
abbrev pub wal_area : ℕ
wal_area = 4210720

-- the header's refusals, else the log
abbrev pub opened_by : Result WalHeader Refusal → Wal → Result Wal Refusal
opened_by (Ok h) w = Ok w
opened_by (Err r) w = Err r

-- "a log read without the pager may be any bytes up to the log area's length": longer is refusal 1, then come the header's
unfoldable pub open_log : List ℕ → Result Wal Refusal
open_log l = pick (nat_le (length l) wal_area) (opened_by (decode_wal_header l) (wal_of (length l) (recovered l))) (Err refusal.Area)
