-- What is read of an open log: a page's bytes and their place, the next batch, the frame at an index.
use Rattle.std.specs.Prelude.{None, Option, Some, ℕ, ◌+◌, List, [], ◌∷◌, length, take, drop, ◌==◌, nat_lt, slice_index_or}
use Rattle.le.specs.Choice.{pick}
use Rattle.frame.specs.Frame.{frame_header, body_of}
use Rattle.page.specs.Page.{page_size}
use Rattle.wal.specs.Recovery.{chunks, chunk_at, page_of, batch_page, is_batch, page_in}
use Rattle.wal.specs.declared.BatchAt.{BatchAt}
use Rattle.wal.specs.declared.FrameAt.{FrameAt}

-- the chunks within the first `end` bytes; for an open log's commit point, its committed frames
abbrev pub committed_chunks : ℕ → List ℕ → List (List ℕ)
committed_chunks end l = chunks (take end l)

-- "Per page the last sealed frame counts": the page's bytes, or none; a batch is no page
unfoldable pub read_log_page : List ℕ → ℕ → ℕ → List ℕ
read_log_page l end p = pick (p == batch_page) [] (body_of (page_in p (committed_chunks end l)))

-- "page number, commit count, salt, checksum (4 each), body": where the body of the chunk at an index begins
abbrev pub body_at : ℕ → ℕ
body_at i = chunk_at i + 16

-- the place in one frame, unless a later frame has the page
abbrev pub unless_later : Option ℕ → Option ℕ → Option ℕ
unless_later None here = here
unless_later (Some at) here = Some at

-- the place of a page's bytes among some frames, of which the first has index i: in the last that is the page's
unfoldable pub page_place_from : ℕ → ℕ → List (List ℕ) → Option ℕ
page_place_from p i [] = None
page_place_from p i (f ∷ fs) =
    let later = page_place_from p (i + 1) fs in
    unless_later later (pick (page_of f == p) (Some (body_at i)) None)

-- "Per page the last sealed frame counts": the place of the page's bytes, or none; a batch is no page
unfoldable pub find_log_page : List ℕ → ℕ → ℕ → Option ℕ
find_log_page l end p = pick (p == batch_page) None (page_place_from p 0 (committed_chunks end l))

-- the page at a place
abbrev pub page_at : List ℕ → Option ℕ → List ℕ
page_at l (Some at) = take page_size (drop at l)
page_at l None = []

-- the chunk at an index, with its place, good or not
unfoldable pub frame_in : List ℕ → ℕ → Option FrameAt
frame_in l i = pick (nat_lt i (length (chunks l))) (Some (record { offset = chunk_at i; header = frame_header (slice_index_or (chunks l) i []) })) None

-- the first batch of some frames, of which the first has index i
unfoldable pub batch_from : ℕ → List (List ℕ) → Option BatchAt
batch_from i [] = None
batch_from i (f ∷ fs) =
    let later = batch_from (i + 1) fs in
    pick (is_batch f) (Some (record { index = i; offset = chunk_at i })) later

-- "batches come in log order": the first at or behind an index
unfoldable pub next_batch : List ℕ → ℕ → ℕ → Option BatchAt
next_batch l end i = batch_from i (drop i (committed_chunks end l))
