-- What appending a batch answers and leaves: "A batch is appended as `encode` writes it, unsealed and with no flush; a body
-- lent for it is decoded first, with decoding's refusals".
use Rattle.std.specs.Prelude.{Option, Err, Ok, Result, Bool, List, ℕ, leb, eqb, length}
use Rattle.le.specs.Choice.{pick, both}
use Rattle.le.specs.Le.{put}
use Rattle.page.specs.Page.{page_size}
use Rattle.refusal.specs.Refusal.{unless, first, accepts, answered}
use Rattle.refusal.specs.declared.Refusal.{Refusal}
use Rattle.refusal.specs.declared.Refusal.TheVariants as refusal
use Rattle.frame.specs.Frame.{encode_frame}
use Rattle.mvcc.specs.Seen.{heading_refusal, decode_refusal, canonical}
use Rattle.wal.specs.Recovery.{batch_page, wal_area}
use Rattle.wal.specs.Write.{with_frame, has_room}
use Rattle.wal.specs.declared.Wal.{Wal}

-- the log's area, a length within it, and a body no longer than a page
abbrev pub lent : List ℕ → Wal → List ℕ → Bool
lent l w s = both (eqb (length l) wal_area) (both (leb w.len wal_area) (leb (length s) page_size))

-- "Lowest number first": 1; 2, 3; 15; 17 to 19
unfoldable pub batch_refusal : List ℕ → Wal → List ℕ → Option Refusal
batch_refusal l w s =
    unless (lent l w s) refusal.Area
    (first (heading_refusal s)
    (unless (has_room w) refusal.LogFull (decode_refusal s)))

unfoldable pub batch_answer : List ℕ → Wal → List ℕ → Result Wal Refusal
batch_answer l w s = answered Err (Ok (with_frame w 0)) (batch_refusal l w s)

-- "as `encode` writes it, unsealed", at the log's length; a refusal leaves the log as it was
unfoldable pub batch_after : List ℕ → Wal → List ℕ → List ℕ
batch_after l w s =
    pick (accepts (batch_refusal l w s)) (put l w.len (encode_frame batch_page 0 w.header.salt (canonical s))) l
