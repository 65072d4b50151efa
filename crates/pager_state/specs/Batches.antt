-- Batches: appending one, and walking those that the opening found.
use Rattle.std.specs.Prelude.{Option, Err, Ok, Result, not, List, ℕ, leb, length}
use Rattle.le.specs.Choice.{pick, both}
use Rattle.le.specs.Le.{put}
use Rattle.page.specs.Page.{page_size}
use Rattle.frame.specs.Frame.{encode_frame}
use Rattle.refusal.specs.Refusal.{unless, first, accepts, answered}
use Rattle.refusal.specs.declared.Refusal.{Refusal}
use Rattle.refusal.specs.declared.Refusal.TheVariants as refusal
use Rattle.mvcc.specs.Seen.{decode_refusal, heading_refusal, canonical}
use Rattle.wal.specs.Recovery.{batch_page}
use Rattle.wal.specs.Read.{next_batch}
use Rattle.wal.specs.Write.{has_room, with_frame}
use Rattle.wal.specs.declared.BatchAt.{BatchAt}
use Rattle.pager_state.specs.World.{log_fine, busy, busy_refusal, read_only, with_wal}
use Rattle.pager_state.specs.declared.Pager.{Pager}
use Rattle.pager_state.specs.declared.Outcome.{Outcome}

-- ---- appending: "a body lent for it is decoded first, with decoding's refusals"

-- "lowest number first": 1; 2 and 3 of the heading; 9; 10; 15; 17 to 19
unfoldable pub append_refusal : Pager → List ℕ → List ℕ → Option Refusal
append_refusal p l body =
    unless (both (log_fine p.wal.len l) (leb (length body) page_size)) refusal.Area
    (first (heading_refusal body)
    (unless (not (busy p)) refusal.Busy
    (unless (not (read_only p)) refusal.ReadOnly
    (unless (has_room p.wal) refusal.LogFull (decode_refusal body)))))

-- "A batch is appended as `encode` writes it, unsealed": its frame
unfoldable pub batch_frame : Pager → List ℕ → List ℕ
batch_frame p body = encode_frame batch_page 0 p.wal.header.salt (canonical body)

unfoldable pub append_batch : Pager → List ℕ → List ℕ → Outcome (Unit {0})
append_batch p l body =
    let refused = append_refusal p l body in
    record { answer = answered Err (Ok tt) refused; pager = pick (accepts refused) (with_wal p (with_frame p.wal 0)) p }

-- the log's later bytes
unfoldable pub append_after : Pager → List ℕ → List ℕ → List ℕ
append_after p l body = pick (accepts (append_refusal p l body)) (put l p.wal.len (batch_frame p body)) l

-- ---- the batches that the opening found, "in log order"

-- refusals 1 and 9
unfoldable pub recovered_refusal : Pager → List ℕ → Option Refusal
recovered_refusal p l = unless (log_fine p.wal.len l) refusal.Area (busy_refusal p)

-- the first at a frame's index or behind it
unfoldable pub next_recovered : Pager → List ℕ → ℕ → Result (Option BatchAt) Refusal
next_recovered p l i = answered Err (Ok (next_batch l p.recovered i)) (recovered_refusal p l)
