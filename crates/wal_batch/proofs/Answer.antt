-- What the answer of appending a batch says, and that it is an append of a frame. Assumes nothing.
use mathlib.Core.Path.{◌≡◌}
use mathlib.Core.Bool.{true}
use mathlib.Core.List.{List}
use Prim.Native.Nat.{ℕ, ◌+◌, ◌≤◌}
use native.Mathlib.Omega.{arith}
use borrow.Author.Tests.{eq-eqb, eqb-true, le-leb, leb-true}
use lib.Dec.{eqb, leb}
use lib.ListN.{length}
use Rattle.std.specs.Prelude.{Err, Ok}
use Rattle.le.specs.Choice.{both}
use Rattle.le.specs.Le.{Bytes, put}
use Rattle.le.proofs.Compare.{both_true}
use Rattle.refusal.specs.declared.Refusal.TheVariants as refusal
use Rattle.refusal.proofs.Judged.{met, resulted, first-none}
use Rattle.mvcc.specs.Seen.{heading_refusal, decodes, canonical}
use Rattle.mvcc.proofs.Canonical.{decodes-none, none-decodes, canonical-decodes}
use Rattle.mvcc.proofs.Heading.{decodes-heading}
use Rattle.wal.specs.Write.{with_frame, has_room, append_frame_answer, append_frame_after}
use Rattle.wal.specs.Reached.{Reached, by_append}
use Rattle.wal.specs.declared.Wal.{Wal}
use Rattle.wal_batch.specs.Batch.{lent, batch_refusal, batch_answer, batch_after}
use Rattle.wal_batch.proofs.Frame.{batch_frame, canonical-page}

-- ---- where no refusal comes

pub record Done (l : List ℕ) (w : Wal) (s : List ℕ) (v : Wal) : Type 0 where
  pub area : length l ≡ 4210720
  pub small : length s ≤ 4096
  pub room : w.len + 4112 ≤ 4210720
  pub decoded : decodes s ≡ true
  pub is : v ≡ with_frame w 0
  pub bytes : batch_after l w s ≡ put l w.len (batch_frame w.header.salt s)

module _ (l : List ℕ) (w : Wal) (s : List ℕ) where
  pub batch-done : (v : Wal) → batch_answer l w s ≡ Ok v → Done l w s v
  unfolding batch_answer batch_after batch_refusal
  batch-done v e =
      let p = resulted Err (Ok (with_frame w 0)) (Ok v) (λ r f. let z : ◌≡◌ {A = ℕ} 0 1 = cc in absurd (omega arith)) (batch_refusal l w s) e in
      let t = met (lent l w s) refusal.Area _ p.0 in
      let h = first-none (heading_refusal s) _ t.1 in
      let m = met (has_room w) refusal.LogFull _ h.1 in
      let a = both_true (eqb (length l) 4210720) (both (leb w.len 4210720) (leb (length s) 4096)) t.0 in
      let b = both_true (leb w.len 4210720) (leb (length s) 4096) a.1 in
      let k : Ok (with_frame w 0) ≡ Ok v = p.1 in
      record {
        area = eqb-true _ _ a.0;
        small = leb-true _ _ b.1;
        room = leb-true _ _ m.0;
        decoded = none-decodes s m.1;
        is = cc;
        bytes = rw (t.0, h.0, m.0, m.1);
      }

  module _ (v : Wal) (sb : Bytes s) (e : batch_answer l w s ≡ Ok v) where
    abbrev done : Done l w s v
    done = batch-done v e

    paged : length (canonical s) ≡ 4096
    paged = canonical-page s (record { bytes = sb; small = done.small; decoded = done.decoded })

    -- it is an append of a frame: of page 4294967295, the canonical form, uncommitted
    pub batch-append : append_frame_answer l w 4294967295 (canonical s) 0 ≡ Ok v
    unfolding append_frame_answer
    batch-append =
        let n : w.len ≤ 4210720 = omega (arith, done.room) in
        rw (eq-eqb _ _ paged, eq-eqb _ _ done.area, le-leb _ _ n, le-leb _ _ done.room, canonical-decodes s sb done.decoded, done.is)

    pub batch-stored : append_frame_after l w 4294967295 (canonical s) 0 ≡ batch_after l w s
    unfolding append_frame_after
    batch-stored =
        let n : w.len ≤ 4210720 = omega (arith, done.room) in
        rw (done.bytes, eq-eqb _ _ paged, eq-eqb _ _ done.area, le-leb _ _ n, le-leb _ _ done.room)

    -- .. so all that holds of a log after any calls holds after it too
    pub batch-reached : Reached l w → Reached (batch_after l w s) v
    batch-reached r = rw (← batch-stored) (by_append 4294967295 (canonical s) 0 (omega arith) (omega arith) r batch-append)

-- a body that decodes is appended where there is room
pub batch-taken : (l : List ℕ) (w : Wal) (s : List ℕ) → length l ≡ 4210720 → length s ≤ 4096 → w.len + 4112 ≤ 4210720 → decodes s ≡ true
    → batch_answer l w s ≡ Ok (with_frame w 0)
unfolding batch_answer batch_refusal
batch-taken l w s nl ns room d =
    let n : w.len ≤ 4210720 = omega arith in
    rw (eq-eqb _ _ nl, le-leb _ _ n, le-leb _ _ ns, le-leb _ _ room, decodes-heading s d, decodes-none s d)
