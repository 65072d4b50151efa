-- Each way that appending a batch to the open store can end.
use mathlib.Core.Path.{◌≡◌, refl, ◌∙◌}
use mathlib.Core.Bool.{Bool, true, false}
use mathlib.Core.List.{List}
use Prim.Native.Nat.{ℕ}
use native.Mathlib.Omega.{arith}
use lib.Dec.{leb, eqb}
use lib.ListN.{length}
use Rattle.std.specs.Prelude.{Option, None, Some, Ok, Err}
use Rattle.le.specs.Choice.{pick, both}
use Rattle.page.specs.Page.{page_size}
use Rattle.refusal.specs.Refusal.{unless, first, answered}
use Rattle.refusal.specs.declared.Refusal.{Refusal}
use Rattle.refusal.specs.declared.Refusal.TheVariants as refusal
use Rattle.mvcc.specs.Seen.{heading_refusal}
use Rattle.wal.specs.Recovery.{wal_area}
use Rattle.wal.specs.Write.{with_frame}
use Rattle.wal.specs.declared.Wal.{Wal}
use Rattle.wal_batch.specs.Batch.{batch_refusal, batch_answer, batch_after}
use Rattle.pager_state.specs.World.{in_area, busy, read_only, with_wal}
use Rattle.pager_state.specs.Batches.{append_refusal, batch_frame, append_batch, append_after}
use Rattle.pager_state.specs.declared.Pager.{Pager}
use Rattle.pager_state.specs.declared.Outcome.{Outcome}
use Rattle.pager_stage.specs.Append.{refusal_or, lowest}

-- ---- judgements

-- 1, 2 and 3 before another
lowest_by : (t : Bool) (v rest : Option Refusal) (other : Refusal) → rest ≡ Some other
    → unless t refusal.Area (first v rest) ≡ Some (pick t (refusal_or v other) refusal.Area)
lowest_by true None rest other e = e
lowest_by true (Some r) rest other e = refl
lowest_by false v rest other e = refl

-- the log's judgement and the store's go by the same tests
same_by : (l v s : Bool) (rest : Option Refusal) → unless (both (both l v) s) refusal.Area rest ≡ unless (both l (both v s)) refusal.Area rest
same_by true v s rest = refl
same_by false v s rest = refl

-- the log's answer tells its judgement
refused-as : (u : Wal) (v : Option Refusal) (r : Refusal) → answered Err (Ok u) v ≡ Err r → v ≡ Some r
refused-as u None r e = absurd (let z : ◌≡◌ {A = ℕ} 0 1 = cc in omega arith)
refused-as u (Some k) r e = let q : k ≡ r = cc in rw q

appended-as : (u w : Wal) (v : Option Refusal) → answered Err (Ok u) v ≡ Ok w → (v ≡ None) × (w ≡ u)
appended-as u w None e = (refl, cc)
appended-as u w (Some k) e = absurd (let z : ◌≡◌ {A = ℕ} 0 1 = cc in omega arith)

-- ---- the ways

module _ (p : Pager) (l s : List ℕ) where
  abbrev pub Says : Outcome (Unit {0}) → List ℕ → Type 0
  Says r m = (r ≡ append_batch p l s) × (m ≡ append_after p l s)

  refused : (k : Refusal) {r : (Outcome (Unit {0}))} → append_refusal p l s ≡ Some k → r.answer ≡ Err k → r.pager ≡ p → Says r l
  unfolding append_batch append_after
  refused k e f h = (rw (e, ← h, ← f), rw e)

  pub way-busy : {r : (Outcome (Unit {0}))} → busy p ≡ true → r.answer ≡ Err (lowest (length l) p.wal.len s refusal.Busy) → r.pager ≡ p → Says r l
  unfolding append_refusal
  way-busy b = refused _ (lowest_by (both (in_area wal_area (length l) p.wal.len) (leb (length s) page_size)) (heading_refusal s) _ refusal.Busy (rw b))

  module _ (b : busy p ≡ false) where
    pub way-read-only : {r : (Outcome (Unit {0}))} → read_only p ≡ true → r.answer ≡ Err (lowest (length l) p.wal.len s refusal.ReadOnly)
        → r.pager ≡ p → Says r l
    unfolding append_refusal
    way-read-only o = refused _ (lowest_by (both (in_area wal_area (length l) p.wal.len) (leb (length s) page_size)) (heading_refusal s) _ refusal.ReadOnly (rw (b, o)))

    module _ (o : read_only p ≡ false) where
      same : append_refusal p l s ≡ batch_refusal l p.wal s
      unfolding append_refusal batch_refusal
      same = rw (b, o) (same_by (eqb (length l) wal_area) (leb p.wal.len wal_area) (leb (length s) page_size) _)

      pub way-refused : (k : Refusal) {r : (Outcome (Unit {0}))} {m : List ℕ} → batch_answer l p.wal s ≡ Err k → m ≡ batch_after l p.wal s
          → r.answer ≡ Err k → r.pager ≡ p → Says r m
      unfolding batch_answer batch_after
      way-refused k {r} {m} e g f h =
          let v : batch_refusal l p.wal s ≡ Some k = refused-as (with_frame p.wal 0) (batch_refusal l p.wal s) k e in
          let n : m ≡ l = rw v at g in
          rw n (refused k (same ∙ v) f h)

      pub way-done : (v : Wal) {r : (Outcome (Unit {0}))} {m : List ℕ} → batch_answer l p.wal s ≡ Ok v → m ≡ batch_after l p.wal s
          → r.answer ≡ Ok tt → r.pager ≡ with_wal p v → Says r m
      unfolding append_batch append_after batch_frame batch_answer batch_after
      way-done v e g f h =
          let d = appended-as (with_frame p.wal 0) v (batch_refusal l p.wal s) e in
          let a : append_refusal p l s ≡ None = same ∙ d.0 in
          (rw (a, ← f, ← d.1, ← h), g ∙ rw (a, d.0))
