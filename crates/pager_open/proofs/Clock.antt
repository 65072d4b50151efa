-- The greatest commit time of a log's batches, found frame by frame. Assumes nothing.
use mathlib.Core.Path.{◌≡◌, refl, sym, ap, ◌∙◌}
use mathlib.Core.Bool.{Bool, true, false}
use mathlib.Core.List.{List, [], ◌∷◌, ◌++◌, map, append-nil, map-append}
use Prim.Native.Nat.{ℕ, ◌+◌, ◌-◌, ◌/◌, max, ◌≤◌, ◌<◌}
use native.Mathlib.Omega.{arith}
use borrow.Author.Tests.{le-leb}
use lib.Dec.{leb}
use lib.ListN.{length, take}
use Rattle.le.specs.Choice.{pick}
use Rattle.frame.specs.Frame.{frame_at, body_of}
use Rattle.mvcc.specs.Seen.{commit_ts_of}
use Rattle.wal.specs.Recovery.{chunks, chunk_at, is_batch, batches_in}
use Rattle.wal.proofs.Frames.{batches_in-append}
use Rattle.pager_state.specs.Opening.{commit_times, greatest}
use Rattle.pager_open.specs.Judging.{time_of}
use Rattle.pager_open.proofs.Front.{front-more}
use Rattle.pager_open.proofs.Found.{length-frame}

-- ---- one frame more

greatest-snoc : (ts : List ℕ) (t : ℕ) → greatest (ts ++ (t ∷ [])) ≡ max (greatest ts) t
unfolding greatest
greatest-snoc [] t = omega arith
greatest-snoc (x ∷ ts) t = rw (greatest-snoc ts t) (omega arith)

module _ (fs : List (List ℕ)) (f : List ℕ) where
  times-append : commit_times (fs ++ (f ∷ [])) ≡ commit_times fs ++ commit_times (f ∷ [])
  times-append = ap (map (λ (x : List ℕ). commit_ts_of (body_of x))) (batches_in-append fs (f ∷ [])) ∙ map-append _ (batches_in fs) (batches_in (f ∷ []))

  by : (b : Bool) → is_batch f ≡ b → greatest (commit_times fs ++ commit_times (f ∷ [])) ≡ max (greatest (commit_times fs)) (pick b (commit_ts_of (body_of f)) 0)
  unfolding batches_in
  by true e = rw e (greatest-snoc (commit_times fs) (commit_ts_of (body_of f)))
  by false e = rw (e, append-nil (commit_times fs)) (omega arith)

  greatest-more : greatest (commit_times (fs ++ (f ∷ []))) ≡ max (greatest (commit_times fs)) (time_of f)
  greatest-more = rw times-append (by (is_batch f) refl)

-- ---- a log's frames

abbrev pub greatest_in : List (List ℕ) → ℕ
greatest_in fs = greatest (commit_times fs)

pub none-greatest : 0 ≡ greatest_in []
unfolding greatest batches_in
none-greatest = refl

pub greatest-on : (l : List ℕ) (t i : ℕ) {u : ℕ} → t ≡ greatest_in (take i (chunks l)) → i < (length l - 32) / 4112 → u ≡ max t (time_of (frame_at (chunk_at i) l))
    → u ≡ greatest_in (take (i + 1) (chunks l))
greatest-on l t i e h f = f ∙ rw (e, front-more l i h) (sym (greatest-more (take i (chunks l)) (frame_at (chunk_at i) l)))

-- a frame that is wholly there has its body's time
pub time-there : (l : List ℕ) (at : ℕ) {t : ℕ} → at + 4112 ≤ length l → is_batch (frame_at at l) ≡ true
    → t ≡ pick (leb 16 (length (body_of (frame_at at l)))) (commit_ts_of (body_of (frame_at at l))) 0 → t ≡ time_of (frame_at at l)
time-there l at h b e =
    let k : 16 ≤ length (body_of (frame_at at l)) = omega (arith, length-frame at l h) in
    e ∙ rw (le-leb 16 (length (body_of (frame_at at l))) k, b)
