-- The chunks of a log by their places. Assumes nothing.
use Rattle.std.proofs.Common.{◌≡◌, ℕ, zero, suc, ◌+◌, ◌-◌, ◌*◌, ◌/◌, ◌<◌, ◌≤◌, List, [], ◌∷◌, ◌++◌, length, get_or, take, drop, sym, refl, ap, ◌∙◌, suc-add, zero-add, arith, length-append, length-drop, length-take, take_all, drop-cons, take-suc, take-take, drop-drop}
use lib.Seq.{take-append-le, drop-append-le}
use Rattle.le.proofs.Fields.{drop-take}
use Rattle.frame.specs.Frame.{frame_at}
use Rattle.wal.specs.Recovery.{runs, whole_runs, chunks, chunk_at}

-- ---- runs

pub length_runs : (n : ℕ) (l : List ℕ) → length (runs n l) ≡ n
unfolding runs
length_runs zero l = refl
length_runs (suc n) l = ap suc (length_runs n (drop 4112 l))

drop-runs : (i n : ℕ) (l : List ℕ) → drop i (runs n l) ≡ runs (n - i) (drop (4112 * i) l)
unfolding runs
drop-runs zero n l = let e : n - 0 ≡ n = omega arith in rw e
drop-runs (suc i) zero l = let e : 0 - suc i ≡ 0 = omega arith in rw e
drop-runs (suc i) (suc n) l =
    let e : suc n - suc i ≡ n - i = omega arith in
    let m : 4112 * suc i ≡ 4112 + 4112 * i = omega arith in
    drop-runs i n (drop 4112 l) ∙ rw (drop-drop (4112 * i) 4112 l, e, m)

pub take_runs : (k n : ℕ) (l : List ℕ) → k ≤ n → take k (runs n l) ≡ runs k l
unfolding runs
take_runs zero n l h = refl
take_runs (suc k) zero l h = absurd (omega arith)
take_runs (suc k) (suc n) l h = rw (take_runs k n (drop 4112 l) (omega arith))

runs-take : (k m : ℕ) (l : List ℕ) → 4112 * k ≤ m → runs k (take m l) ≡ runs k l
unfolding runs
runs-take zero m l h = refl
runs-take (suc k) m l h =
    let t : take 4112 (take m l) ≡ take 4112 l = take-take 4112 m l (omega arith) in
    let e : 4112 + (m - 4112) ≡ m = omega arith in
    let d : drop 4112 (take m l) ≡ take (m - 4112) (drop 4112 l) = rw e at (drop-take 4112 (m - 4112) l) in
    rw (t, d, runs-take k (m - 4112) (drop 4112 l) (omega arith))

runs_append : (n m : ℕ) (l t : List ℕ) → length l ≡ 4112 * n → runs (n + m) (l ++ t) ≡ runs n l ++ runs m t
unfolding runs
runs_append zero m [] t e = rw zero-add
runs_append zero m (x ∷ l) t e = absurd (omega arith)
runs_append (suc n) m l t e =
    let k : 4112 ≤ length l = omega arith in
    let i : length (drop 4112 l) ≡ 4112 * n = simp length-drop (omega arith) in
    rw (suc-add, take-append-le 4112 l t k, drop-append-le 4112 l t k)
    (ap (λ (r : List (List ℕ)). take 4112 l ∷ r) (runs_append n m (drop 4112 l) t i))

-- ---- the runs inside some bytes

-- fewer bytes than a frame's hold none
pub runs-short : (t : List ℕ) → length t < 4112 → whole_runs t ≡ []
unfolding whole_runs runs
runs-short t h = let e : length t / 4112 ≡ 0 = omega arith in rw e

pub runs-front : (t : List ℕ) → 4112 ≤ length t → whole_runs t ≡ take 4112 t ∷ whole_runs (drop 4112 t)
unfolding whole_runs runs
runs-front t h =
    let e : length t / 4112 ≡ suc ((length t - 4112) / 4112) = omega arith in
    rw (e, length-drop)

pub runs-one : (f : List ℕ) → length f ≡ 4112 → whole_runs f ≡ f ∷ []
unfolding whole_runs runs
runs-one f h = let e : length f / 4112 ≡ 1 = omega arith in rw (e, take_all 4112 f (omega arith))

-- ---- the chunks of a log

pub length-chunks : (l : List ℕ) → length (chunks l) ≡ (length l - 32) / 4112
unfolding chunks whole_runs
length-chunks l = rw (length_runs, length-drop)

-- behind whole chunks come the runs of what is appended
pub chunks-append : (n : ℕ) (l t : List ℕ) → length l ≡ 32 + 4112 * n → chunks (l ++ t) ≡ chunks l ++ whole_runs t
unfolding chunks whole_runs
chunks-append n l t e =
    let k : 32 ≤ length l = omega arith in
    let d : length (drop 32 l) ≡ 4112 * n = simp length-drop (omega arith) in
    let a : length (drop 32 l ++ t) / 4112 ≡ n + length t / 4112 = simp length-append (omega arith) in
    let b : length (drop 32 l) / 4112 ≡ n = omega arith in
    rw (drop-append-le 32 l t k, a, b) (runs_append n (length t / 4112) (drop 32 l) t d)

-- the chunks of a log cut behind k of them
pub chunks-cut : (k : ℕ) (l : List ℕ) → k ≤ length (chunks l) → chunks (take (chunk_at k) l) ≡ take k (chunks l)
unfolding chunks whole_runs
chunks-cut k l h =
    let n : k ≤ (length l - 32) / 4112 = rw (length-chunks l) at h in
    let a : length (drop 32 (take (32 + 4112 * k) l)) / 4112 ≡ k = simp (length-drop, length-take) (omega arith) in
    let b : k ≤ length (drop 32 l) / 4112 = rw length-drop n in
    rw (a, drop-take 32 (4112 * k) l, runs-take k (4112 * k) (drop 32 l) (omega arith), take_runs k (length (drop 32 l) / 4112) (drop 32 l) b)

chunks-from : (i : ℕ) (l : List ℕ) → drop i (chunks l) ≡ runs ((length l - 32) / 4112 - i) (drop (chunk_at i) l)
unfolding chunks whole_runs
chunks-from i l = rw (drop-runs, length-drop, drop-drop)

module _ (i : ℕ) (l : List ℕ) where
  -- no chunk stands at an index
  pub chunk-gone : length l < chunk_at i + 4112 → drop i (chunks l) ≡ []
  unfolding runs
  chunk-gone h =
      let e : (length l - 32) / 4112 - i ≡ 0 = omega arith in
      rw (chunks-from i l, e)

  -- one stands there
  pub chunk-there : chunk_at i + 4112 ≤ length l → drop i (chunks l) ≡ frame_at (chunk_at i) l ∷ drop (suc i) (chunks l)
  unfolding runs
  chunk-there h =
      let e : (length l - 32) / 4112 - i ≡ suc ((length l - 32) / 4112 - suc i) = omega arith in
      let m : 32 + 4112 * suc i ≡ 32 + 4112 * i + 4112 = omega arith in
      let b : drop (suc i) (chunks l) ≡ runs ((length l - 32) / 4112 - suc i) (drop (32 + 4112 * i + 4112) l) = rw m at (chunks-from (suc i) l) in
      rw (chunks-from i l, e, b, drop-drop)

  chunk-fits : chunk_at i + 4112 ≤ length l → i < length (chunks l)
  chunk-fits h = rw length-chunks (omega arith)

  pub get-chunk : chunk_at i + 4112 ≤ length l → get_or (chunks l) i [] ≡ frame_at (chunk_at i) l
  get-chunk h =
      let a : get_or (chunks l) i [] ∷ drop (suc i) (chunks l) ≡ frame_at (chunk_at i) l ∷ drop (suc i) (chunks l) =
      sym (drop-cons (chunks l) i [] (chunk-fits h)) ∙ chunk-there h in
      cc

  pub take_chunk : chunk_at i + 4112 ≤ length l → take (suc i) (chunks l) ≡ take i (chunks l) ++ (frame_at (chunk_at i) l ∷ [])
  take_chunk h = rw (take-suc (chunks l) i [] (chunk-fits h), get-chunk h)
