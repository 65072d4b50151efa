-- A log laid out: header, good frames, and a rest at whose front no good frame stands. Assumes nothing.
use Rattle.std.proofs.Common.{◌≡◌, ℕ, zero, suc, ◌+◌, ◌*◌, ◌/◌, ◌≤◌, Bool, true, false, List, [], ◌∷◌, ◌++◌, length, take, drop, sym, refl, ap, ◌∙◌, ⊎_elim, append_assoc, append-nil, arith, length-append, length-drop, take-append-drop, length-take, drop-drop, take_at, take-add, drop_at}
use borrow.Author.Tests.{lt-leb}
use Rattle.le.specs.Choice.{pick}
use Rattle.le.proofs.Tests.{le-or-lt}
use Rattle.frame.specs.Frame.{frame_at, intact_at}
use Rattle.wal.specs.Header.{wal_header_in}
use Rattle.wal.specs.Recovery.{runs, whole_runs, chunks, chunk_at, good, good_at, good_front, recovered}
use Rattle.wal.proofs.HeaderRoundTrip.{header-append}
use Rattle.wal.proofs.Places.{length-chunks, chunk-there, take_runs, runs-front}
use Rattle.wal.proofs.Frames.{good-append, undecodable-append}
use Rattle.wal.proofs.Recovered.{no_front, front-good, frames-front, frames-most}

-- frames side by side
unfoldable pub joined : List (List ℕ) → List ℕ
joined [] = []
joined (f ∷ fs) = f ++ joined fs

-- each of a frame's size
pub data Whole : List (List ℕ) → Type 0 where
  none : Whole []
  more : {f : List ℕ} {fs : List (List ℕ)} → length f ≡ 4112 → Whole fs → Whole (f ∷ fs)

pub joined-append : (fs gs : List (List ℕ)) → joined (fs ++ gs) ≡ joined fs ++ joined gs
unfolding joined
joined-append [] gs = refl
joined-append (f ∷ fs) gs = rw (joined-append fs gs, append_assoc)

pub length-joined : {fs : List (List ℕ)} → Whole fs → length (joined fs) ≡ 4112 * length fs
unfolding joined
length-joined none = refl
length-joined (more h w) = simp length-append (omega (arith, length-joined w))

pub whole_append : {fs gs : List (List ℕ)} → Whole fs → Whole gs → Whole (fs ++ gs)
whole_append none v = v
whole_append (more h w) v = more h (whole_append w v)

-- ---- from the layout to what is read

pub joined-runs : {fs : List (List ℕ)} (t : List ℕ) → Whole fs → whole_runs (joined fs ++ t) ≡ fs ++ whole_runs t
unfolding joined
joined-runs t none = refl
joined-runs t (more {f} {fs} h w) =
    let k : 4112 ≤ length (f ++ (joined fs ++ t)) = simp length-append (omega arith) in
    rw (append_assoc, runs-front (f ++ (joined fs ++ t)) k, take_at f (joined fs ++ t) 4112 h, drop_at f (joined fs ++ t) 4112 h, joined-runs t w)

module _ (head : List ℕ) (fs : List (List ℕ)) (t : List ℕ) (n : length head ≡ 32) (w : Whole fs) where
  laid-chunks : chunks (head ++ (joined fs ++ t)) ≡ fs ++ whole_runs t
  unfolding chunks
  laid-chunks = rw (drop_at head (joined fs ++ t) 32 n) (joined-runs t w)

  -- a log of that shape is read as those frames
  pub laid-recovered : good_front (wal_header_in head).salt fs ≡ fs → good_at t 0 (wal_header_in head).salt ≡ false
      → recovered (head ++ (joined fs ++ t)) ≡ record { header = wal_header_in head; frames = fs; stopped = intact_at t 0 (wal_header_in head).salt }
  unfolding recovered
  laid-recovered g b =
      let s : ℕ = (wal_header_in head).salt in
      let p = no_front s t b in
      rw (header-append head (joined fs ++ t) (omega arith), laid-chunks, good-append s fs (whole_runs t) g, undecodable-append s fs (whole_runs t) g, p.0, p.1, append-nil)

-- ---- and back: every log of 32 bytes or more has that shape

joined-front : (k : ℕ) (l : List ℕ) → 4112 * k ≤ length l → joined (runs k l) ≡ take (4112 * k) l
unfolding joined runs
joined-front zero l h = refl
joined-front (suc k) l h =
    let e : 4112 * suc k ≡ 4112 + 4112 * k = omega arith in
    let m : 4112 * k ≤ length (drop 4112 l) = rw length-drop (omega arith) in
    rw (joined-front k (drop 4112 l) m, e, take-add 4112 (4112 * k) l)

whole-runs : (k : ℕ) (l : List ℕ) → 4112 * k ≤ length l → Whole (runs k l)
unfolding runs
whole-runs zero l h = none
whole-runs (suc k) l h =
    let e : length (take 4112 l) ≡ 4112 = simp length-take (omega arith) in
    more e (whole-runs k (drop 4112 l) (rw length-drop (omega arith)))

-- the chunk behind the good front isn't good
stop-cons : (salt : ℕ) (f : List ℕ) (fs : List (List ℕ)) (b : Bool) → good salt f ≡ b → (g : List ℕ) (gs : List (List ℕ))
    → (drop (length (good_front salt fs)) fs ≡ g ∷ gs → good salt g ≡ false)
    → drop (length (pick b (f ∷ good_front salt fs) [])) (f ∷ fs) ≡ g ∷ gs → good salt g ≡ false
stop-cons salt f fs true e g gs later d = later d
stop-cons salt f fs false e g gs later d = let h : f ≡ g = cc in rw (← h) e

stop-bad : (salt : ℕ) (fs : List (List ℕ)) (g : List ℕ) (gs : List (List ℕ)) → drop (length (good_front salt fs)) fs ≡ g ∷ gs → good salt g ≡ false
unfolding good_front
stop-bad salt [] g gs d = let z : ◌≡◌ {A = ℕ} 0 1 = cc in absurd (omega arith)
stop-bad salt (f ∷ fs) g gs d = stop-cons salt f fs (good salt f) refl g gs (stop-bad salt fs g gs) d

module _ (l : List ℕ) (h : 32 ≤ length l) where
  -- how many good frames there are, and what stands behind them
  abbrev pub read_count : ℕ
  read_count = length (recovered l).frames

  abbrev pub rest_of : List ℕ
  rest_of = drop (chunk_at read_count) l

  within : 4112 * read_count ≤ length (drop 32 l)
  within = rw length-drop (omega (arith, frames-most l, length-chunks l))

  frames-runs : (recovered l).frames ≡ runs read_count (drop 32 l)
  unfolding chunks whole_runs
  frames-runs =
      let k : read_count ≤ length (drop 32 l) / 4112 = omega (arith, within) in
      frames-front l ∙ take_runs read_count (length (drop 32 l) / 4112) (drop 32 l) k

  pub laid-whole : Whole (recovered l).frames
  laid-whole = rw frames-runs (whole-runs read_count (drop 32 l) within)

  pub laid_out : l ≡ take 32 l ++ (joined (recovered l).frames ++ rest_of)
  laid_out =
      let j : joined (recovered l).frames ≡ take (4112 * read_count) (drop 32 l) = ap joined frames-runs ∙ joined-front read_count (drop 32 l) within in
      let d : rest_of ≡ drop (4112 * read_count) (drop 32 l) = sym (drop-drop (4112 * read_count) 32 l) in
      sym (rw (j, d, take-append-drop (4112 * read_count) (drop 32 l), take-append-drop 32 l))

  next-bad : drop read_count (chunks l) ≡ frame_at (chunk_at read_count) l ∷ drop (suc read_count) (chunks l)
      → good (wal_header_in l).salt (frame_at (chunk_at read_count) l) ≡ false
  unfolding recovered
  next-bad d = stop-bad (wal_header_in l).salt (chunks l) _ _ d

  pub laid-rest : good_at rest_of 0 (wal_header_in l).salt ≡ false
  unfolding good_at intact_at
  laid-rest =
      ⊎_elim
      (λ k. front-good (wal_header_in l).salt rest_of k ∙ next-bad (chunk-there read_count l (omega (arith, length-drop (chunk_at read_count) l))))
      (λ k. rw (lt-leb 4112 (length rest_of) k))
      (le-or-lt 4112 (length rest_of))
