-- What reading finds of a log that was appended to, torn or cut. Assumes nothing.
use Rattle.std.proofs.Common.{◌≡◌, ℕ, ◌+◌, ◌*◌, ◌<◌, ◌≤◌, true, false, List, [], ◌∷◌, ◌++◌, length, get_or, take, drop, sym, ap, ◌∙◌, ⊎_elim, append-nil, arith, take-take, le-leb}
use borrow.Author.Tests.{lt-leb}
use Rattle.le.proofs.Compare.{both_true}
use Rattle.le.proofs.Tests.{le-or-lt}
use Rattle.frame.specs.Frame.{intact, intact_at}
use Rattle.wal.specs.Header.{wal_header_in, decode_wal_header}
use Rattle.wal.specs.Recovery.{whole_runs, chunks, readable, good, good_at, good_front, undecodable, committed, Recovered, recovered, committed_frames, commit_point}
use Rattle.wal.proofs.HeaderRoundTrip.{header-append, header-take, decode-take}
use Rattle.wal.proofs.Places.{length-chunks, chunk-gone, chunks-append, chunks-cut, runs-short, runs-front, runs-one}
use Rattle.wal.proofs.Frames.{good-cons, good_none, undecodable-cons, undecodable-here, good-append, undecodable-append, undecodable-none, bad-front, bad-undecodable, good-front, good-again, good-each, undecodable-stop, count_most, committed-front, committed-most, committed-again}

-- ---- its parts

-- the frames that are read are the first chunks
pub frames-front : (l : List ℕ) → (recovered l).frames ≡ take (length (recovered l).frames) (chunks l)
unfolding recovered
frames-front l = good-front (wal_header_in l).salt (chunks l)

pub frames-most : (l : List ℕ) → length (recovered l).frames ≤ length (chunks l)
unfolding recovered
frames-most l = omega (arith, count_most (wal_header_in l).salt (chunks l))

-- .. each of which is a page's, or a batch's that decodes
pub frame-readable : (l : List ℕ) (i : ℕ) → i < length (recovered l).frames → readable (get_or (recovered l).frames i []) ≡ true
unfolding recovered good
frame-readable l i h =
    (both_true (intact (wal_header_in l).salt _) (readable (get_or (good_front (wal_header_in l).salt (chunks l)) i [])) (good-each (wal_header_in l).salt (chunks l) i h)).1

-- the counted frame behind them is a batch's that does not
pub stopped-unreadable : (l : List ℕ) → (recovered l).stopped ≡ true → readable (get_or (chunks l) (length (recovered l).frames) []) ≡ false
unfolding recovered
stopped-unreadable l e = undecodable-stop (wal_header_in l).salt (chunks l) e

-- where all chunks are good frames, nothing stopped the reading
pub all-good : (l : List ℕ) → (recovered l).frames ≡ chunks l → (recovered l).stopped ≡ false
unfolding recovered
all-good l a = undecodable-none (wal_header_in l).salt (chunks l) a

-- the committed frames are the first chunks too
pub committed-chunks : (l : List ℕ) → committed_frames (recovered l) ≡ take (length (committed_frames (recovered l))) (chunks l)
committed-chunks l =
    let fs = (recovered l).frames in
    let t : take (length (committed fs)) (take (length fs) (chunks l)) ≡ take (length (committed fs)) (chunks l) =
    take-take (length (committed fs)) (length fs) (chunks l) (committed-most fs) in
    committed-front fs ∙ ap (λ (x : List (List ℕ)). take (length (committed fs)) x) (frames-front l) ∙ t

-- the commit point lies inside the log
pub commit-within : (l : List ℕ) → 32 ≤ length l → commit_point (recovered l) ≤ length l
commit-within l h =
    let fs = (recovered l).frames in
    omega (arith, committed-most fs, frames-most l, length-chunks l)

-- the committed frames are good
committed-good : (l : List ℕ) → good_front (wal_header_in l).salt (committed_frames (recovered l)) ≡ committed_frames (recovered l)
unfolding recovered
committed-good l =
    let fs = good_front (wal_header_in l).salt (chunks l) in
    rw (committed-front fs) (good-again (wal_header_in l).salt (chunks l) (length (committed fs)))

-- a log that has no room for a frame holds none
pub recovered-short : (l : List ℕ) → length l < 4144 → recovered l ≡ record { header = wal_header_in l; frames = []; stopped = false }
unfolding recovered good_front undecodable
recovered-short l h = let e : chunks l ≡ [] = chunk-gone 0 l h in rw e

-- ---- a longer log

-- at the front of some bytes no good frame stands
module _ (salt : ℕ) (t : List ℕ) where
  pub front-good : 4112 ≤ length t → good_at t 0 salt ≡ good salt (take 4112 t)
  unfolding good_at intact_at good
  front-good h = rw (le-leb 4112 (length t) h)

  front-intact : 4112 ≤ length t → intact_at t 0 salt ≡ intact salt (take 4112 t)
  unfolding intact_at
  front-intact h = rw (le-leb 4112 (length t) h)

  pub no_front : good_at t 0 salt ≡ false → (good_front salt (whole_runs t) ≡ []) × (undecodable salt (whole_runs t) ≡ intact_at t 0 salt)
  unfolding intact_at good_front undecodable
  no_front g =
      ⊎_elim
      (λ h. let n : good salt (take 4112 t) ≡ false = sym (front-good h) ∙ g in (
        rw (runs-front t h) (good_none salt (take 4112 t) (whole_runs (drop 4112 t)) n),
        rw (runs-front t h) (undecodable-here salt (take 4112 t) (whole_runs (drop 4112 t)) n ∙ sym (front-intact h)),
      ))
      (λ h. (rw (runs-short t h), rw (runs-short t h, lt-leb 4112 (length t) h)))
      (le-or-lt 4112 (length t))

-- one frame more
abbrev pub extended : Recovered → List ℕ → Recovered
extended r f = record { header = r.header; frames = r.frames ++ (f ∷ []); stopped = false }

module _ (n : ℕ) (l : List ℕ) (e : length l ≡ 32 + 4112 * n) where
  salt-kept : (t : List ℕ) → wal_header_in (l ++ t) ≡ wal_header_in l
  salt-kept t = header-append l t (omega arith)

  -- behind chunks that are all good frames reading goes on
  pub recovered-on : (t : List ℕ) → (recovered l).frames ≡ chunks l
      → recovered (l ++ t)
      ≡ record {
        header = (recovered l).header;
        frames = (recovered l).frames ++ good_front (wal_header_in l).salt (whole_runs t);
        stopped = undecodable (wal_header_in l).salt (whole_runs t);
      }
  unfolding recovered
  recovered-on t a =
      rw (
        salt-kept t,
        chunks-append n l t e,
        good-append (wal_header_in l).salt (chunks l) (whole_runs t) a,
        undecodable-append (wal_header_in l).salt (chunks l) (whole_runs t) a,
        a,
      )

  -- a good frame appended behind them
  pub recovered-append : (f : List ℕ) → (recovered l).frames ≡ chunks l → length f ≡ 4112 → good (wal_header_in l).salt f ≡ true
      → recovered (l ++ f) ≡ extended (recovered l) f
  unfolding good_front undecodable
  recovered-append f a k g =
      recovered-on f a
      ∙ rw (runs-one f k, good-cons (wal_header_in l).salt f [] g, undecodable-cons (wal_header_in l).salt f [] g)

  -- anything behind them at whose front no good frame stands: only "a final undecodable batch frame" shows, in the count
  pub recovered-rest : (t : List ℕ) → (recovered l).frames ≡ chunks l → good_at t 0 (wal_header_in l).salt ≡ false
      → recovered (l ++ t) ≡ record { header = (recovered l).header; frames = (recovered l).frames; stopped = intact_at t 0 (wal_header_in l).salt }
  recovered-rest t a g =
      let p = no_front (wal_header_in l).salt t g in
      recovered-on t a ∙ rw (p.0, p.1, append-nil)

  -- a rest shorter than a frame changes nothing
  pub recovered-torn : (t : List ℕ) → length t < 4112 → recovered (l ++ t) ≡ recovered l
  unfolding recovered
  recovered-torn t h = rw (salt-kept t, chunks-append n l t e, runs-short t h, append-nil)

  -- behind a chunk that isn't a good frame nothing changes anything
  pub recovered-bad : (t : List ℕ) → length (recovered l).frames < n → recovered (l ++ t) ≡ recovered l
  unfolding recovered
  recovered-bad t h =
      let k : length (good_front (wal_header_in l).salt (chunks l)) < length (chunks l) = omega (arith, length-chunks l) in
      rw (
        salt-kept t,
        chunks-append n l t e,
        bad-front (wal_header_in l).salt (chunks l) (whole_runs t) k,
        bad-undecodable (wal_header_in l).salt (chunks l) (whole_runs t) k,
      )

-- ---- a log cut at its commit point

-- the chunks before the commit point are the committed frames
pub committed-committed : (l : List ℕ) → chunks (take (commit_point (recovered l)) l) ≡ committed_frames (recovered l)
committed-committed l =
    let fs = (recovered l).frames in
    let k : length (committed fs) ≤ length (chunks l) = omega (arith, committed-most fs, frames-most l) in
    chunks-cut (length (committed fs)) l k ∙ sym (committed-chunks l)

cut-with : (l : List ℕ) (m : ℕ) → 32 ≤ m → (fs : List (List ℕ)) → chunks (take m l) ≡ fs → good_front (wal_header_in l).salt fs ≡ fs
    → recovered (take m l) ≡ record { header = (recovered l).header; frames = fs; stopped = false }
unfolding recovered
cut-with l m h fs c g = rw (header-take l m h, c, g, undecodable-none (wal_header_in l).salt fs g)

-- it keeps its header and the committed frames, and no other
pub recovered-cut : (l : List ℕ) → recovered (take (commit_point (recovered l)) l)
    ≡ record { header = (recovered l).header; frames = committed_frames (recovered l); stopped = false }
recovered-cut l = cut-with l (commit_point (recovered l)) (omega arith) (committed_frames (recovered l)) (committed-committed l) (committed-good l)

-- .. so commit point and last commit stay, and every frame is committed
pub cut-committed : (l : List ℕ) → committed_frames (recovered (take (commit_point (recovered l)) l)) ≡ committed_frames (recovered l)
cut-committed l = ap committed_frames (recovered-cut l) ∙ committed-again (recovered l).frames

pub cut-header : (l : List ℕ) → 32 ≤ length l → decode_wal_header (take (commit_point (recovered l)) l) ≡ decode_wal_header l
cut-header l h = decode-take l (commit_point (recovered l)) (omega arith) h
