-- The reading of a log, frame by frame: what is known before each, and each way to go on or to end. Assumes nothing.
use Rattle.std.proofs.Common.{◌≡◌, ℕ, suc, ◌+◌, ◌*◌, ◌^◌, ◌<◌, ◌≤◌, Bool, true, false, leb, List, [], ◌∷◌, ◌++◌, length, take, drop, sym, refl, ap, subst, ◌∙◌, ⊎_elim, append_assoc, append-nil, arith, length-take, le-leb, leb-true}
use Rattle.le.proofs.Tests.{le-or-lt}
use Rattle.le.proofs.Compare.{both_true}
use Rattle.frame.specs.Frame.{frame_at, intact, intact_at}
use Rattle.wal.specs.Header.{wal_header_in}
use Rattle.wal.specs.Recovery.{chunks, chunk_at, commit_count, readable, good, good_front, undecodable, Recovered, recovered, wal_of}
use Rattle.wal.specs.Write.{empty_wal, longer, with_frame}
use Rattle.wal.specs.declared.Wal.{Wal}
use Rattle.wal.proofs.Places.{length-chunks, chunk-gone, chunk-there, take_chunk}
use Rattle.wal.proofs.Frames.{good-cons, good_none, undecodable-cons, undecodable-here}
use Rattle.wal.proofs.Recovered.{extended}
use Rattle.wal.proofs.Opening.{wal-empty, wal-append}
use Rattle.wal.specs.declared.WalHeader.{WalHeader}

-- what the first i chunks are, all read
abbrev read_to : List ℕ → ℕ → Recovered
read_to l i = record { header = wal_header_in l; frames = take i (chunks l); stopped = false }

-- the chunks before `at` are read, all good
pub record Reading (l : List ℕ) (w : Wal) (at : ℕ) : Type 0 where
  pub index : ℕ
  pub within : index ≤ length (chunks l)
  pub place : at ≡ chunk_at index
  pub state : w ≡ wal_of at (read_to l index)
  pub frames : (recovered l).frames ≡ take index (chunks l) ++ good_front (wal_header_in l).salt (drop index (chunks l))
  pub stopped : (recovered l).stopped ≡ undecodable (wal_header_in l).salt (drop index (chunks l))

-- a frame more
pub frame_longer : {v : Wal} (w : Wal) (count : ℕ) → v ≡ with_frame w count → v.len ≡ w.len + 4112
unfolding longer
frame_longer w count e = ap (λ (x : Wal). x.len) e

-- what the test of a frame says, by the header that was read
pub tested : (l : List ℕ) (at : ℕ) (h : WalHeader) {b t : Bool} → h ≡ wal_header_in l → b ≡ intact_at l at h.salt → b ≡ t → intact_at l at (wal_header_in l).salt ≡ t
tested l at h e p q = rw (ap (λ (x : WalHeader). x.salt) e) at (sym p ∙ q)

-- as many frames as chunks were read
length-read : (l : List ℕ) (i : ℕ) → i ≤ length (chunks l) → length (take i (chunks l)) ≡ i
length-read l i h = simp length-take (omega arith)

pub reading-starts : (l : List ℕ) {w : Wal} → w ≡ empty_wal (wal_header_in l) → Reading l w w.len
unfolding recovered empty_wal
reading-starts l e =
    subst (λ (x : Wal). Reading l x x.len) (sym e) (record { index = 0; within = omega arith; place = refl; state = sym (wal-empty (wal_header_in l)); frames = refl; stopped = refl })

module _ (l : List ℕ) (w : Wal) (at : ℕ) (r : Reading l w at) where
  pub reading-count : w.frame_count ≡ r.index
  unfolding wal_of
  reading-count =
      let e : w.frame_count ≡ length (take r.index (chunks l)) + 0 = ap (λ (x : Wal). x.frame_count) r.state in
      omega (arith, length-read l r.index r.within)

  pub reading-fits : intact_at l at (wal_header_in l).salt ≡ true → at + 4112 ≤ length l
  unfolding intact_at
  reading-fits t = leb-true _ _ (both_true (leb (at + 4112) (length l)) _ t).0

  here : intact_at l at (wal_header_in l).salt ≡ true → intact (wal_header_in l).salt (frame_at at l) ≡ true
  unfolding intact_at
  here t = (both_true (leb (at + 4112) (length l)) (intact (wal_header_in l).salt (frame_at at l)) t).1

  -- the chunk at the place, and those behind
  ahead : intact_at l at (wal_header_in l).salt ≡ true → drop r.index (chunks l) ≡ frame_at at l ∷ drop (suc r.index) (chunks l)
  ahead t =
      let h : chunk_at r.index + 4112 ≤ length l = omega (arith, reading-fits t, r.place) in
      rw r.place (chunk-there r.index l h)

  -- a good frame: one more is read
  pub reading-on : {v : Wal} → intact_at l at (wal_header_in l).salt ≡ true → readable (frame_at at l) ≡ true → length l < 2 ^ 64
      → v ≡ with_frame w (commit_count (frame_at at l)) → Reading l v (at + 4112)
  unfolding good
  reading-on {v} t b n e =
      let i : ℕ = r.index in
      let f : List ℕ = frame_at at l in
      let h : chunk_at i + 4112 ≤ length l = omega (arith, reading-fits t, r.place) in
      let g : good (wal_header_in l).salt f ≡ true = rw (here t, b) in
      let s : take (suc i) (chunks l) ≡ take i (chunks l) ++ (f ∷ []) = rw r.place (take_chunk i l h) in
      let k : 32 + 4112 * length (take i (chunks l)) ≡ at = rw (length-read l i r.within) (sym r.place) in
      let m : length (take i (chunks l)) + 1 < 2 ^ 64 = rw (length-read l i r.within) (omega arith) in
      let w₁ : wal_of (at + 4112) (extended (read_to l i) f) ≡ with_frame (wal_of at (read_to l i)) (commit_count f) = wal-append at (read_to l i) f k refl m in
      record {
        index = suc i;
        within = omega (arith, length-chunks l);
        place = omega (arith, r.place);
        state = e ∙ rw (r.state, ← w₁, s);
        frames = r.frames ∙ rw (ahead t, good-cons (wal_header_in l).salt f (drop (suc i) (chunks l)) g, s) (sym (append_assoc (take i (chunks l)) (f ∷ []) _));
        stopped = r.stopped ∙ rw (ahead t, undecodable-cons (wal_header_in l).salt f (drop (suc i) (chunks l)) g);
      }

  -- what is known when no more is read
  ended : (b : Bool) → good_front (wal_header_in l).salt (drop r.index (chunks l)) ≡ [] → undecodable (wal_header_in l).salt (drop r.index (chunks l)) ≡ b
      → recovered l ≡ record { header = wal_header_in l; frames = take r.index (chunks l); stopped = b }
  unfolding recovered
  ended b g u = rw (r.frames, r.stopped, g, u, append-nil)

  -- a batch that does not decode
  pub reading-stops : intact_at l at (wal_header_in l).salt ≡ true → readable (frame_at at l) ≡ false
      → record {
        header = w.header;
        len = length l;
        good_end = w.good_end;
        last_commit_offset = w.last_commit_offset;
        last_commit_page_count = w.last_commit_page_count;
        frame_count = w.frame_count + 1;
      } ≡ wal_of (length l) (recovered l)
  unfolding good wal_of
  reading-stops t b =
      let f : List ℕ = frame_at at l in
      let g : good (wal_header_in l).salt f ≡ false = rw (here t, b) in
      let e = ended true (rw (ahead t) (good_none (wal_header_in l).salt f _ g)) (rw (ahead t) (undecodable-here (wal_header_in l).salt f _ g ∙ here t)) in
      let k : length (take r.index (chunks l)) + 0 + 1 ≡ length (take r.index (chunks l)) + 1 = omega arith in
      rw (r.state, e) (rw k)

  -- what stands ahead where no frame is intact: nothing, or a frame that is damaged
  none_ahead : intact_at l at (wal_header_in l).salt ≡ false
      → (good_front (wal_header_in l).salt (drop r.index (chunks l)) ≡ []) × (undecodable (wal_header_in l).salt (drop r.index (chunks l)) ≡ false)
  unfolding intact_at good good_front undecodable
  none_ahead t =
      ⊎_elim
      (λ h.
      let i : intact (wal_header_in l).salt (frame_at at l) ≡ false = rw (le-leb (at + 4112) (length l) h) at t in
      let k : chunk_at r.index + 4112 ≤ length l = omega (arith, r.place) in
      let d : drop r.index (chunks l) ≡ frame_at at l ∷ drop (suc r.index) (chunks l) = rw r.place (chunk-there r.index l k) in
      (rw (d, i), rw (d, i)))
      (λ h.
      let k : length l < chunk_at r.index + 4112 = omega (arith, r.place) in
      (rw (chunk-gone r.index l k), rw (chunk-gone r.index l k)))
      (le-or-lt (at + 4112) (length l))

  -- no frame, or one that is damaged
  pub reading-ends : intact_at l at (wal_header_in l).salt ≡ false
      → record {
        header = w.header;
        len = length l;
        good_end = w.good_end;
        last_commit_offset = w.last_commit_offset;
        last_commit_page_count = w.last_commit_page_count;
        frame_count = w.frame_count;
      } ≡ wal_of (length l) (recovered l)
  unfolding wal_of
  reading-ends t =
      let p = none_ahead t in
      rw (r.state, ended false p.0 p.1)
