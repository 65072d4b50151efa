-- What every opening compares with a frame's stored sum is document 01's rule, on the bytes that lie there. Assumes nothing.
use mathlib.Core.Path.{◌≡◌, refl, sym, ap, ◌∙◌}
use mathlib.Core.Bool.{Bool, true, false}
use mathlib.Core.List.{List, [], ◌∷◌, ◌++◌}
use mathlib.Core.Logic.{⊎_elim}
use Prim.Native.Nat.{ℕ, zero, suc, ◌+◌, ◌-◌, ◌/◌, ◌≤◌, ◌<◌}
use native.Mathlib.Omega.{arith}
use native.Mathlib.Numerals.{add-one}
use borrow.Author.Tests.{le-leb, lt-leb}
use lib.ListN.{length, take, drop, get_or, length-append, take-append-drop}
use lib.Seq.{drop-cons, get_or-take, take-length}
use Rattle.le.proofs.Tests.{le-or-lt}
use Rattle.le.proofs.Compare.{both_true}
use Rattle.le.proofs.Fields.{field-part}
use Rattle.checksum.specs.Checksum.{sum_step, sum_from}
use Rattle.checksum.proofs.Sums.{sum_from-append}
use Rattle.frame.specs.Frame.{frame_at, checksum_of, intact, intact_at}
use Rattle.frame.proofs.Places.{body-there, checksum-parts}
use Rattle.wal.specs.Header.{wal_header_in}
use Rattle.wal.specs.Recovery.{chunks, chunk_at, good, good_front, undecodable, recovered, good_end_of}
use Rattle.wal.proofs.Places.{length-chunks, chunk-gone, chunk-there, get-chunk}
use Rattle.wal.proofs.Frames.{good-cons, undecodable-here, good-append, undecodable-append, good-again, good-each}
use Rattle.wal.proofs.Recovered.{frames-front, frames-most}
use Rattle.frame_sums.specs.FrameSums.{sum_places, rule_at, agrees_at, FrameSums}

-- ---- at a place

-- bytes summed one after another where they lie are summed as a list
over : (l : List ℕ) (n at s : ℕ) → at + n ≤ length l → sum_places l n at s ≡ sum_from s (take n (drop at l))
unfolding sum_places sum_from
over l zero at s h = refl
over l (suc n) at s h =
    let d : drop at l ≡ get_or l at 0 ∷ drop (at + 1) l = rw (add-one, drop-cons l at 0 (omega arith)) in
    over l n (at + 1) (sum_step s (get_or l at 0)) (omega arith) ∙ rw d

summed : (l : List ℕ) (at : ℕ) → at + 4112 ≤ length l → checksum_of (frame_at at l) ≡ rule_at l at
unfolding rule_at
summed l at h =
    rw (checksum-parts at l, body-there at l, sum_from-append, ← over l 12 at 0 (omega arith), ← over l 4096 (at + 16) (sum_places l 12 at 0) (omega arith))

compared : (l : List ℕ) (at salt : ℕ) → intact_at l at salt ≡ agrees_at l at salt
unfolding intact_at intact agrees_at
compared l at salt =
    ⊎_elim
    (λ h. rw (field-part 4 8 4112 at l (omega arith), field-part 4 12 4112 at l (omega arith), summed l at h))
    (λ h. rw (lt-leb _ _ h))
    (le-or-lt (at + 4112) (length l))

-- ---- no other byte

same_over : (l m : List ℕ) (n at s : ℕ) → ((i : ℕ) → i < n → get_or l (at + i) 0 ≡ get_or m (at + i) 0) → sum_places l n at s ≡ sum_places m n at s
unfolding sum_places
same_over l m zero at s e = refl
same_over l m (suc n) at s e =
    let z : at + 0 ≡ at = omega arith in
    let b : get_or l at 0 ≡ get_or m at 0 = rw z at (e 0 (omega arith)) in
    let k : (i : ℕ) → i < n → get_or l (at + 1 + i) 0 ≡ get_or m (at + 1 + i) 0 =
    λ (i : ℕ) h. let x : at + suc i ≡ at + 1 + i = omega arith in rw x at (e (suc i) (omega arith)) in
    rw b (same_over l m n (at + 1) (sum_step s (get_or m at 0)) k)

others : (l m : List ℕ) (at : ℕ) → ((i : ℕ) → i < 12 → get_or l (at + i) 0 ≡ get_or m (at + i) 0)
    → ((i : ℕ) → i < 4096 → get_or l (at + 16 + i) 0 ≡ get_or m (at + 16 + i) 0) → rule_at l at ≡ rule_at m at
unfolding rule_at
others l m at heading body = rw (same_over l m 12 at 0 heading) (same_over l m 4096 (at + 16) (sum_places m 12 at 0) body)

-- ---- an opening

-- where no frame is good, an undecodable batch stops the reading exactly if the first frame is intact
stop-here : (salt : ℕ) (f : List ℕ) (fs : List (List ℕ)) (b : Bool) → good salt f ≡ b → length (good_front salt (f ∷ fs)) ≡ 0
    → intact salt f ≡ undecodable salt (f ∷ fs)
stop-here salt f fs true g e = absurd (omega (arith, ap length (good-cons salt f fs g)))
stop-here salt f fs false g e = sym (undecodable-here salt f fs g)

module _ (l : List ℕ) where
  -- a frame among the chunks lies inside
  inside : (i : ℕ) → i < length (chunks l) → chunk_at i + 4112 ≤ length l
  inside i h =
      let k : i < (length l - 32) / 4112 = rw (length-chunks l) at h in
      omega arith

  -- inside, frame and rule agree where the frame is intact
  agrees-inside : (at salt : ℕ) → at + 4112 ≤ length l → agrees_at l at salt ≡ intact salt (frame_at at l)
  unfolding intact_at
  agrees-inside at salt h = sym (compared l at salt) ∙ rw (le-leb _ _ h)

  found : (i : ℕ) → i < length (recovered l).frames → agrees_at l (chunk_at i) (wal_header_in l).salt ≡ true
  unfolding recovered good
  found i h =
      let salt : ℕ = (wal_header_in l).salt in
      let k : chunk_at i + 4112 ≤ length l = inside i (omega (arith, frames-most l)) in
      let f : get_or (recovered l).frames i [] ≡ frame_at (chunk_at i) l =
      ap (λ (fs : List (List ℕ)). get_or fs i []) (frames-front l) ∙ get_or-take (length (recovered l).frames) (chunks l) i [] h ∙ get-chunk i l k in
      let g : good salt (frame_at (chunk_at i) l) ≡ true = rw f at (good-each salt (chunks l) i h) in
      agrees-inside (chunk_at i) salt k ∙ (both_true (intact salt (frame_at (chunk_at i) l)) _ g).0

  -- all that are read are good
  good-frames : good_front (wal_header_in l).salt (recovered l).frames ≡ (recovered l).frames
  unfolding recovered
  good-frames =
      let salt : ℕ = (wal_header_in l).salt in
      rw (take-length (good_front salt (chunks l))) at (good-again salt (chunks l) (length (good_front salt (chunks l))))

  -- the frames that are read, and what stands behind them
  abbrev rest : List (List ℕ)
  rest = drop (length (recovered l).frames) (chunks l)

  split : chunks l ≡ (recovered l).frames ++ rest
  split =
      let fs : List (List ℕ) = (recovered l).frames in
      sym (take-append-drop (length fs) (chunks l)) ∙ ap (λ (x : List (List ℕ)). x ++ drop (length fs) (chunks l)) (sym (frames-front l))

  none-behind : length (good_front (wal_header_in l).salt rest) ≡ 0
  unfolding recovered
  none-behind =
      let salt : ℕ = (wal_header_in l).salt in
      let e : good_front salt (chunks l) ≡ (recovered l).frames ++ good_front salt rest =
      ap (good_front salt) split ∙ good-append salt (recovered l).frames rest good-frames in
      omega (arith, ap length e, length-append (recovered l).frames (good_front salt rest))

  stopped-behind : (recovered l).stopped ≡ undecodable (wal_header_in l).salt rest
  unfolding recovered
  stopped-behind =
      let salt : ℕ = (wal_header_in l).salt in
      ap (undecodable salt) split ∙ undecodable-append salt (recovered l).frames rest good-frames

  ended : agrees_at l (good_end_of (recovered l)) (wal_header_in l).salt ≡ (recovered l).stopped
  unfolding intact_at undecodable
  ended =
      let salt : ℕ = (wal_header_in l).salt in
      let n : ℕ = length (recovered l).frames in
      ⊎_elim
      (λ h.
      let d : rest ≡ frame_at (chunk_at n) l ∷ drop (suc n) (chunks l) = chunk-there n l h in
      agrees-inside (chunk_at n) salt h
      ∙ stop-here salt (frame_at (chunk_at n) l) (drop (suc n) (chunks l)) (good salt (frame_at (chunk_at n) l)) refl (rw d at none-behind)
      ∙ sym (rw d at stopped-behind))
      (λ h.
      let d : rest ≡ [] = chunk-gone n l h in
      sym (compared l (chunk_at n) salt) ∙ rw (lt-leb _ _ h) (sym (rw d at stopped-behind)))
      (le-or-lt (chunk_at n + 4112) (length l))

pub frame-sums : FrameSums
frame-sums = record { summed = summed; compared = compared; others = others; found = found; ended = ended }
