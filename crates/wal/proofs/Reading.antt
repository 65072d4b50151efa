-- Looking up pages, batches and frames by their places, and what that means for an open log. Assumes nothing.
use Rattle.std.proofs.Common.{◌≡◌, ℕ, zero, suc, ◌+◌, ◌-◌, ◌/◌, ◌<◌, ◌≤◌, Bool, true, false, eqb, List, [], ◌∷◌, ◌++◌, length, get_or, take, drop, sym, refl, ◌∙◌, add-zero, add-one, arith, length-take, get_or-drop, take_all, take-take, drop-drop, le-ltb, lt-ltb, eq-eqb, ne_eqb}
use Rattle.std.specs.Prelude.{None, Option, Some}
use Rattle.le.proofs.Fields.{drop-take}
use Rattle.le.specs.Choice.{pick}
use Rattle.frame.specs.Frame.{frame_at, frame_header, body_of}
use Rattle.frame.proofs.Places.{body-there}
use Rattle.wal.specs.Recovery.{chunks, chunk_at, page_of, batch_page, is_batch, page_in, batches_in, recovered, committed_frames, wal_of}
use Rattle.wal.specs.Read.{committed_chunks, read_log_page, body_at, unless_later, page_place_from, find_log_page, page_at, frame_in, batch_from, next_batch}
use Rattle.wal.specs.declared.Wal.{Wal}
use Rattle.wal.proofs.Places.{length-chunks, chunk-gone, chunk-there, get-chunk, take_chunk}
use Rattle.wal.proofs.Frames.{page_in-snoc}
use Rattle.wal.proofs.Recovered.{committed-committed}
use Rattle.wal.proofs.Opening.{known-commit}
use Rattle.wal.specs.declared.BatchAt.{BatchAt}

-- ---- a page's place, from the last chunk back

place-pick : (b : Bool) (at : ℕ) (r here : Option ℕ) → unless_later (pick b (Some at) r) here ≡ pick b (Some at) (unless_later r here)
place-pick true at r here = refl
place-pick false at r here = refl

place-snoc : (p i : ℕ) (fs : List (List ℕ)) (f : List ℕ)
    → page_place_from p i (fs ++ (f ∷ [])) ≡ pick (eqb (page_of f) p) (Some (body_at (i + length fs))) (page_place_from p i fs)
unfolding page_place_from
place-snoc p i [] f = rw add-zero
place-snoc p i (g ∷ gs) f =
    let e : i + 1 + length gs ≡ i + length (g ∷ gs) = omega arith in
    rw (place-snoc p (i + 1) gs f, e) (place-pick (eqb (page_of f) p) (body_at (i + length (g ∷ gs))) _ _)

module _ (l : List ℕ) (p : ℕ) where
  -- one chunk more
  more : (i : ℕ) → i < (length l - 32) / 4112
      → page_place_from p 0 (take (suc i) (chunks l)) ≡ pick (eqb (page_of (frame_at (chunk_at i) l)) p) (Some (body_at i)) (page_place_from p 0 (take i (chunks l)))
  more i h =
      let n : 0 + length (take i (chunks l)) ≡ i = rw (length-take, length-chunks) (omega arith) in
      let e = place-snoc p 0 (take i (chunks l)) (frame_at (chunk_at i) l) in
      rw (take_chunk i l (omega arith)) (rw n at e)

  pub place-start : (n : ℕ) → n ≡ (length l - 32) / 4112 → page_place_from p 0 (take n (chunks l)) ≡ page_place_from p 0 (chunks l)
  place-start n e = rw (take_all n (chunks l) (omega (arith, length-chunks l)))

  pub place_here : (i : ℕ) → 0 < i → i ≤ (length l - 32) / 4112 → page_of (frame_at (chunk_at (i - 1)) l) ≡ p
      → Some (chunk_at (i - 1) + 16) ≡ page_place_from p 0 (take i (chunks l))
  place_here zero h k e = absurd (omega arith)
  place_here (suc i) h k e =
      let m : suc i - 1 ≡ i = omega arith in
      let f : page_of (frame_at (chunk_at i) l) ≡ p = rw m at e in
      rw (m, more i (omega arith), eq-eqb _ _ f)

  pub place-before : (i : ℕ) → 0 < i → i ≤ (length l - 32) / 4112 → (page_of (frame_at (chunk_at (i - 1)) l) ≡ p → ⊥)
      → page_place_from p 0 (take (i - 1) (chunks l)) ≡ page_place_from p 0 (take i (chunks l))
  place-before zero h k e = absurd (omega arith)
  place-before (suc i) h k e =
      let m : suc i - 1 ≡ i = omega arith in
      let f : page_of (frame_at (chunk_at i) l) ≡ p → ⊥ = rw m at e in
      rw (m, more i (omega arith), ne_eqb _ _ f)

  pub place_none : (i : ℕ) → i ≡ 0 → None ≡ page_place_from p 0 (take i (chunks l))
  unfolding page_place_from
  place_none i e = rw e

-- ---- the page there

one_more : (l f g : List ℕ) (at : ℕ) (r : Option ℕ) (b : Bool) → body_of f ≡ page_at l (Some at) → body_of g ≡ page_at l r
    → body_of (pick b f g) ≡ page_at l (pick b (Some at) r)
one_more l f g at r true e h = e
one_more l f g at r false e h = h

module _ (l : List ℕ) (end p : ℕ) where
  -- a chunk of the front part has its body at the same place of the whole
  body_same : (i : ℕ) → i < (length (take end l) - 32) / 4112 → body_of (frame_at (chunk_at i) (take end l)) ≡ page_at l (Some (body_at i))
  body_same i h =
      let k : chunk_at i + 16 + 4096 ≤ end = omega (arith, length-take end l) in
      let m : chunk_at i + 16 + (end - (chunk_at i + 16)) ≡ end = omega arith in
      let d : drop (chunk_at i + 16) (take end l) ≡ take (end - (chunk_at i + 16)) (drop (chunk_at i + 16) l) =
      rw m at (drop-take (chunk_at i + 16) (end - (chunk_at i + 16)) l) in
      rw (body-there (chunk_at i) (take end l), d) (take-take 4096 (end - (chunk_at i + 16)) (drop (chunk_at i + 16) l) (omega arith))

  up_to : (i : ℕ) → i ≤ (length (take end l) - 32) / 4112
      → body_of (page_in p (take i (committed_chunks end l))) ≡ page_at l (page_place_from p 0 (take i (committed_chunks end l)))
  unfolding page_in page_place_from body_of
  up_to zero h = refl
  up_to (suc i) h =
      let s = take end l in
      rw (more s p i (omega arith), take_chunk i s (omega arith), page_in-snoc p (take i (chunks s)) (frame_at (chunk_at i) s))
      (one_more l (frame_at (chunk_at i) s) (page_in p (take i (chunks s))) (body_at i) (page_place_from p 0 (take i (chunks s))) (eqb (page_of (frame_at (chunk_at i) s)) p) (body_same i (omega arith)) (up_to i (omega arith)))

  judged : (b : Bool) → pick b [] (body_of (page_in p (committed_chunks end l))) ≡ page_at l (pick b None (page_place_from p 0 (committed_chunks end l)))
  judged true = refl
  judged false =
      let n = (length (take end l) - 32) / 4112 in
      let t : take n (committed_chunks end l) ≡ committed_chunks end l = take_all n (committed_chunks end l) (omega (arith, length-chunks (take end l))) in
      rw t at (up_to n (omega arith))

  -- a page's bytes are those at its place
  pub read_found : read_log_page l end p ≡ page_at l (find_log_page l end p)
  unfolding read_log_page find_log_page
  read_found = judged (eqb p batch_page)

-- ---- a batch

module _ (l : List ℕ) (i : ℕ) where
  pub batch-here : i < (length l - 32) / 4112 → page_of (frame_at (chunk_at i) l) ≡ 4294967295
      → Some (record { index = i; offset = chunk_at i }) ≡ batch_from i (drop i (chunks l))
  unfolding batch_from
  batch-here h e = rw (chunk-there i l (omega arith), eq-eqb _ _ e)

  pub batch-later : i < (length l - 32) / 4112 → (page_of (frame_at (chunk_at i) l) ≡ 4294967295 → ⊥)
      → batch_from (i + 1) (drop (i + 1) (chunks l)) ≡ batch_from i (drop i (chunks l))
  unfolding batch_from
  batch-later h e = rw (chunk-there i l (omega arith), ne_eqb _ _ e, add-one)

  pub batch-none : (length l - 32) / 4112 ≤ i → None ≡ batch_from i (drop i (chunks l))
  unfolding batch_from
  batch-none h = rw (chunk-gone i l (omega arith))

-- ---- a frame at an index

module _ (l : List ℕ) (i : ℕ) where
  pub frame-there : i < (length l - 32) / 4112 → Some (record { offset = chunk_at i; header = frame_header (frame_at (chunk_at i) l) }) ≡ frame_in l i
  unfolding frame_in
  frame-there h = rw (length-chunks l, lt-ltb _ _ h, get-chunk i l (omega arith))

  pub frame-gone : (length l - 32) / 4112 ≤ i → None ≡ frame_in l i
  unfolding frame_in
  frame-gone h = rw (length-chunks l, le-ltb _ _ h)

-- ---- an open log

module _ (l : List ℕ) (w : Wal) (k : w ≡ wal_of (length l) (recovered l)) where
  -- the chunks that reads go through are the committed frames
  pub known-committed : committed_chunks w.last_commit_offset l ≡ committed_frames (recovered l)
  known-committed = rw (known-commit l w k) (committed-committed l)

  -- "Per page the last sealed frame counts"
  pub known-page : (p : ℕ) → (p ≡ 4294967295 → ⊥) → read_log_page l w.last_commit_offset p ≡ body_of (page_in p (committed_frames (recovered l)))
  unfolding read_log_page
  known-page p n = rw (ne_eqb p 4294967295 n, known-committed)

  -- "batches come in log order"
  pub known-batch : (i : ℕ) → next_batch l w.last_commit_offset i ≡ batch_from i (drop i (committed_frames (recovered l)))
  unfolding next_batch
  known-batch i = rw known-committed

-- ---- walking the batches

-- the batches of frames at or behind index i: the one at j, and those behind it
pub record First (fs : List (List ℕ)) (i j at : ℕ) : Type 0 where
  pub behind : i ≤ j
  pub place : at ≡ chunk_at j
  pub batches : batches_in (drop i fs) ≡ get_or fs j [] ∷ batches_in (drop (j + 1) fs)

abbrev pub Walked : List (List ℕ) → ℕ → Option BatchAt → Type 0
Walked fs i None = batches_in (drop i fs) ≡ []
Walked fs i (Some b) = First fs i b.index b.offset

first-of : (fs : List (List ℕ)) (i : ℕ) (f : List ℕ) (rest : List (List ℕ)) → drop i fs ≡ f ∷ rest → get_or fs i [] ≡ f
first-of fs i f rest d =
    let e : get_or (drop i fs) 0 [] ≡ get_or fs (i + 0) [] = get_or-drop i fs 0 [] in
    sym (rw add-zero at e) ∙ rw d

module _ (fs : List (List ℕ)) (i : ℕ) (f : List ℕ) (rest : List (List ℕ)) (d : drop i fs ≡ f ∷ rest) (d₁ : drop (i + 1) fs ≡ rest) where
  no-batch : is_batch f ≡ false → batches_in (drop i fs) ≡ batches_in (drop (i + 1) fs)
  unfolding batches_in
  no-batch e = rw (d, d₁, e)

  later : is_batch f ≡ false → (r : Option BatchAt) → Walked fs (i + 1) r → Walked fs i r
  later e None w = no-batch e ∙ w
  later e (Some b) w = record { behind = omega (arith, w.behind); place = w.place; batches = no-batch e ∙ w.batches }

  walked-cons : (b : Bool) → is_batch f ≡ b → Walked fs (i + 1) (batch_from (i + 1) rest)
      → Walked fs i (pick b (Some (record { index = i; offset = chunk_at i })) (batch_from (i + 1) rest))
  unfolding batches_in
  walked-cons true e w =
      let g : get_or fs i [] ≡ f = first-of fs i f rest d in
      record { behind = omega arith; place = refl; batches = rw (d, d₁, e, g) }
  walked-cons false e w = later e (batch_from (i + 1) rest) w

walked : (fs : List (List ℕ)) (i : ℕ) (rest : List (List ℕ)) → drop i fs ≡ rest → Walked fs i (batch_from i rest)
unfolding batch_from batches_in
walked fs i [] d = rw d
walked fs i (f ∷ rest) d =
    let d₁ : drop (i + 1) fs ≡ rest = sym (drop-drop 1 i fs) ∙ rw d in
    walked-cons fs i f rest d d₁ (is_batch f) refl (walked fs (i + 1) rest d₁)

-- a walk from index 0, each time on behind the batch that was found, meets `batches_in`, in order
pub batches-walked : (fs : List (List ℕ)) (i : ℕ) → Walked fs i (batch_from i (drop i fs))
batches-walked fs i = walked fs i (drop i fs) refl
