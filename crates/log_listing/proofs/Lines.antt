-- The lines of frames, one by one. Assumes nothing.
use mathlib.Core.Path.{◌≡◌, refl, sym, ◌∙◌}
use mathlib.Core.Bool.{Bool, true, false}
use mathlib.Core.List.{List, [], ◌∷◌, ◌++◌, append-nil, append_assoc}
use mathlib.Core.Logic.{⊎_elim}
use Prim.Native.Nat.{ℕ, suc, ◌+◌, ◌*◌, ◌≤◌, ◌<◌}
use native.Mathlib.Numerals.{add-one}
use native.Mathlib.Omega.{arith}
use borrow.Author.Tests.{le-leb, lt-leb, eq-eqb, ne_eqb}
use lib.ListN.{length, take, drop, get_or, length-take, length-drop}
use lib.Seq.{take_all, take-suc, get_or-take}
use Rattle.std.specs.Prelude.{None, Option, Result, Some}
use Rattle.le.specs.Choice.{pick}
use Rattle.le.specs.Le.{field, whole_field}
use Rattle.le.proofs.Compare.{no_test}
use Rattle.le.proofs.Tests.{le-or-lt}
use Rattle.le.proofs.Stores.{get-put}
use Rattle.refusal.specs.declared.Refusal.TheVariants as refusal
use Rattle.refusal.specs.declared.Refusal.{Refusal}
use Rattle.frame.specs.Frame.{frame_at, frame_header, body_of}
use Rattle.wal.specs.Recovery.{chunks, chunk_at, readable, Recovered, recovered, frame_count_of, wal_of, open_log}
use Rattle.frame.specs.declared.FrameHeader.{FrameHeader}
use Rattle.wal.specs.declared.Wal.{Wal}
use Rattle.wal.proofs.Places.{get-chunk}
use Rattle.wal.proofs.Recovered.{frames-front, frame-readable, stopped-unreadable}
use Rattle.wal.proofs.Opening.{frame_count_of-most}
use Rattle.log_listing.specs.Listing.{decimal, number_text, word_page, word_batch, newline, kind_text, frame_line, frame_lines, last_text, end_line, log_line, refused_line, opened_text, listing_of, listing}
use Rattle.log_listing.specs.Answer.{Added, listed_after}
use Rattle.log_listing.proofs.Pieces.{added_none, added-most, added-length, added_next}

-- the record count of a frame that is there
pub records-there : (l : List ℕ) (at : ℕ) → at + 4112 ≤ length l → whole_field 2 16 (body_of (frame_at at l)) ≡ field 2 16 (body_of (frame_at at l))
unfolding whole_field body_of
records-there l at h =
    let k : 16 + 2 ≤ length (drop 16 (take 4112 (drop at l))) = simp (length-drop, length-take) (omega arith) in
    rw (le-leb _ _ k)

-- one line more
lines_snoc : (i : ℕ) (fs : List (List ℕ)) (f : List ℕ) → frame_lines i (fs ++ (f ∷ [])) ≡ frame_lines i fs ++ frame_line (i + length fs) f
unfolding frame_lines
lines_snoc i [] f = let e : i + 0 ≡ i = omega arith in rw (e, append-nil)
lines_snoc i (g ∷ fs) f =
    let e : i + 1 + length fs ≡ i + suc (length fs) = omega arith in
    rw (lines_snoc (i + 1) fs f, e) (sym (append_assoc (frame_line i g) (frame_lines (i + 1) fs) (frame_line (i + suc (length fs)) f)))

-- whether a counted frame is among the good ones
stop-or : (b : Bool) (n i : ℕ) → i < n + pick b 1 0 → n ≤ i → (b ≡ true) × (i ≡ n)
stop-or true n i h k = (refl, omega arith)
stop-or false n i h k = absurd (omega arith)

module _ (l : List ℕ) (i : ℕ) (h : i < frame_count_of (recovered l)) where
  -- it stands wholly inside the log
  pub counted-fits : chunk_at i + 4112 ≤ length l
  counted-fits = omega (arith, frame_count_of-most l)

  -- it is the last, and not readable, or among the good ones
  stopped-here : length (recovered l).frames ≤ i → (i ≡ length (recovered l).frames) × (readable (frame_at (chunk_at i) l) ≡ false)
  stopped-here k =
      let s = stop-or (recovered l).stopped (length (recovered l).frames) i h k in
      let u : readable (get_or (chunks l) i []) ≡ false = rw s.1 (stopped-unreadable l s.0) in
      (s.1, rw (get-chunk i l counted-fits) at u)

  good-here : i < length (recovered l).frames → get_or (recovered l).frames i [] ≡ frame_at (chunk_at i) l
  good-here k = rw (frames-front l) (get_or-take (length (recovered l).frames) (chunks l) i [] k ∙ get-chunk i l counted-fits)

  -- a readable one is good
  pub readable-good : readable (frame_at (chunk_at i) l) ≡ true → i < length (recovered l).frames
  readable-good r =
      ⊎_elim (λ k. no_test (sym (stopped-here k).1 ∙ r)) (λ k. k) (le-or-lt (length (recovered l).frames) i)

  -- at the one that is not, all good frames are listed
  pub unreadable-last : readable (frame_at (chunk_at i) l) ≡ false → i ≡ length (recovered l).frames
  unreadable-last r =
      ⊎_elim (λ k. (stopped-here k).0)
      (λ k.
      let e : readable (frame_at (chunk_at i) l) ≡ true = rw (good-here k) at (frame-readable l i k) in
      no_test (sym r ∙ e))
      (le-or-lt (length (recovered l).frames) i)

  -- the lines so far, and its own
  pub lines-on : i < length (recovered l).frames
      → frame_lines 0 (take i (recovered l).frames) ++ frame_line i (frame_at (chunk_at i) l) ≡ frame_lines 0 (take (i + 1) (recovered l).frames)
  lines-on k =
      let fs = (recovered l).frames in
      let n : 0 + length (take i fs) ≡ i = simp length-take (omega arith) in
      rw (add-one, take-suc fs i [] k, lines_snoc 0 (take i fs) (get_or fs i []), n, good-here k)

-- ---- what is added is what the definitions say

module _ {n at : ℕ} {l after : List ℕ} {end : ℕ} where
  pub batch-added : (page k : ℕ) (f : List ℕ) → page ≡ 4294967295 → k ≡ field 2 16 (body_of f) → Added n l at (word_batch ++ number_text k) after end
      → Added n l at (kind_text page f) after end
  unfolding kind_text
  batch-added page k f e r a = rw (eq-eqb _ _ e) (rw r at a)

  pub page-added : (page : ℕ) (f : List ℕ) → (page ≡ 4294967295 → ⊥) → Added n l at (word_page ++ number_text page) after end
      → Added n l at (kind_text page f) after end
  unfolding kind_text
  page-added page f e a = rw (ne_eqb _ _ e) a

  pub frame-added : (i : ℕ) (h : FrameHeader) (f : List ℕ) → h ≡ frame_header f
      → Added n l at (decimal i ++ kind_text h.page_num f ++ number_text h.commit_page_count ++ newline) after end → Added n l at (frame_line i f) after end
  unfolding frame_line
  frame-added i h f e a = rw e at a

  pub count-added : (k : ℕ) (last : Option ℕ) → last ≡ Some k → Added n l at (number_text k) after end → Added n l at (last_text last) after end
  unfolding last_text
  count-added k last e a = rw e a

  pub none-added : (last : Option ℕ) → last ≡ None → Added n l at (32 ∷ 45 ∷ []) after end → Added n l at (last_text last) after end
  unfolding last_text
  none-added last e a = rw e a

  pub opened-added : (len : ℕ) (r : Recovered) (w : Wal) → w ≡ wal_of len r
      → Added n l at (log_line w.header ++ frame_lines 0 r.frames ++ end_line w.frame_count w.last_commit_offset w.last_commit_page_count) after end
      → Added n l at (opened_text r) after end
  unfolding opened_text wal_of
  opened-added len r w e a = rw e at a

  pub long-added : (file : List ℕ) → 61712 < length file → Added n l at (refused_line refusal.Area) after end → Added n l at (listing file) after end
  unfolding listing
  long-added file h a = rw (lt-leb _ _ h) a

  pub listing-added : (file : List ℕ) (o : Result Wal Refusal) → length file ≤ 61712 → open_log file ≡ o → Added n l at (listing_of file o) after end
      → Added n l at (listing file) after end
  unfolding listing
  listing-added file o h e a = rw (le-leb _ _ h, e) a

-- ---- frame by frame

-- the lines of the first i good frames were added at `at`
pub record Lines (l before : List ℕ) (at : ℕ) (after : List ℕ) (end i : ℕ) : Type 0 where
  pub within : i ≤ length (recovered l).frames
  pub lines : Added (69 * i) before at (frame_lines 0 (take i (recovered l).frames)) after end
  pub same : length after ≡ length before

pub lines_start : (l before : List ℕ) (at : ℕ) → Lines l before at before at 0
unfolding frame_lines
lines_start l before at = record { within = omega arith; lines = added_none 0 before at; same = refl }

-- a listed log has 15 frames at most
pub few-frames : (l : List ℕ) → length l ≤ 61712 → frame_count_of (recovered l) ≤ 15
few-frames l h = omega (arith, frame_count_of-most l)

module _ {l before after : List ℕ} {at end i : ℕ} (s : Lines l before at after end i) (f : length l ≤ 61712) (b : at + 1035 ≤ length before) where
  pub lines-room : i < frame_count_of (recovered l) → end + 69 ≤ length after
  lines-room h = omega (arith, few-frames l f, s.lines.most, s.lines.place, s.same)

  pub lines_more : {new : List ℕ} {next : ℕ} → i < frame_count_of (recovered l) → readable (frame_at (chunk_at i) l) ≡ true
      → Added 69 after end (frame_line i (frame_at (chunk_at i) l)) new next → Lines l before at new next (i + 1)
  lines_more h r a =
      let k : i < length (recovered l).frames = readable-good l i h r in
      let w : at + 69 * i + 69 ≤ length before = omega (arith, few-frames l f) in
      let e : 69 * i + 69 ≡ 69 * (i + 1) = omega arith in
      let n = added_next s.lines a w in
      record {
        within = omega arith;
        lines = rw (e, lines-on l i h k) at n;
        same = added-length (lines-room h) a ∙ s.same;
      }

  pub lines_end : i ≡ length (recovered l).frames → Added 1035 before at (frame_lines 0 (recovered l).frames) after end
  lines_end e =
      let t : take i (recovered l).frames ≡ (recovered l).frames = take_all i (recovered l).frames (omega arith) in
      let m : 69 * i ≤ 1035 = omega (arith, few-frames l f) in
      added-most m (rw t at s.lines)

-- ---- the buffer afterwards

-- its first bytes are the listing
pub listing-front : (l out : List ℕ) → 2048 ≤ length out → take (length (listing l)) (listed_after l out) ≡ listing l
unfolding listed_after
listing-front l out h = rw (le-leb _ _ h) (get-put out 0 (listing l) (omega arith))
