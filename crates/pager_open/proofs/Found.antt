-- What an opening finds in the log: the committed frames, page 0 among them, and the log as it is then open. Assumes nothing.
use mathlib.Core.Path.{◌≡◌, refl, sym, ap, ◌∙◌}
use mathlib.Core.Bool.{Bool, true, false}
use mathlib.Core.List.{List, [], ◌∷◌, ◌++◌}
use Prim.Native.Nat.{ℕ, zero, suc, ◌+◌, ◌-◌, ◌/◌, ◌≤◌}
use native.Mathlib.Omega.{arith}
use borrow.Author.Tests.{eq-eqb, ne_eqb}
use lib.Dec.{eqb}
use lib.ListN.{length, take, length-take, length-drop}
use lib.Seq.{take-take}
use Rattle.std.specs.Prelude.{Ok}
use Rattle.le.specs.Choice.{pick}
use Rattle.frame.specs.Frame.{frame_at, body_of}
use Rattle.header.specs.Header.{decode_header}
use Rattle.header.specs.declared.DbHeader.{DbHeader}
use Rattle.wal.specs.Header.{wal_header_in}
use Rattle.wal.specs.Recovery.{chunks, chunk_at, page_of, page_in, recovered, committed_frames, commit_point, last_commit_of, last_count, wal_of}
use Rattle.wal.specs.Write.{empty_wal, with_clock}
use Rattle.wal.specs.declared.Wal.{Wal}
use Rattle.wal.proofs.Places.{length-chunks, chunk-gone, take_chunk}
use Rattle.wal.proofs.Frames.{page_in-snoc, committed-most}
use Rattle.wal.proofs.Recovered.{frames-most, committed-chunks, commit-within, committed-committed, cut-committed}
use Rattle.wal.proofs.Opening.{known-header, known-commit, known-last, cut-known, length_cut}
use Rattle.pager_state.specs.Stores.{File, content}
use Rattle.pager_state.specs.Opening.{place_from, How, kept_of, clock_taken, found_in, found_fresh, found_by, recounted, header_by}
use Rattle.pager_open.specs.Judging.{committed_wal, kept_wal}
use Rattle.pager_open.proofs.Table.{place-snoc}

-- ---- page 0

pub length-frame : (at : ℕ) (l : List ℕ) → at + 4112 ≤ length l → length (body_of (frame_at at l)) ≡ 4096
unfolding body_of
length-frame at l h = simp (length-drop, length-take) (omega arith)

-- a page has a body among the chunks where one of them has a place for it
module _ (n : ℕ) (l : List ℕ) where
  one_more : (fs : List (List ℕ)) (f : List ℕ) → length (body_of f) ≡ 4096 → eqb (length (body_of (page_in n fs))) 0 ≡ eqb (place_from n 0 fs) 0
      → eqb (length (body_of (page_in n (fs ++ (f ∷ []))))) 0 ≡ eqb (place_from n 0 (fs ++ (f ∷ []))) 0
  one_more fs f k e = rw (page_in-snoc n fs f, place-snoc n 0 fs f) (by (eqb (page_of f) n))
    where
      by : (b : Bool) → eqb (length (body_of (pick b f (page_in n fs)))) 0 ≡ eqb (pick b (chunk_at (0 + length fs)) (place_from n 0 fs)) 0
      by true = rw (k, ne_eqb (chunk_at (0 + length fs)) 0 (λ z. omega arith))
      by false = e

  body-or-none : (k : ℕ) → k ≤ (length l - 32) / 4112 → eqb (length (body_of (page_in n (take k (chunks l))))) 0 ≡ eqb (place_from n 0 (take k (chunks l))) 0
  unfolding place_from page_in body_of
  body-or-none zero h = refl
  body-or-none (suc k) h =
      rw (take_chunk k l (omega arith))
      (one_more (take k (chunks l)) (frame_at (chunk_at k) l) (length-frame (chunk_at k) l (omega arith)) (body-or-none k (omega arith)))

  pub body-found : eqb (length (body_of (page_in n (committed_frames (recovered l))))) 0 ≡ eqb (place_from n 0 (committed_frames (recovered l))) 0
  body-found =
      let k : length (committed_frames (recovered l)) ≤ (length l - 32) / 4112 =
      omega (arith, committed-most (recovered l).frames, frames-most l, length-chunks l) in
      rw (committed-chunks l) (body-or-none (length (committed_frames (recovered l))) k)

-- ---- a log that exists, kept or cut

pub found-frames : (clean : Bool) (l : List ℕ) → (found_in clean l).frames ≡ committed_frames (recovered l)
unfolding found_in kept_of
found-frames true l = cut-committed l
found-frames false l = refl

pub found-last : (clean : Bool) (l : List ℕ) → (found_in clean l).last ≡ last_commit_of (recovered l)
unfolding found_in kept_of
found-last true l = ap last_count (cut-committed l)
found-last false l = refl

header-there : (l : List ℕ) → (recovered l).header ≡ wal_header_in l
unfolding recovered
header-there l = refl

-- "its frame count is the frames kept"
cut-wal : (l : List ℕ) (v : Wal) → 32 ≤ length l → v ≡ wal_of (length l) (recovered l) → kept_wal true l v ≡ (found_in true l).log
unfolding found_in kept_of committed_wal clock_taken with_clock
cut-wal l v h k =
    let n : (commit_point (recovered l) - 32) / 4112 ≡ length (committed_frames (recovered l)) = omega arith in
    rw (
      length_cut l h,
      cut-known l,
      known-commit l v k,
      known-last l v k,
      n,
      known-header l v k,
      header-there l,
      committed-committed l,
    )

pub found-log : (clean : Bool) (l : List ℕ) (v : Wal) → 32 ≤ length l → v ≡ wal_of (length l) (recovered l) → kept_wal clean l v ≡ (found_in clean l).log
unfolding found_in kept_of clock_taken with_clock wal_of
found-log true l v h k = cut-wal l v h k
found-log false l v h k = k

-- "Page 0 in the log replaces the main header, its own page count included"
module _ (mh : DbHeader) (clean : Bool) (l : List ℕ) where
  page-zero : eqb (length (body_of (page_in 0 (committed_frames (recovered l))))) 0 ≡ eqb (place_from 0 0 (found_in clean l).frames) 0
  page-zero = body-found 0 l ∙ rw (found-frames clean l)

  pub header-zero : {z : List ℕ} → z ≡ body_of (page_in 0 (committed_frames (recovered l))) → (length z ≡ 0 → ⊥) → decode_header z ≡ header_by mh (found_in clean l)
  unfolding header_by
  header-zero {z} e n =
      let b : eqb (place_from 0 0 (found_in clean l).frames) 0 ≡ false = sym page-zero ∙ rw (← e) (ne_eqb (length z) 0 n) in
      rw (b, found-frames clean l, e)

  -- "otherwise the last commit count replaces the page count"
  pub header-main : {z : List ℕ} → z ≡ body_of (page_in 0 (committed_frames (recovered l))) → length z ≡ 0
      → Ok (recounted mh (last_commit_of (recovered l))) ≡ header_by mh (found_in clean l)
  unfolding header_by
  header-main {z} e n =
      let b : eqb (place_from 0 0 (found_in clean l).frames) 0 ≡ true = sym page-zero ∙ rw (← e) (eq-eqb (length z) 0 n) in
      rw (b, found-last clean l)

-- ---- either log

-- the committed frames end at the commit point of the log that is then open
end_of : (how : How) (f : File) (b : Bool) → let x = pick b (found_in how.clean (content f)) (found_fresh how) in chunk_at (length x.frames) ≡ x.log.last_commit_offset
unfolding found_in found_fresh wal_of empty_wal with_clock
end_of how f true = refl
end_of how f false = refl

pub found-end : (how : How) (f : File) → chunk_at (length (found_by how f).frames) ≡ (found_by how f).log.last_commit_offset
unfolding found_by
found-end how f = end_of how f how.exists

-- the frames are the chunks of the area in front of that
pub found-chunks : (clean : Bool) (f : File) → 32 ≤ length (content f)
    → chunks (take (chunk_at (length (found_in clean (content f)).frames)) f.area) ≡ (found_in clean (content f)).frames
found-chunks clean f h =
    let l : List ℕ = content f in
    let w : commit_point (recovered l) ≤ f.len = omega (arith, commit-within l h, length-take f.len f.area) in
    let t : take (commit_point (recovered l)) l ≡ take (commit_point (recovered l)) f.area = take-take (commit_point (recovered l)) f.len f.area w in
    rw (found-frames clean l, ← t) (committed-committed l)

pub fresh-chunks : (how : How) (l : List ℕ) → chunks (take (chunk_at (length (found_fresh how).frames)) l) ≡ (found_fresh how).frames
unfolding found_fresh
fresh-chunks how l = chunk-gone 0 (take 32 l) (rw length-take (omega arith))
