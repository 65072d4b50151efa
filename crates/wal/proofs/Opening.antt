-- What an open log knows: the laws of its numbers. Assumes nothing.
use Rattle.std.proofs.Common.{◌≡◌, ℕ, ◌+◌, ◌-◌, ◌*◌, ◌/◌, ◌%◌, ◌^◌, ◌<◌, ◌≤◌, Bool, true, false, eqb, leb, List, [], ◌∷◌, ◌++◌, length, take, sym, refl, ap, ◌∙◌, arith, length-append, length-take-le, eq-eqb, le-leb, leb-true}
use Rattle.std.specs.Prelude.{Err, Ok, Result}
use Rattle.le.specs.Choice.{pick}
use Rattle.refusal.specs.declared.Refusal.TheVariants as refusal
use Rattle.refusal.specs.declared.Refusal.{Refusal}
use Rattle.wal.specs.Header.{wal_header_in, decode_wal_header}
use Rattle.wal.specs.Recovery.{chunks, commit_count, committed, last_count, Recovered, recovered, committed_frames, good_end_of, commit_point, last_commit_of, frame_count_of, wal_of, wal_area, opened_by, open_log}
use Rattle.wal.specs.Write.{empty_wal, longer, with_frame}
use Rattle.wal.specs.declared.WalHeader.{WalHeader}
use Rattle.wal.specs.declared.Wal.{Wal}
use Rattle.wal.proofs.HeaderRoundTrip.{decoded-as}
use Rattle.wal.proofs.Places.{length-chunks}
use Rattle.wal.proofs.Frames.{count_most, committed-snoc, committed-again, last_count-snoc}
use Rattle.wal.proofs.Recovered.{extended, commit-within, recovered-cut}

-- ---- one frame more

-- without frames
pub wal-empty : (h : WalHeader) → wal_of 32 (record { header = h; frames = []; stopped = false }) ≡ empty_wal h
unfolding wal_of empty_wal committed last_count
wal-empty h = refl

module _ (n : ℕ) (r : Recovered) (f : List ℕ) where
  extended-committed : (b : Bool) → eqb (commit_count f) 0 ≡ b → committed_frames (extended r f) ≡ pick b (committed_frames r) (r.frames ++ (f ∷ []))
  extended-committed true e = committed-snoc r.frames f ∙ rw e
  extended-committed false e = committed-snoc r.frames f ∙ rw e

  frames-one : length (r.frames ++ (f ∷ [])) ≡ length r.frames + 1
  frames-one = simp length-append

  count-one : length r.frames + 1 < 2 ^ 64 → (length r.frames + 0 + 1) % 2 ^ 64 ≡ length r.frames + 1 + 0
  count-one h = omega arith

  end-one : 32 + 4112 * length r.frames ≡ n → 32 + 4112 * (length r.frames + 1) ≡ n + 4112
  end-one k = omega arith

  at-end : 32 + 4112 * length r.frames ≡ n → eqb n (32 + 4112 * length r.frames) ≡ true
  at-end k = eq-eqb _ _ (sym k)

  with-frame : (b : Bool) → eqb (commit_count f) 0 ≡ b → 32 + 4112 * length r.frames ≡ n → r.stopped ≡ false → length r.frames + 1 < 2 ^ 64
      → wal_of (n + 4112) (extended r f) ≡ with_frame (wal_of n r) (commit_count f)
  unfolding wal_of longer
  with-frame true e k s h = rw (extended-committed true e, frames-one, e, s, count-one h, end-one k, at-end k)
  with-frame false e k s h = rw (extended-committed false e, frames-one, e, s, count-one h, end-one k, at-end k, last_count-snoc r.frames f)

  -- a good frame read or appended at the log's length, behind frames only
  pub wal-append : 32 + 4112 * length r.frames ≡ n → r.stopped ≡ false → length r.frames + 1 < 2 ^ 64
      → wal_of (n + 4112) (extended r f) ≡ with_frame (wal_of n r) (commit_count f)
  wal-append k s h = with-frame (eqb (commit_count f) 0) refl k s h

-- ---- what an open log is

pub record OpenLog (l : List ℕ) (w : Wal) : Type 0 where
  pub area : length l ≤ wal_area
  pub long : 32 ≤ length l
  pub header : decode_wal_header l ≡ Ok w.header
  pub known : w ≡ wal_of (length l) (recovered l)

area-of : (t : Bool) (x : Result Wal Refusal) (w : Wal) → pick t x (Err refusal.Area) ≡ Ok w → (t ≡ true) × (x ≡ Ok w)
area-of true x w e = (refl, e)
area-of false x w e = let z : ◌≡◌ {A = ℕ} 0 1 = cc in absurd (omega arith)

-- the header that was decoded, and the log that was opened
record By (d : Result WalHeader Refusal) (v w : Wal) : Type 0 where
  found : WalHeader
  header : d ≡ Ok found
  same : v ≡ w

opened-by : (d : Result WalHeader Refusal) (v w : Wal) → opened_by d v ≡ Ok w → By d v w
opened-by (Ok h) v w e = let k : v ≡ w = cc in record { found = h; header = refl; same = k }
opened-by (Err r) v w e = let z : ◌≡◌ {A = ℕ} 0 1 = cc in absurd (omega arith)

pub open-known : (l : List ℕ) (w : Wal) → open_log l ≡ Ok w → OpenLog l w
unfolding open_log wal_of recovered
open-known l w e =
    let a = area-of (leb (length l) wal_area) _ w e in
    let b = opened-by (decode_wal_header l) (wal_of (length l) (recovered l)) w a.1 in
    let r = decoded-as l b.found b.header in
    let h : wal_header_in l ≡ w.header = ap (λ (x : Wal). x.header) b.same in
    record {
      area = leb-true _ _ a.0;
      long = r.long;
      header = b.header ∙ ap Ok (sym r.fields ∙ h);
      known = sym b.same;
    }

-- what opening answers is what decoding the header says, in a log that is not too long
pub opened-as : (l : List ℕ) {d : (Result WalHeader Refusal)} → length l ≤ wal_area → decode_wal_header l ≡ d
    → opened_by d (wal_of (length l) (recovered l)) ≡ open_log l
unfolding open_log
opened-as l a e = rw (le-leb (length l) 4210720 a, e)

-- .. so it opens where the header decodes
pub opens : (l : List ℕ) (h : WalHeader) → length l ≤ wal_area → decode_wal_header l ≡ Ok h
    → open_log l ≡ Ok (wal_of (length l) (recovered l))
opens l h a d = sym (opened-as l a d)

-- ---- its numbers

-- the counted frames are among the chunks
pub frame_count_of-most : (l : List ℕ) → frame_count_of (recovered l) ≤ (length l - 32) / 4112
unfolding recovered
frame_count_of-most l = omega (arith, count_most (wal_header_in l).salt (chunks l), length-chunks l)

module _ (l : List ℕ) (w : Wal) (k : w ≡ wal_of (length l) (recovered l)) where
  pub known-header : w.header ≡ wal_header_in l
  unfolding wal_of recovered
  known-header = ap (λ (x : Wal). x.header) k

  pub known-len : w.len ≡ length l
  unfolding wal_of
  known-len = ap (λ (x : Wal). x.len) k

  pub known-good : w.good_end ≡ good_end_of (recovered l)
  unfolding wal_of
  known-good = ap (λ (x : Wal). x.good_end) k

  pub known-commit : w.last_commit_offset ≡ commit_point (recovered l)
  unfolding wal_of
  known-commit = ap (λ (x : Wal). x.last_commit_offset) k

  pub known-last : w.last_commit_page_count ≡ last_commit_of (recovered l)
  unfolding wal_of
  known-last = ap (λ (x : Wal). x.last_commit_page_count) k

  pub known-frames : w.frame_count ≡ frame_count_of (recovered l)
  unfolding wal_of
  known-frames = ap (λ (x : Wal). x.frame_count) k

  -- the commit point lies behind the header and within the length
  pub known_behind : 32 ≤ w.last_commit_offset
  known_behind = rw known-commit (omega arith)

  pub known-within : 32 ≤ length l → w.last_commit_offset ≤ w.len
  known-within h = rw (known-commit, known-len) (commit-within l h)

  -- the log area has 1,024 frames
  pub known-most : length l ≤ wal_area → w.frame_count ≤ 1024
  known-most h = rw known-frames (omega (arith, frame_count_of-most l))

-- a log cut at its commit point, as a clean opening leaves it: "its frame count is the frames kept"
pub cut-known : (l : List ℕ) → wal_of (commit_point (recovered l)) (recovered (take (commit_point (recovered l)) l))
    ≡ record {
      header = (recovered l).header;
      len = commit_point (recovered l);
      good_end = commit_point (recovered l);
      last_commit_offset = commit_point (recovered l);
      last_commit_page_count = last_commit_of (recovered l);
      frame_count = length (committed_frames (recovered l));
    }
unfolding wal_of
cut-known l =
    let z : length (committed_frames (recovered l)) + 0 ≡ length (committed_frames (recovered l)) = omega arith in
    rw (recovered-cut l, committed-again (recovered l).frames, z)

pub length_cut : (l : List ℕ) → 32 ≤ length l → length (take (commit_point (recovered l)) l) ≡ commit_point (recovered l)
length_cut l h = length-take-le (commit_point (recovered l)) l (commit-within l h)
