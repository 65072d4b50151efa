-- An open log that is appended to, whatever its tail: which frames its reads go through. Assumes nothing.
use Rattle.std.proofs.Common.{◌≡◌, ℕ, ◌+◌, ◌*◌, ◌^◌, ◌<◌, ◌≤◌, Bool, true, false, not, eqb, List, [], ◌∷◌, ◌++◌, length, get_or, take, drop, sym, refl, ap, ◌∙◌, arith, length-append, take-append-drop, take_all, take-take, eq-eqb, ne_eqb, eqb-true}
use lib.Seq.{take-length, take-append-le}
use Rattle.le.specs.Choice.{pick}
use Rattle.le.proofs.Compare.{both_true}
use Rattle.frame.specs.Frame.{encode_frame, body_of}
use Rattle.frame.proofs.Stores.{length-encode_frame}
use Rattle.frame.proofs.RoundTrip.{body_back}
use Rattle.wal.specs.Header.{wal_header_in}
use Rattle.wal.specs.Recovery.{chunks, chunk_at, commit_count, readable_as, good, good_front, committed, page_in, Recovered, recovered, committed_frames, good_end_of, commit_point, wal_of}
use Rattle.wal.specs.Read.{committed_chunks, read_log_page, batch_from, next_batch}
use Rattle.wal.specs.Write.{longer, joins, with_frame, with_clock}
use Rattle.wal.specs.declared.Wal.{Wal}
use Rattle.wal.proofs.HeaderRoundTrip.{Fits, header-append}
use Rattle.wal.proofs.Places.{length-chunks, chunks-append, chunks-cut, runs-one}
use Rattle.wal.proofs.Frames.{good-append, good-again, good-each, undecodable-none, committed-snoc, committed-front, committed-most, committed-more, page_in-snoc, page-encoded, count-encoded, good-encoded, good-page}
use Rattle.wal.proofs.Recovered.{frames-front, frames-most}
use Rattle.wal.proofs.Opening.{known-header, known-len, known-good, known-commit}

-- the frames that the log knows to be good
abbrev pub kept_frames : List ℕ → Wal → List (List ℕ)
kept_frames l w = committed_chunks w.good_end l

-- the numbers of an open log of bytes l: its good frames and the commits among them end where these say
pub record Kept (l : List ℕ) (w : Wal) : Type 0 where
  pub len : w.len ≡ length l
  pub header : Fits w.header
  pub salt : w.header.salt ≡ (wal_header_in l).salt
  pub all-good : good_front w.header.salt (kept_frames l w) ≡ kept_frames l w
  pub end : w.good_end ≡ chunk_at (length (kept_frames l w))
  pub inside : w.good_end ≤ length l
  pub commit : w.last_commit_offset ≡ chunk_at (length (committed (kept_frames l w)))

-- ---- as it was opened

good-within : (l : List ℕ) → 32 ≤ length l → good_end_of (recovered l) ≤ length l
good-within l h = omega (arith, frames-most l, length-chunks l)

-- the chunks before the good frames' end are the good frames
known-frames-kept : (l : List ℕ) → chunks (take (good_end_of (recovered l)) l) ≡ (recovered l).frames
known-frames-kept l = chunks-cut (length (recovered l).frames) l (frames-most l) ∙ sym (frames-front l)

frames-good : (l : List ℕ) → good_front (wal_header_in l).salt (recovered l).frames ≡ (recovered l).frames
unfolding recovered
frames-good l =
    let fs : List (List ℕ) = good_front (wal_header_in l).salt (chunks l) in
    let t : take (length fs) fs ≡ fs = take-length fs in
    rw t at (good-again (wal_header_in l).salt (chunks l) (length fs))

pub kept-known : (l : List ℕ) (w : Wal) → 32 ≤ length l → w ≡ wal_of (length l) (recovered l) → Fits w.header → Kept l w
kept-known l w h k f =
    let s : w.header.salt ≡ (wal_header_in l).salt = rw (known-header l w k) in
    let c : kept_frames l w ≡ (recovered l).frames = rw (known-good l w k) (known-frames-kept l) in
    record {
      len = known-len l w k;
      header = f;
      salt = s;
      all-good = rw (c, s) (frames-good l);
      end = rw (c, known-good l w k);
      inside = rw (known-good l w k) (good-within l h);
      commit = rw (c, known-commit l w k);
    }

-- ---- a frame more

module _ (l : List ℕ) (w : Wal) (k : Kept l w) where
  pub kept-long : 32 ≤ length l
  kept-long = omega (arith, k.inside, k.end)

  salt-kept : (t : List ℕ) → w.header.salt ≡ (wal_header_in (l ++ t)).salt
  salt-kept t = k.salt ∙ rw (header-append l t kept-long)

  -- it joins nothing
  kept-aside : (t : List ℕ) (count : ℕ) → length t ≡ 4112 → Kept (l ++ t) (longer false w count)
  unfolding longer
  kept-aside t count n =
      let c : chunks (take w.good_end (l ++ t)) ≡ kept_frames l w = rw (take-append-le w.good_end l t k.inside) in
      let m : length (l ++ t) ≡ length l + 4112 = simp (length-append, n) in
      record {
        len = rw (k.len, m);
        header = k.header;
        salt = salt-kept t;
        all-good = rw c k.all-good;
        end = rw c k.end;
        inside = rw m (omega (arith, k.inside));
        commit = rw c k.commit;
      }

  -- where nothing stands behind the good frames, all is kept
  kept-all : w.len ≡ w.good_end → chunks l ≡ kept_frames l w
  kept-all e = rw (take_all w.good_end l (omega (arith, k.len, e)))

  -- it joins the good ones
  module _ (f : List ℕ) (n : length f ≡ 4112) (g : good w.header.salt f ≡ true) (e : w.len ≡ w.good_end) where
    length_more : length (l ++ f) ≡ length l + 4112
    length_more = simp (length-append, n)

    kept_more : chunks (take (w.len + 4112) (l ++ f)) ≡ kept_frames l w ++ (f ∷ [])
    kept_more =
        let m : length l ≡ 32 + 4112 * length (kept_frames l w) = omega (arith, k.end, k.len, e) in
        rw (take_all (w.len + 4112) (l ++ f) (omega (arith, length_more, k.len)), chunks-append (length (kept_frames l w)) l f m, runs-one f n, kept-all e)

    good_more : good_front w.header.salt (kept_frames l w ++ (f ∷ [])) ≡ kept_frames l w ++ (f ∷ [])
    unfolding good_front
    good_more = good-append w.header.salt (kept_frames l w) (f ∷ []) k.all-good ∙ rw g

    count-more : length (kept_frames l w ++ (f ∷ [])) ≡ length (kept_frames l w) + 1
    count-more = simp length-append

    commit-more : (b : Bool) → eqb (commit_count f) 0 ≡ b
        → pick (not b) (w.len + 4112) w.last_commit_offset ≡ chunk_at (length (committed (kept_frames l w ++ (f ∷ []))))
    commit-more true c = rw (committed-snoc (kept_frames l w) f, c) k.commit
    commit-more false c = rw (committed-snoc (kept_frames l w) f, c, count-more) (omega (arith, k.end, e))

    kept-joined : Kept (l ++ f) (longer true w (commit_count f))
    unfolding longer
    kept-joined =
        record {
          len = rw (k.len, length_more);
          header = k.header;
          salt = salt-kept f;
          all-good = rw kept_more good_more;
          end = rw (kept_more, count-more) (omega (arith, k.end, e));
          inside = rw length_more (omega (arith, k.len));
          commit = rw kept_more (commit-more (eqb (commit_count f) 0) refl);
        }

  -- a frame as it is appended, good or not
  module _ (page count : ℕ) (body : List ℕ) (nb : length body ≡ 4096) (hp : page < 2 ^ 32) (hc : count < 2 ^ 32) where
    abbrev added : List ℕ
    added = encode_frame page count w.header.salt body

    length-added : length added ≡ 4112
    length-added = length-encode_frame page count w.header.salt body nb

    joined-or-aside : (b : Bool) → joins w (readable_as page body) ≡ b → Kept (l ++ added) (longer b w count)
    joined-or-aside true j =
        let p = both_true (readable_as page body) (eqb w.len w.good_end) j in
        let g : good w.header.salt added ≡ true = good-encoded page count w.header.salt body hp k.header.salt ∙ p.0 in
        let c : commit_count added ≡ count = count-encoded page count w.header.salt body hc in
        rw c at (kept-joined added length-added g (eqb-true _ _ p.1))
    joined-or-aside false j = kept-aside added count length-added

    pub kept_frame : Kept (l ++ added) (longer (joins w (readable_as page body)) w count)
    kept_frame = joined-or-aside (joins w (readable_as page body)) refl

  -- the clock changes nothing of that
  pub kept-clock : (value : ℕ) → value < 2 ^ 64 → Kept l (with_clock w value)
  unfolding with_clock
  kept-clock value h =
      record {
        len = k.len;
        header = record { version = k.header.version; salt = k.header.salt; seq = k.header.seq; clock = h };
        salt = k.salt;
        all-good = k.all-good;
        end = k.end;
        inside = k.inside;
        commit = k.commit;
      }

  -- ---- what is read

  kept-front : kept_frames l w ≡ take (length (kept_frames l w)) (chunks l)
  kept-front =
      let n : length (kept_frames l w) ≤ length (chunks l) = omega (arith, k.end, k.inside, length-chunks l) in
      ap (λ (m : ℕ). committed_chunks m l) k.end ∙ chunks-cut (length (kept_frames l w)) l n

  -- reads go through the committed ones of the kept frames
  pub kept-committed : committed_chunks w.last_commit_offset l ≡ committed (kept_frames l w)
  kept-committed =
      let fs : List (List ℕ) = kept_frames l w in
      let m : length (committed fs) ≤ length (chunks l) = omega (arith, committed-most fs, k.end, k.inside, length-chunks l) in
      let t : take (length (committed fs)) (take (length fs) (chunks l)) ≡ take (length (committed fs)) (chunks l) = take-take (length (committed fs)) (length fs) (chunks l) (committed-most fs) in
      rw k.commit (chunks-cut (length (committed fs)) l m) ∙ sym t ∙ ap (take (length (committed fs))) (sym kept-front) ∙ sym (committed-front fs)

  -- .. so each is good
  committed-good : good_front w.header.salt (committed (kept_frames l w)) ≡ committed (kept_frames l w)
  committed-good =
      let fs : List (List ℕ) = kept_frames l w in
      rw (committed-front fs) (rw k.all-good at (good-again w.header.salt fs (length (committed fs))))

  pub kept-good : (i : ℕ) → i < length (committed_chunks w.last_commit_offset l) → good w.header.salt (get_or (committed_chunks w.last_commit_offset l) i []) ≡ true
  kept-good i h =
      let n : i < length (committed (kept_frames l w)) = rw kept-committed at h in
      rw kept-committed (rw committed-good at (good-each w.header.salt (committed (kept_frames l w)) i (rw committed-good n)))

  -- the good frames that an opening finds begin with the kept ones
  abbrev later : List (List ℕ)
  later = good_front (wal_header_in l).salt (drop (length (kept_frames l w)) (chunks l))

  pub kept_read : (recovered l).frames ≡ kept_frames l w ++ later
  unfolding recovered
  kept_read =
      let fs : List (List ℕ) = kept_frames l w in
      let d : chunks l ≡ fs ++ drop (length fs) (chunks l) = sym (take-append-drop (length fs) (chunks l)) ∙ ap (◌++ drop (length fs) (chunks l)) (sym kept-front) in
      ap (good_front (wal_header_in l).salt) d ∙ good-append (wal_header_in l).salt fs (drop (length fs) (chunks l)) (rw k.salt at k.all-good)

  -- .. and its committed frames with those that reads go through
  pub kept-committed-front : committed_chunks w.last_commit_offset l ≡ take (length (committed_chunks w.last_commit_offset l)) (committed_frames (recovered l))
  kept-committed-front = rw (kept-committed, kept_read) (committed-more (kept_frames l w) later)

  -- "Per page the last sealed frame counts"
  pub kept-page : (p : ℕ) → (p ≡ 4294967295 → ⊥) → read_log_page l w.last_commit_offset p ≡ body_of (page_in p (committed (kept_frames l w)))
  unfolding read_log_page
  kept-page p n = rw (ne_eqb p 4294967295 n, kept-committed)

  -- "batches come in log order"
  pub kept-batch : (i : ℕ) → next_batch l w.last_commit_offset i ≡ batch_from i (drop i (committed (kept_frames l w)))
  unfolding next_batch
  kept-batch i = rw kept-committed

  -- where nothing stands behind the good frames, all that an opening finds is kept
  pub kept_whole : w.len ≡ w.good_end → recovered l ≡ record { header = wal_header_in l; frames = kept_frames l w; stopped = false }
  unfolding recovered
  kept_whole e =
      let fs : List (List ℕ) = kept_frames l w in
      let c : chunks l ≡ fs = kept-all e in
      let g : good_front (wal_header_in l).salt fs ≡ fs = rw k.salt at k.all-good in
      rw (c, g, undecodable-none (wal_header_in l).salt fs g)

  pub kept-commit : w.len ≡ w.good_end → w.last_commit_offset ≡ commit_point (recovered l)
  kept-commit e = k.commit ∙ ap (λ (r : Recovered). commit_point r) (sym (kept_whole e))

  -- a frame that joins nothing changes no read
  pub aside_same : (t : List ℕ) (count : ℕ) → committed_chunks (longer false w count).last_commit_offset (l ++ t) ≡ committed_chunks w.last_commit_offset l
  unfolding longer
  aside_same t count =
      let h : w.last_commit_offset ≤ length l = omega (arith, k.commit, k.end, k.inside, committed-most (kept_frames l w)) in
      rw (take-append-le w.last_commit_offset l t h)

-- a page that is committed where it joins reads as its bytes
module _ (l : List ℕ) (w : Wal) (k : Kept l w) (page count : ℕ) (body : List ℕ) (nb : length body ≡ 4096) (hp : page < 2 ^ 32) (hc : count < 2 ^ 32)
    (np : page ≡ 4294967295 → ⊥) (e : w.len ≡ w.good_end) where
  abbrev page-frame : List ℕ
  page-frame = encode_frame page count w.header.salt body

  page-kept : Kept (l ++ page-frame) (with_frame w count)
  page-kept = rw (ne_eqb page 4294967295 np) at (kept_frame l w k page count body nb hp hc)

  page-joined : kept_frames (l ++ page-frame) (with_frame w count) ≡ kept_frames l w ++ (page-frame ∷ [])
  unfolding longer
  page-joined =
      let g : good w.header.salt page-frame ≡ true = good-page page count w.header.salt body hp k.header.salt np in
      rw (eq-eqb _ _ e) (kept_more l w k page-frame (length-encode_frame page count w.header.salt body nb) g e)

  pub joined-shown : (count ≡ 0 → ⊥) → read_log_page (l ++ page-frame) (with_frame w count).last_commit_offset page ≡ body
  joined-shown nc =
      kept-page (l ++ page-frame) (with_frame w count) page-kept page np
      ∙ rw (
        page-joined,
        committed-snoc (kept_frames l w) page-frame,
        count-encoded page count w.header.salt body hc,
        ne_eqb count 0 nc,
        page_in-snoc page (kept_frames l w) page-frame,
        page-encoded page count w.header.salt body hp,
        eq-eqb page page refl,
      )
      (body_back page count w.header.salt body)
