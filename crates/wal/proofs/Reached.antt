-- However a log was opened or made and then appended to: its reads go through good, committed frames. Assumes nothing.
use Rattle.std.proofs.Common.{◌≡◌, ℕ, ◌+◌, ◌^◌, ◌<◌, ◌≤◌, Bool, true, false, eqb, leb, List, [], ◌++◌, length, get_or, take, drop, sym, refl, ap, ◌∙◌, ⊎_elim, arith, length-drop, take-append-drop, length-take, length-take-le, take_all, take-take, eq-eqb, ne_eqb, eqb-true, le-leb, leb-true}
use Rattle.std.specs.Prelude.{Err, Ok}
use Rattle.le.specs.Choice.{pick}
use Rattle.le.specs.Le.{Bytes, put}
use Rattle.le.proofs.Compare.{both_true}
use Rattle.le.proofs.Tests.{le-or-lt}
use Rattle.mvcc.proofs.Bytes.{bytes_take}
use Rattle.frame.specs.Frame.{encode_frame, body_of}
use Rattle.frame.proofs.Stores.{length-encode_frame}
use Rattle.refusal.specs.declared.Refusal.TheVariants as refusal
use Rattle.wal.specs.Header.{encode_wal_header, wal_header_in}
use Rattle.wal.specs.Recovery.{chunks, readable_as, good, good_front, committed, page_in, recovered, committed_frames, wal_of, open_log}
use Rattle.wal.specs.Read.{committed_chunks, read_log_page, batch_from, next_batch}
use Rattle.wal.specs.Write.{empty_wal, with_header, created_header, create_answer, area_fine, truncated_header, truncate_answer, truncate_after, longer, joins, with_frame, appendable, has_room, append_frame_answer, append_frame_after, with_clock, clock_answer}
use Rattle.wal.specs.Reached.{log_file, Reached, by-open, by-create, by-truncate, by_append, by-clock, by-empty}
use Rattle.wal.specs.declared.WalHeader.{WalHeader}
use Rattle.wal.specs.declared.Wal.{Wal}
use Rattle.wal.proofs.Encoding.{length-encode_wal_header}
use Rattle.wal.proofs.HeaderRoundTrip.{Written, Fits, header-fits, header-append}
use Rattle.wal.proofs.Places.{runs-short}
use Rattle.wal.proofs.Frames.{committed-most}
use Rattle.wal.proofs.Opening.{open-known, known-header, known-len}
use Rattle.wal.proofs.Writing.{file-longer, file-headed, created-written, truncated-written, alone-known}
use Rattle.wal.proofs.Kept.{Kept, kept_frames, kept-known, kept-long, kept_frame, kept-clock, kept-committed, kept-good, kept-committed-front, kept_whole}

-- ---- what an answer says

created-as : (t : Bool) (x w : Wal) → pick t (Ok x) (Err refusal.Area) ≡ Ok w → (t ≡ true) × (x ≡ w)
created-as true x w e = let h : x ≡ w = cc in (refl, h)
created-as false x w e = let z : ◌≡◌ {A = ℕ} 0 1 = cc in absurd (omega arith)

truncated-as : (t : Bool) (x w : Wal) → pick t (Ok x) (Err refusal.Area) ≡ Ok w → (t ≡ true) × (x ≡ w)
truncated-as true x w e = let h : x ≡ w = cc in (refl, h)
truncated-as false x w e = let z : ◌≡◌ {A = ℕ} 0 1 = cc in absurd (omega arith)

clock-as : (t : Bool) (x w : Wal) → pick t (Ok x) (Err refusal.Clock) ≡ Ok w → x ≡ w
clock-as true x w e = cc
clock-as false x w e = let z : ◌≡◌ {A = ℕ} 0 1 = cc in absurd (omega arith)

appended-by : (s t : Bool) (x w : Wal) → pick s (pick t (Ok x) (Err refusal.LogFull)) (Err refusal.Area) ≡ Ok w
    → (s ≡ true) × (t ≡ true) × (x ≡ w)
appended-by true true x w e = let h : x ≡ w = cc in (refl, refl, h)
appended-by true false x w e = let z : ◌≡◌ {A = ℕ} 0 1 = cc in absurd (omega arith)
appended-by false t x w e = let z : ◌≡◌ {A = ℕ} 0 1 = cc in absurd (omega arith)

-- an append that was not refused
pub record Appended (l : List ℕ) (w : Wal) (page : ℕ) (body : List ℕ) (count : ℕ) (v : Wal) : Type 0 where
  pub paged : length body ≡ 4096
  pub area : length l ≡ 4210720
  pub room : w.len + 4112 ≤ 4210720
  pub is : v ≡ longer (joins w (readable_as page body)) w count
  pub bytes : append_frame_after l w page body count ≡ put l w.len (encode_frame page count w.header.salt body)

pub appended-as : (l : List ℕ) (w : Wal) (page : ℕ) (body : List ℕ) (count : ℕ) (v : Wal) → append_frame_answer l w page body count ≡ Ok v
    → Appended l w page body count v
unfolding append_frame_answer append_frame_after
appended-as l w page body count v e =
    let p = appended-by (appendable l w body) (has_room w) _ v e in
    let a = both_true (eqb (length body) 4096) _ p.0 in
    let b = both_true (eqb (length l) 4210720) (leb w.len 4210720) a.1 in
    record {
      paged = eqb-true _ _ a.0;
      area = eqb-true _ _ b.0;
      room = leb-true _ _ p.1;
      is = sym p.2;
      bytes = rw (p.0, p.1);
    }

-- ---- each step

-- the first bytes, as many as they are
take_again : (n : ℕ) (l : List ℕ) → take (length (take n l)) l ≡ take n l
take_again n l =
    ⊎_elim
    (λ h. rw (length-take-le n l h))
    (λ h. let e : take n l ≡ l = take_all n l (omega arith) in rw e (take_all (length l) l (omega arith)))
    (le-or-lt n (length l))

opened-kept : (area : List ℕ) (w : Wal) (n : ℕ) → Bytes area → open_log (take n area) ≡ Ok w → Kept (log_file area w) w
opened-kept area w n b e =
    let o = open-known (take n area) w e in
    let f : Fits w.header = rw (known-header (take n area) w o.known) (header-fits (take n area) (bytes_take n area b)) in
    let t : log_file area w ≡ take n area = ap (λ (m : ℕ). take m area) (known-len (take n area) w o.known) ∙ take_again n area in
    rw t (kept-known (take n area) w o.long o.known f)

-- a log of its header alone
headed-kept : (l : List ℕ) (h : WalHeader) → length l ≡ 4210720 → Written h → Kept (log_file (with_header l h) (empty_wal h)) (empty_wal h)
unfolding empty_wal
headed-kept l h n p =
    let m : length (encode_wal_header h) ≡ 32 = length-encode_wal_header h in
    let k : empty_wal h ≡ wal_of (length (encode_wal_header h)) (recovered (encode_wal_header h)) = rw m (sym (alone-known h p)) in
    let f : Fits h = record { version = omega (arith, p.version); salt = p.salt; seq = p.seq; clock = p.clock } in
    rw (file-headed l h n) (kept-known (encode_wal_header h) (empty_wal h) (omega arith) k f)

-- a log cut to its header
emptied-kept : (area : List ℕ) (w : Wal) → Kept (log_file area w) w → Kept (log_file area (empty_wal w.header)) (empty_wal w.header)
unfolding empty_wal chunks good_front committed
emptied-kept area w k =
    let h : 32 ≤ length (log_file area w) = kept-long (log_file area w) w k in
    let m : 32 ≤ w.len = omega (arith, k.len) in
    let t : take 32 area ≡ take 32 (log_file area w) = sym (take-take 32 w.len area m) in
    let n : length (take 32 (log_file area w)) ≡ 32 = length-take-le 32 (log_file area w) h in
    let s : wal_header_in (log_file area w) ≡ wal_header_in (take 32 (log_file area w)) =
    rw take-append-drop at (header-append (take 32 (log_file area w)) (drop 32 (log_file area w)) (omega arith)) in
    let c : kept_frames (take 32 (log_file area w)) (empty_wal w.header) ≡ [] =
    runs-short (drop 32 (take 32 (take 32 (log_file area w)))) (simp (length-drop, length-take) (omega arith)) in
    rw t (record {
      len = sym n;
      header = k.header;
      salt = k.salt ∙ rw s;
      all-good = rw c;
      end = rw c;
      inside = omega arith;
      commit = rw c;
    })

module _ (area : List ℕ) (w v : Wal) (k : Kept (log_file area w) w) where
  appended-kept : (page : ℕ) (body : List ℕ) (count : ℕ) → page < 2 ^ 32 → count < 2 ^ 32 → append_frame_answer area w page body count ≡ Ok v
      → Kept (log_file (append_frame_after area w page body count) v) v
  unfolding longer
  appended-kept page body count hp hc e =
      let a = appended-as area w page body count v e in
      let f : List ℕ = encode_frame page count w.header.salt body in
      let t : take (w.len + 4112) (put area w.len f) ≡ log_file area w ++ f =
      file-longer 4112 area w.len f (length-encode_frame page count w.header.salt body a.paged) (omega (arith, a.area, a.room)) in
      rw (a.is, a.bytes, t) (kept_frame (log_file area w) w k page count body a.paged hp hc)

  truncated-kept : (salt : ℕ) → salt < 2 ^ 32 → truncate_answer area w salt ≡ Ok v → Kept (log_file (truncate_after area w salt) v) v
  unfolding truncate_answer truncate_after
  truncated-kept salt h e =
      let p = truncated-as (area_fine area w) (empty_wal (truncated_header w.header salt)) v e in
      let n : length area ≡ 4210720 = eqb-true _ _ (both_true (eqb (length area) 4210720) (leb w.len 4210720) p.0).0 in
      rw (← p.1, p.0) (headed-kept area (truncated_header w.header salt) n (truncated-written w.header salt h k.header.clock))

  clock-kept : (value : ℕ) → value < 2 ^ 64 → clock_answer w value ≡ Ok v → Kept (log_file area v) v
  unfolding clock_answer with_clock
  clock-kept value h e =
      let p = clock-as (leb w.header.clock_high_water value) (with_clock w value) v e in
      rw (← p) (kept-clock (log_file area w) w k value h)

created-kept : (area : List ℕ) (w : Wal) (salt : ℕ) → salt < 2 ^ 32 → create_answer area salt ≡ Ok w → Kept (log_file (with_header area (created_header salt)) w) w
unfolding create_answer
created-kept area w salt h e =
    let p = created-as (eqb (length area) 4210720) (empty_wal (created_header salt)) w e in
    rw (← p.1) (headed-kept area (created_header salt) (eqb-true _ _ p.0) (created-written salt h))

pub reached-kept : {area : List ℕ} {w : Wal} → Reached area w → Kept (log_file area w) w
reached-kept (by-open area {w} n b e) = opened-kept area w n b e
reached-kept (by-create area {w} salt h e) = created-kept area w salt h e
reached-kept (by-truncate {area} {w} {v} salt h r e) = truncated-kept area w v (reached-kept r) salt h e
reached-kept (by_append {area} {w} {v} page body count hp hc r e) = appended-kept area w v (reached-kept r) page body count hp hc e
reached-kept (by-clock {area} {w} {v} value h r e) = clock-kept area w v (reached-kept r) value h e
reached-kept (by-empty {area} {w} r) = emptied-kept area w (reached-kept r)

-- the log one good frame longer: a frame that is stored at its length, readable and with count 0, is an append
pub reached-longer : {area : List ℕ} {w : Wal} (page : ℕ) (body : List ℕ) → page < 2 ^ 32 → length body ≡ 4096 → length area ≡ 4210720
    → has_room w ≡ true → readable_as page body ≡ true → Reached area w
    → Reached (put area w.len (encode_frame page 0 w.header.salt body)) (with_frame w 0)
unfolding append_frame_answer append_frame_after
reached-longer {area} {w} page body hp nb na o g r =
    let k : w.len + 4112 ≤ 4210720 = leb-true _ _ o in
    let h : w.len ≤ 4210720 = omega arith in
    let e : append_frame_answer area w page body 0 ≡ Ok (with_frame w 0) = rw (eq-eqb _ _ nb, eq-eqb _ _ na, le-leb _ _ h, o, g) in
    let a : append_frame_after area w page body 0 ≡ put area w.len (encode_frame page 0 w.header.salt body) =
    rw (eq-eqb _ _ nb, eq-eqb _ _ na, le-leb _ _ h, o) in
    rw (← a) (by_append page body 0 hp (omega arith) r e)

-- ---- what is read

module _ {area : List ℕ} {w : Wal} (r : Reached area w) where
  -- the area's bytes behind the log's length are not looked at
  reached-file : committed_chunks w.last_commit_offset area ≡ committed_chunks w.last_commit_offset (log_file area w)
  reached-file =
      let k = reached-kept r in
      let h : w.last_commit_offset ≤ w.len = omega (arith, k.commit, k.end, k.inside, k.len, committed-most (kept_frames (log_file area w) w)) in
      rw (take-take w.last_commit_offset w.len area h)

  -- the frames that reads go through are good
  pub reached-good : (i : ℕ) → i < length (committed_chunks w.last_commit_offset area)
      → good w.header.salt (get_or (committed_chunks w.last_commit_offset area) i []) ≡ true
  reached-good i h = rw reached-file (kept-good (log_file area w) w (reached-kept r) i (rw reached-file at h))

  -- .. and committed: the first of the committed frames that the next opening finds, each at its place
  pub reached-committed-front : committed_chunks w.last_commit_offset area
      ≡ take (length (committed_chunks w.last_commit_offset area)) (committed_frames (recovered (log_file area w)))
  reached-committed-front = rw reached-file (kept-committed-front (log_file area w) w (reached-kept r))

  -- .. all of them, unless bytes stand behind the good frames
  pub reached-all : w.len ≡ w.good_end → committed_chunks w.last_commit_offset area ≡ committed_frames (recovered (log_file area w))
  reached-all e =
      let k = reached-kept r in
      reached-file ∙ kept-committed (log_file area w) w k ∙ ap committed_frames (sym (kept_whole (log_file area w) w k e))

  -- "Per page the last sealed frame counts"
  pub reached-page : (p : ℕ) → (p ≡ 4294967295 → ⊥)
      → read_log_page area w.last_commit_offset p
      ≡ body_of (page_in p (take (length (committed_chunks w.last_commit_offset area)) (committed_frames (recovered (log_file area w)))))
  unfolding read_log_page
  reached-page p n = rw (ne_eqb p 4294967295 n) (ap (λ (fs : List (List ℕ)). body_of (page_in p fs)) reached-committed-front)

  -- "batches come in log order"
  pub reached-batch : (i : ℕ)
      → next_batch area w.last_commit_offset i
      ≡ batch_from i (drop i (take (length (committed_chunks w.last_commit_offset area)) (committed_frames (recovered (log_file area w)))))
  unfolding next_batch
  reached-batch i = ap (λ (fs : List (List ℕ)). batch_from i (drop i fs)) reached-committed-front
