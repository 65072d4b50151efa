-- What the stores into a log leave, and what the log is afterwards. Assumes nothing.
use Rattle.std.proofs.Common.{◌≡◌, ℕ, ◌+◌, ◌*◌, ◌^◌, ◌<◌, ◌≤◌, Bool, true, false, List, [], ◌++◌, length, take, drop, sym, refl, ap, ◌∙◌, append_assoc, append-nil, arith, length-append, length-drop, length-take, take_at, eq-eqb, eqb-true, ne_eqb, leb-true}
use Rattle.std.specs.Prelude.{Result, Err, Ok}
use Rattle.std.specs.Result.{IsErrAnd}
use Rattle.le.specs.Choice.{pick}
use Rattle.le.specs.Le.{put, store}
use Rattle.le.proofs.Compare.{both_true}
use Rattle.le.proofs.Stores.{store-put}
use Rattle.frame.specs.Frame.{encode_frame, frame_after}
use Rattle.frame.proofs.Stores.{length-encode_frame}
use Rattle.refusal.specs.declared.Refusal.{Refusal}
use Rattle.refusal.specs.declared.Refusal.TheVariants as refusal
use Rattle.wal.specs.Header.{encode_wal_header, wal_header_in, decode_wal_header}
use Rattle.wal.specs.Recovery.{chunks, readable_as, good, good_front, undecodable, commit_count, Recovered, recovered, wal_of}
use Rattle.wal.specs.Write.{empty_wal, with_header, created_header, truncated_header, area_fine, longer, joins, with_frame, has_room, append_frame_answer, append_frame_after}
use Rattle.wal.specs.declared.WalHeader.{WalHeader}
use Rattle.wal.specs.declared.Wal.{Wal}
use Rattle.wal.proofs.Encoding.{length-encode_wal_header}
use Rattle.wal.proofs.HeaderRoundTrip.{Written, header-back, decode-encode}
use Rattle.wal.proofs.Places.{length-chunks, chunks-append, runs-short, runs-one}
use Rattle.wal.proofs.Frames.{count-encoded}
use Rattle.wal.proofs.Recovered.{extended, all-good, recovered-append}
use Rattle.wal.proofs.Opening.{wal-append, wal-empty}

-- ---- the header

module _ (l : List ℕ) (h : WalHeader) where
  pub headed-done : {m : List ℕ} → length l ≡ 4210720 → m ≡ store l 0 (encode_wal_header h) → m ≡ with_header l h
  unfolding with_header
  headed-done n e =
      let k : 0 + length (encode_wal_header h) ≤ length l = rw (length-encode_wal_header h) (omega arith) in
      e ∙ rw (eq-eqb (length l) 4210720 n, store-put l 0 (encode_wal_header h) k)

  pub headed-refused : (length l ≡ 4210720 → ⊥) → l ≡ with_header l h
  unfolding with_header
  headed-refused n = rw (ne_eqb (length l) 4210720 n)

-- ---- a guard of a test, called with `?`

abbrev pub guarded : Bool → Refusal → Result (Unit {0}) Refusal
guarded b f = pick b (Ok tt) (Err f)

-- behind it the test holds
pub passed : (b : Bool) (f : Refusal) → Ok tt ≡ guarded b f → b ≡ true
passed true f e = refl
passed false f e = let z : ◌≡◌ {A = ℕ} 0 1 = cc in absurd (omega arith)

-- at its exit the test fails, and its refusal is what is returned
pub stopped : {A : Type 0} (b : Bool) (f : Refusal) {q : Refusal} (r : Result A Refusal) → IsErrAnd r (λ y. y ≡ q) → Err q ≡ guarded b f
    → (b ≡ false) × (r ≡ Err f)
stopped true f r h e = let z : ◌≡◌ {A = ℕ} 0 1 = cc in absurd (omega arith)
stopped false f (Ok x) h e = absurd h
stopped false f (Err y) h e = (refl, cc)

-- ---- a frame

module _ (l : List ℕ) (w : Wal) (page : ℕ) (body : List ℕ) (count : ℕ) where
  abbrev pub Says : Result Wal Refusal → List ℕ → Type 0
  Says r m = record { value : r ≡ append_frame_answer l w page body count; log_after : m ≡ append_frame_after l w page body count }

  pub body_refused : (length body ≡ 4096 → ⊥) → Says (Err refusal.Area) l
  unfolding append_frame_answer append_frame_after
  body_refused n = record { value = rw (ne_eqb _ _ n); log_after = rw (ne_eqb _ _ n) }

  module _ (nb : length body ≡ 4096) where
    pub area-refused : {r : Result Wal Refusal} → (area_fine l w ≡ false) × (r ≡ Err refusal.Area) → Says r l
    unfolding append_frame_answer append_frame_after
    area-refused p = record { value = rw (p.1, eq-eqb _ _ nb, p.0); log_after = rw (eq-eqb _ _ nb, p.0) }

    module _ (fine : area_fine l w ≡ true) where
      pub log-full : {r : Result Wal Refusal} → (has_room w ≡ false) × (r ≡ Err refusal.LogFull) → Says r l
      unfolding append_frame_answer append_frame_after
      log-full p = record { value = rw (p.1, eq-eqb _ _ nb, fine, p.0); log_after = rw (eq-eqb _ _ nb, fine, p.0) }

      pub frame-appended : {m : List ℕ} {v : Wal} → has_room w ≡ true
          → m ≡ frame_after l w.len page count w.header.salt body → v ≡ longer (joins w (readable_as page body)) w count
          → Says (Ok v) m
      unfolding append_frame_answer append_frame_after frame_after
      frame-appended k e f =
          let n = eqb-true (length l) 4210720 (both_true _ _ fine).0 in
          let h : w.len + 4112 ≤ 4210720 = leb-true _ _ k in
          let j : w.len + length (encode_frame page count w.header.salt body) ≤ length l =
          rw (length-encode_frame page count w.header.salt body nb, n) h in
          record {
            value = rw (f, eq-eqb _ _ nb, fine, k);
            log_after = e ∙ rw (eq-eqb _ _ nb, fine, k, store-put l w.len (encode_frame page count w.header.salt body) j);
          }

-- ---- what the log is afterwards

-- the file behind which bytes are stored is longer by them
pub file-longer : (n : ℕ) (l : List ℕ) (at : ℕ) (xs : List ℕ) → length xs ≡ n → at ≤ length l → take (at + n) (put l at xs) ≡ take at l ++ xs
unfolding put
file-longer n l at xs e h =
    let k : length (take at l ++ xs) ≡ at + n = simp (length-append, length-take) (omega arith) in
    rw (← append_assoc) (take_at (take at l ++ xs) (drop (at + length xs) l) (at + n) k)

-- after a creation or a truncation the file is its header
pub file-headed : (l : List ℕ) (h : WalHeader) → length l ≡ 4210720 → take 32 (with_header l h) ≡ encode_wal_header h
unfolding with_header
file-headed l h n = rw (eq-eqb (length l) 4210720 n) (file-longer 32 l 0 (encode_wal_header h) (length-encode_wal_header h) (omega arith))

pub created-written : (salt : ℕ) → salt < 2 ^ 32 → Written (created_header salt)
unfolding created_header
created-written salt h = record { version = refl; salt = h; seq = omega arith; clock = omega arith }

pub truncated-written : (h : WalHeader) (salt : ℕ) → salt < 2 ^ 32 → h.clock_high_water < 2 ^ 64 → Written (truncated_header h salt)
unfolding truncated_header
truncated-written h salt s k = record { version = refl; salt = s; seq = omega arith; clock = k }

-- a header alone: no frame, and the empty log's numbers
module _ (h : WalHeader) (p : Written h) where
  header-alone : wal_header_in (encode_wal_header h) ≡ h
  header-alone = rw append-nil at (header-back h [] p)

  pub alone-decodes : decode_wal_header (encode_wal_header h) ≡ Ok h
  alone-decodes = rw append-nil at (decode-encode h [] p)

  alone-chunks : chunks (encode_wal_header h) ≡ []
  unfolding chunks
  alone-chunks = runs-short (drop 32 (encode_wal_header h)) (simp (length-drop, length-encode_wal_header) (omega arith))

  pub alone-recovered : recovered (encode_wal_header h) ≡ record { header = h; frames = []; stopped = false }
  unfolding recovered good_front undecodable
  alone-recovered = rw (alone-chunks, header-alone)

  pub alone-known : wal_of 32 (recovered (encode_wal_header h)) ≡ empty_wal h
  alone-known = rw alone-recovered (wal-empty h)

-- a frame appended behind good frames only: the log's numbers are those that opening would find
module _ (n : ℕ) (l : List ℕ) (e : length l ≡ 32 + 4112 * n) (a : (recovered l).frames ≡ chunks l) (page count : ℕ) (body : List ℕ) (nb : length body ≡ 4096)
    (g : good (wal_header_in l).salt (encode_frame page count (wal_header_in l).salt body) ≡ true) where
  pub longer-recovered : recovered (l ++ encode_frame page count (wal_header_in l).salt body)
      ≡ extended (recovered l) (encode_frame page count (wal_header_in l).salt body)
  longer-recovered =
      recovered-append n l e (encode_frame page count (wal_header_in l).salt body) a (length-encode_frame page count (wal_header_in l).salt body nb) g

  -- again all chunks are good frames
  pub longer-good : (recovered (l ++ encode_frame page count (wal_header_in l).salt body)).frames ≡ chunks (l ++ encode_frame page count (wal_header_in l).salt body)
  longer-good =
      let f : List ℕ = encode_frame page count (wal_header_in l).salt body in
      ap (λ (r : Recovered). r.frames) longer-recovered
      ∙ rw (chunks-append n l f e, runs-one f (length-encode_frame page count (wal_header_in l).salt body nb), a)

  pub longer-known : {w : Wal} → n + 1 < 2 ^ 64 → count < 2 ^ 32 → w ≡ wal_of (length l) (recovered l)
      → wal_of (length l + 4112) (recovered (l ++ encode_frame page count (wal_header_in l).salt body)) ≡ with_frame w count
  longer-known small hc k =
      let f : List ℕ = encode_frame page count (wal_header_in l).salt body in
      let m : length (recovered l).frames ≡ n = rw (a, length-chunks l) (omega arith) in
      let p : 32 + 4112 * length (recovered l).frames ≡ length l = rw m (sym e) in
      let c : commit_count f ≡ count = count-encoded page count (wal_header_in l).salt body hc in
      ap (wal_of (length l + 4112)) longer-recovered
      ∙ wal-append (length l) (recovered l) f p (all-good l a) (rw m small)
      ∙ rw (c, k)
