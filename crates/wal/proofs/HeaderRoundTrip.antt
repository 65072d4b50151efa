-- A header that was encoded decodes to itself; a header that decodes, and what its answer depends on. Assumes nothing.
use Rattle.std.proofs.Common.{◌≡◌, ℕ, zero, suc, ◌+◌, ◌^◌, ◌<◌, ◌≤◌, true, leb, List, ◌++◌, length, get_or, take, sym, ap, ◌∙◌, ⊎_elim, append_assoc, zero-add, arith, length-append, length-take, take-take, take_at, eq-eqb, eqb-true, le-leb, leb-true}
use Rattle.std.specs.Prelude.{Err, Ok}
use native.Mathlib.Nat.{pow-succ', one-le-pow}
use lib.Seq.{take-append-le}
use Rattle.le.specs.Le.{Bytes, le_of, le_bytes, field, same_bytes}
use Rattle.le.proofs.Tests.{le-or-lt}
use Rattle.le.proofs.Fields.{field-none, field-cons, length-le_bytes, field-front, field-behind, field-part}
use Rattle.le.proofs.Compare.{both_true, same_refl, same-equal}
use Rattle.refusal.proofs.Headers.{read, passed}
use Rattle.wal.specs.Header.{wal_magic, encode_wal_header, wal_header_in, wal_header_tests, decode_wal_header}
use Rattle.wal.specs.declared.WalHeader.{WalHeader}
use Rattle.wal.proofs.Encoding.{length-wal_magic, length-encode_wal_header}

-- ---- what was encoded decodes to itself

-- a header as the code can hold it, of the version that is written
pub record Written (h : WalHeader) : Type 0 where
  pub version : h.version ≡ 3
  pub salt : h.salt < 2 ^ 32
  pub seq : h.checkpoint_seq < 2 ^ 32
  pub clock : h.clock_high_water < 2 ^ 64

module _ (h : WalHeader) (rest : List ℕ) where
  -- the bytes behind the magic
  behind : List ℕ
  behind =
      le_bytes 4 3
      ++ (le_bytes 4 4096
      ++ (le_bytes 4 h.salt ++ (le_bytes 4 h.checkpoint_seq ++ (le_bytes 8 h.clock_high_water ++ rest))))

  row : encode_wal_header h ++ rest ≡ wal_magic ++ behind
  unfolding encode_wal_header behind
  row = simp append_assoc

  version-back : field 4 8 (encode_wal_header h ++ rest) ≡ 3
  unfolding behind
  version-back = rw (row, field-behind 4 8 0 wal_magic behind length-wal_magic) (field-front 4 3 _ (omega arith))

  size_back : field 4 12 (encode_wal_header h ++ rest) ≡ 4096
  unfolding behind
  size_back =
      rw (row, field-behind 4 8 4 wal_magic behind length-wal_magic, field-behind 4 4 0 _ _ (length-le_bytes 4 3)) (field-front 4 4096 _ (omega arith))

  -- the fields behind the page size
  numbers : (w k : ℕ) → field w (16 + k) (encode_wal_header h ++ rest)
      ≡ field w k (le_bytes 4 h.salt ++ (le_bytes 4 h.checkpoint_seq ++ (le_bytes 8 h.clock_high_water ++ rest)))
  unfolding behind
  numbers w k =
      let e : 16 + k ≡ 8 + (4 + (4 + k)) = omega arith in
      rw (
        row,
        e,
        field-behind w 8 (4 + (4 + k)) wal_magic behind length-wal_magic,
        field-behind w 4 (4 + k) _ _ (length-le_bytes 4 3),
        field-behind w 4 k _ _ (length-le_bytes 4 4096),
      )

  salt-back : h.salt < 2 ^ 32 → field 4 16 (encode_wal_header h ++ rest) ≡ h.salt
  salt-back p = numbers 4 0 ∙ field-front 4 h.salt _ (omega arith)

  seq-back : h.checkpoint_seq < 2 ^ 32 → field 4 20 (encode_wal_header h ++ rest) ≡ h.checkpoint_seq
  seq-back p =
      numbers 4 4 ∙ rw (field-behind 4 4 0 _ _ (length-le_bytes 4 h.salt)) (field-front 4 h.checkpoint_seq _ (omega arith))

  clock-back : h.clock_high_water < 2 ^ 64 → field 8 24 (encode_wal_header h ++ rest) ≡ h.clock_high_water
  clock-back p =
      numbers 8 8
      ∙ rw (field-behind 8 4 4 _ _ (length-le_bytes 4 h.salt), field-behind 8 4 0 _ _ (length-le_bytes 4 h.checkpoint_seq))
      (field-front 8 h.clock_high_water _ (omega arith))

  -- the header that lies in front of anything is read
  pub header-back : Written h → wal_header_in (encode_wal_header h ++ rest) ≡ h
  unfolding wal_header_in
  header-back p = rw (version-back, salt-back p.salt, seq-back p.seq, clock-back p.clock, ← p.version)

  pub decode-encode : Written h → decode_wal_header (encode_wal_header h ++ rest) ≡ Ok h
  unfolding decode_wal_header
  decode-encode p =
      let n : 32 ≤ length (encode_wal_header h ++ rest) = simp (length-append, length-encode_wal_header) (omega arith) in
      let m : same_bytes (take 8 (encode_wal_header h ++ rest)) wal_magic ≡ true = rw (row, take_at wal_magic behind 8 length-wal_magic) (same_refl wal_magic) in
      let low : 1 ≤ field 4 8 (encode_wal_header h ++ rest) = rw version-back (omega arith) in
      let high : field 4 8 (encode_wal_header h ++ rest) ≤ 3 = rw version-back (omega arith) in
      sym (read Err (Ok (wal_header_in (encode_wal_header h ++ rest))) (wal_header_tests (encode_wal_header h ++ rest)) (le-leb _ _ n) m
      (rw (le-leb _ _ low, le-leb _ _ high)) (eq-eqb _ _ size_back)) ∙ ap Ok (header-back p)

-- ---- what a header that was decoded says of the bytes

pub record Read (l : List ℕ) (h : WalHeader) : Type 0 where
  pub long : 32 ≤ length l
  pub leading : take 8 l ≡ wal_magic
  pub low : 1 ≤ field 4 8 l
  pub high : field 4 8 l ≤ 3
  pub paged : field 4 12 l ≡ 4096
  pub fields : wal_header_in l ≡ h

pub decoded-as : (l : List ℕ) (h : WalHeader) → decode_wal_header l ≡ Ok h → Read l h
unfolding decode_wal_header
decoded-as l h e =
    let p = passed Err (Ok (wal_header_in l)) (Ok h) (λ r f. let z : ◌≡◌ {A = ℕ} 0 1 = cc in absurd (omega arith)) (wal_header_tests l) e in
    let w = both_true (leb 1 (field 4 8 l)) (leb (field 4 8 l) 3) p.version in
    let d : Ok (wal_header_in l) ≡ Ok h = p.same in
    record {
      long = leb-true _ _ p.long;
      leading = same-equal (take 8 l) wal_magic p.leading;
      low = leb-true _ _ w.0;
      high = leb-true _ _ w.1;
      paged = eqb-true _ _ p.paged;
      fields = cc;
    }

-- ---- nothing behind byte 32 is read

inside : (a b : List ℕ) → take 32 a ≡ take 32 b → (w k : ℕ) → k + w ≤ 32 → field w k a ≡ field w k b
inside a b e w k h = rw zero-add at (sym (field-part w k 32 0 a h) ∙ ap (λ (l : List ℕ). field w k l) e ∙ field-part w k 32 0 b h)

pub header-front : (a b : List ℕ) → take 32 a ≡ take 32 b → wal_header_in a ≡ wal_header_in b
unfolding wal_header_in
header-front a b e =
    let f = inside a b e in
    rw (f 4 8 (omega arith), f 4 16 (omega arith), f 4 20 (omega arith), f 8 24 (omega arith))

pub decode-front : (a b : List ℕ) → 32 ≤ length a → 32 ≤ length b → take 32 a ≡ take 32 b → decode_wal_header a ≡ decode_wal_header b
unfolding decode_wal_header
decode-front a b na nb e =
    let f = inside a b e in
    let m : take 8 a ≡ take 8 b = sym (take-take 8 32 a (omega arith)) ∙ ap (λ (l : List ℕ). take 8 l) e ∙ take-take 8 32 b (omega arith) in
    rw (le-leb 32 (length a) na, le-leb 32 (length b) nb, m, f 4 8 (omega arith), f 4 12 (omega arith), header-front a b e)

-- a longer log, and a cut one
module _ (l : List ℕ) where
  pub header-append : (t : List ℕ) → 32 ≤ length l → wal_header_in (l ++ t) ≡ wal_header_in l
  header-append t h = header-front (l ++ t) l (take-append-le 32 l t h)

  pub decode-append : (t : List ℕ) → 32 ≤ length l → decode_wal_header (l ++ t) ≡ decode_wal_header l
  decode-append t h =
      decode-front (l ++ t) l (simp length-append (omega arith)) h (take-append-le 32 l t h)

  pub header-take : (m : ℕ) → 32 ≤ m → wal_header_in (take m l) ≡ wal_header_in l
  header-take m h = header-front (take m l) l (take-take 32 m l h)

  pub decode-take : (m : ℕ) → 32 ≤ m → 32 ≤ length l → decode_wal_header (take m l) ≡ decode_wal_header l
  decode-take m h n = decode-front (take m l) l (simp length-take (omega arith)) n (take-take 32 m l h)

-- ---- the numbers of bytes fit

field_fits : (n at : ℕ) (l : List ℕ) → Bytes l → field n at l < 256 ^ n
unfolding le_of
field_fits zero at l b = omega arith
field_fits (suc n) at l b =
    ⊎_elim
    (λ h. rw (field-none (suc n) at l h) (one-le-pow (suc n) 256 (omega arith)))
    (λ h.
    let k : field n (at + 1) l < 256 ^ n = field_fits n (at + 1) l b in
    let d : get_or l at 0 < 256 = b at in
    rw (field-cons n at l h, pow-succ' 256) (omega arith))
    (le-or-lt (length l) at)

-- a header's numbers as the code holds them
pub record Fits (h : WalHeader) : Type 0 where
  pub version : h.version < 2 ^ 32
  pub salt : h.salt < 2 ^ 32
  pub seq : h.checkpoint_seq < 2 ^ 32
  pub clock : h.clock_high_water < 2 ^ 64

pub header-fits : (l : List ℕ) → Bytes l → Fits (wal_header_in l)
unfolding wal_header_in
header-fits l b =
    record { version = field_fits 4 8 l b; salt = field_fits 4 16 l b; seq = field_fits 4 20 l b; clock = field_fits 8 24 l b }
