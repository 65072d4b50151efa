-- The front of a decodable body with its bools set, and zeros behind, is its canonical form. Assumes nothing.
use mathlib.Core.Path.{◌≡◌, refl, sym, ap, ◌∙◌}
use mathlib.Core.Bool.{true}
use mathlib.Core.List.{List, [], ◌∷◌, ◌++◌, map, append_assoc}
use Prim.Native.Nat.{ℕ, ◌-◌, ◌≤◌, ◌<◌}
use native.Mathlib.Nat.{zero-add}
use native.Mathlib.Omega.{arith}
use borrow.Author.Tests.{le-leb, lt-leb, eq-eqb, ne_eqb}
use lib.ListN.{length, take, drop, replicate, length-append, length-take, length-replicate}
use lib.Seq.{take_at, drop_at}
use Rattle.std.specs.Prelude.{Result, Ok, Err}
use Rattle.le.specs.Le.{Bytes, le_of, le_bytes, field, put, store}
use Rattle.le.proofs.Stores.{put_all, store-put, store-next}
use Rattle.refusal.specs.declared.Refusal.{Refusal}
use Rattle.refusal.specs.declared.Refusal.TheVariants as refusal
use Rattle.mvcc.specs.Answer.{taken, many}
use Rattle.mvcc.specs.Decode.{record_at, batch_magic, records_at, batch_of}
use Rattle.mvcc.specs.Batch.{Rec, all, encode_record, encode_batch, encode_body, padded}
use Rattle.mvcc.specs.Seen.{seen_record, decode_refusal, decodes, commit_ts_of, records, canonical}
use Rattle.mvcc.specs.declared.MvccCommitBatch.{MvccCommitBatch}
use Rattle.mvcc.proofs.Whole.{Found, found, found-batch, found-records, batch-length}
use Rattle.mvcc.proofs.Canonical.{batch_of-is, encode-length}
use Rattle.mvcc_canonical.specs.Canonical.{canonical_refusal, canonicalized, canonical_bytes, fix_all, record_step, Walk, BoolsTo}
use Rattle.mvcc_canonical.proofs.Same.{At, at-append, field_at}
use Rattle.mvcc_canonical.proofs.Walk.{Agree, agree-front, agree-part, put_front, records_is}
use Rattle.mvcc_canonical.proofs.Bools.{bools-less, records-at}

abbrev count_in : Result MvccCommitBatch Refusal → ℕ
count_in (Ok b) = b.records
count_in (Err k) = 0

abbrev end_in : Result MvccCommitBatch Refusal → ℕ
end_in (Ok b) = b.end
end_in (Err k) = 0

magic-bytes : le_bytes 8 batch_magic ≡ 0x4d ∷ 0x56 ∷ 0x43 ∷ 0x43 ∷ 0x30 ∷ 0x30 ∷ 0x30 ∷ 0x31 ∷ []
unfolding batch_magic le_of le_bytes
magic-bytes = refl

decodes-batch : (s : List ℕ) {b : MvccCommitBatch} → batch_of s ≡ Ok b → decodes s ≡ true
unfolding decodes decode_refusal
decodes-batch s e = rw e

-- a body that was decoded
pub record Decoded (s : List ℕ) (b : MvccCommitBatch) : Type 0 where
  pub bytes : Bytes s
  pub small : length s ≤ 4096
  pub is : batch_of s ≡ Ok b

module _ (s : List ℕ) {b : MvccCommitBatch} (w : Decoded s b) where
  abbrev sb : Bytes s
  sb = w.bytes

  abbrev d : decodes s ≡ true
  d = decodes-batch s w.is

  abbrev F : Found s
  F = found s d

  abbrev rs : List Rec
  rs = records s

  abbrev E : List ℕ
  E = encode_batch (commit_ts_of s) rs

  pub count-is : b.records ≡ length rs
  count-is = ap count_in (sym w.is ∙ batch_of-is s sb d)

  pub end_is : b.end ≡ length E
  end_is = ap end_in (sym w.is ∙ batch_of-is s sb d)

  end-found : F.end ≡ length E
  end-found = ap end_in (sym (found-batch s F) ∙ batch_of-is s sb d)

  count-found : field 2 16 s ≡ length rs
  count-found = ap count_in (sym (found-batch s F) ∙ batch_of-is s sb d)

  pub fits : length E ≤ length s
  fits = encode-length s sb d

  run : many (record_at s) (length rs) 18 ≡ taken F.list (length E)
  unfolding records_at
  run = rw (← count-found, ← end-found) F.is

  pub walk : Walk s (length rs) 18
  walk = record { small = w.small; list = F.list; end = length E; is = run }

  abbrev Z : List ℕ
  Z = replicate (4096 - length E) 0

  front_length : length (take (length E) s) ≡ length E
  front_length = let f = fits in rw length-take (omega arith)

  -- the copy that the code makes: the front of the body, and zeros behind it
  abbrev pub Copy : List ℕ
  Copy = take (length E) s ++ Z

  whole_length : length Copy ≡ 4096
  whole_length = let f = fits in let m = w.small in rw (length-append, front_length, length-replicate {A = ℕ}) (omega arith)

  pub copied : (out : List ℕ) {c1 c2 : List ℕ} → length out ≡ 4096 → c1 ≡ store out 0 (take (length E) s) → c2 ≡ store c1 (length E) Z → c2 ≡ Copy
  copied out {c1} full e1 e2 =
      let f = fits in
      let m = w.small in
      let z : length Z ≡ 4096 - length E = length-replicate {A = ℕ} (4096 - length E) 0 in
      let p1 = e1 ∙ store-put out 0 (take (length E) s) (rw (front_length, full) (omega arith)) in
      let p2 = store-next (length E) (4096 - length E) out 0 (take (length E) s) Z front_length z (rw full (omega arith)) p1
      (e2 ∙ ap (λ (k : ℕ). store c1 k Z) (sym (zero-add (length E)))) in
      p2 ∙ put_all out Copy (whole_length ∙ sym full)

  -- heading
  abbrev H : List ℕ
  H = le_bytes 8 batch_magic ++ (le_bytes 8 (field 8 8 s) ++ le_bytes 2 (field 2 16 s))

  heading : At s 0 H 18
  heading =
      let l = F.long in
      let a : At s 0 (le_bytes 8 batch_magic) 8 = rw F.marked at (field_at s sb 8 0 (omega arith)) in
      at-append (le_bytes 8 batch_magic) (le_bytes 8 (field 8 8 s) ++ le_bytes 2 (field 2 16 s)) a
      (at-append (le_bytes 8 (field 8 8 s)) (le_bytes 2 (field 2 16 s)) (field_at s sb 8 8 (omega arith)) (field_at s sb 2 16 (omega arith)))

  -- the records
  abbrev R : List ℕ
  R = all encode_record (map (seen_record s) F.list)

  encoded : H ++ R ≡ E
  unfolding encode_batch commit_ts_of
  encoded =
      rw (magic-bytes, count-found, ← found-records s F)
      (ap (λ (x : List ℕ). 0x4d ∷ 0x56 ∷ 0x43 ∷ 0x43 ∷ 0x30 ∷ 0x30 ∷ 0x30 ∷ 0x31 ∷ x)
      (append_assoc (le_bytes 8 (field 8 8 s)) (le_bytes 2 (length rs)) (all encode_record rs)))

  agree : Agree s Copy 0 (length E)
  agree =
      let f = fits in
      let z : length E - 0 ≡ length E = omega arith in
      record { is = rw (z, take_at (take (length E) s) Z (length E) front_length); room = rw whole_length (omega arith) }

  padded-is : put Copy 0 E ≡ canonical s
  unfolding canonical encode_body padded put
  padded-is = rw (zero-add, drop_at (take (length E) s) Z (length E) front_length)

  -- the copy with its bools set
  pub whole : {c3 : List ℕ} → c3 ≡ fix_all (record_at s) (record_step s) (length rs) 18 Copy → c3 ≡ canonical s
  whole e =
      let f = fits in
      let j : 18 ≤ length E = omega (arith, batch-length (commit_ts_of s) rs) in
      let v = records_is s sb (length rs) 18 F.list (length E) run Copy (agree-part 18 (length E) agree (omega arith) j (omega arith)) in
      let t : take (length H) (drop 0 Copy) ≡ H = agree-front H agree heading j in
      let p : put Copy 18 R ≡ put Copy 0 (H ++ R) = put_front Copy 0 18 H R heading.reach (rw whole_length (omega arith)) t in
      e ∙ v.is ∙ p ∙ ap (put Copy 0) encoded ∙ padded-is

  -- and the copy alone, where no bool is above 1
  pub copy_is : {c2 : List ℕ} {top : ℕ} → c2 ≡ Copy → BoolsTo s b.end top → top ≤ 1 → c2 ≡ canonical s
  unfolding canonical encode_body padded
  copy_is {top = top} e f h =
      let g : BoolsTo s (length E) 1 = bools-less s b.end top f (omega (arith, end_is)) h in
      let a = at-append H R heading (records-at s sb (length E) fits g (length rs) 18 F.list (length E) run (omega arith)) in
      let t : take (length E) s ≡ E = rw encoded at a.is in
      e ∙ rw t

-- ---- the ways of `canonicalize`

module _ (s out : List ℕ) where
  abbrev pub Says : Result Unit Refusal → List ℕ → Type 0
  Says r l = (r ≡ canonicalized s out) × (l ≡ canonical_bytes s out)

  pub way_out : (length out ≡ 4096 → ⊥) → Says (Err refusal.Area) out
  unfolding canonical_refusal
  way_out h = (rw (ne_eqb _ _ h), rw (ne_eqb _ _ h))

  pub way_long : length out ≡ 4096 → 4096 < length s → Says (Err refusal.Area) out
  unfolding canonical_refusal
  way_long h k = (rw (eq-eqb _ _ h, lt-leb _ _ k), rw (eq-eqb _ _ h, lt-leb _ _ k))

  pub way-refused : {k : Refusal} → length out ≡ 4096 → length s ≤ 4096 → Err k ≡ batch_of s → Says (Err k) out
  unfolding canonical_refusal decode_refusal
  way-refused h k e = (rw (eq-eqb _ _ h, le-leb _ _ k, ← e), rw (eq-eqb _ _ h, le-leb _ _ k, ← e))

  pub way-done : {b : MvccCommitBatch} {c : List ℕ} → length out ≡ 4096 → Decoded s b → c ≡ canonical s → Says (Ok tt) c
  unfolding canonical_refusal decode_refusal
  way-done h w f = (rw (eq-eqb _ _ h, le-leb _ _ w.small, w.is), rw (eq-eqb _ _ h, le-leb _ _ w.small, w.is) f)
