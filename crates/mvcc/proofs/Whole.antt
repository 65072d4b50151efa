-- Whole bodies: what decoding one found, and decoding an encoded batch. Assumes nothing.
use mathlib.Core.Path.{◌≡◌, refl, sym, ◌∙◌}
use mathlib.Core.Bool.{Bool, true, false}
use mathlib.Core.List.{List, [], ◌∷◌, ◌++◌, map}
use Prim.Native.Nat.{ℕ, ◌+◌, ◌≤◌}
use native.Mathlib.Omega.{arith}
use borrow.Author.Tests.{le-leb, leb-true, eq-eqb, eqb-true}
use lib.Dec.{leb, eqb, lit<}
use lib.ListN.{length, length-append}
use Rattle.std.specs.Prelude.{None, Ok, Err}
use Rattle.le.specs.Le.{Bytes, le_of, le_bytes, field}
use Rattle.le.proofs.Compare.{no_test}
use Rattle.le.proofs.Fields.{length-le_bytes}
use Rattle.refusal.specs.Refusal.{unless, accepts, answered}
use Rattle.refusal.specs.declared.Refusal.TheVariants.{Short, Magic}
use Rattle.mvcc.specs.Answer.{Answer, taken, refused}
use Rattle.mvcc.specs.Decode.{record_at, batch_magic, records_at, batch_end, heading_refusal, batch_of}
use Rattle.mvcc.specs.Batch.{Rec, all, encode_record, encode_batch, GoodRecord, GoodBatch}
use Rattle.mvcc.specs.Seen.{seen_record, refusal_in, decode_refusal, decodes, commit_ts_of, records}
use Rattle.mvcc.specs.declared.MvccLogRecord.{MvccLogRecord}
use Rattle.mvcc.proofs.Has.{Has, has_left, has-after, has-field}
use Rattle.mvcc.proofs.Trip.{Gives, many-has, record-has}
use Rattle.mvcc.proofs.Bytes.{field-small, bytes-none, bytes-cons, bytes-append, bytes-le_bytes}
use Rattle.mvcc.proofs.Sound.{Faithful, Run, many-ok, record-ok}

-- ---- a body that decodes

pub record Found (s : List ℕ) : Type 0 where
  pub long : 18 ≤ length s
  pub marked : field 8 0 s ≡ batch_magic
  pub list : List MvccLogRecord
  pub end : ℕ
  pub is : records_at s ≡ taken list end

found-cases : (s : List ℕ) (a b : Bool) (x : Answer (List MvccLogRecord)) → leb 18 (length s) ≡ a → eqb (field 8 0 s) batch_magic ≡ b → records_at s ≡ x
    → accepts (refusal_in (answered Err (batch_end (field 8 8 s) (field 2 16 s) x) (unless a Short (unless b Magic None)))) ≡ true → Found s
found-cases s true true (taken l e) p q r t = record { long = leb-true _ _ p; marked = eqb-true _ _ q; list = l; end = e; is = r }
found-cases s true true (refused k) p q r t = no_test t
found-cases s true false x p q r t = no_test t
found-cases s false b x p q r t = no_test t

pub found : (s : List ℕ) → decodes s ≡ true → Found s
unfolding decodes decode_refusal batch_of heading_refusal
found s t = found-cases s (leb 18 (length s)) (eqb (field 8 0 s) batch_magic) (records_at s) refl refl refl t

-- its answer
pub found-batch : (s : List ℕ) (f : Found s) → batch_of s ≡ Ok (record { commit_ts = field 8 8 s; records = field 2 16 s; end = f.end })
unfolding batch_of heading_refusal
found-batch s f = rw (le-leb 18 (length s) f.long, eq-eqb _ _ f.marked, f.is)

pub found-decodes : (s : List ℕ) → Found s → decodes s ≡ true
unfolding decodes decode_refusal
found-decodes s f = rw (found-batch s f)

pub found-records : (s : List ℕ) (f : Found s) → records s ≡ map (seen_record s) f.list
unfolding records
found-records s f = rw f.is

-- ---- an encoded batch

-- the heading has 18 bytes
pub batch-length : (t : ℕ) (rs : List Rec) → 18 + length (all encode_record rs) ≡ length (encode_batch t rs)
unfolding encode_batch
batch-length t rs =
    let n = le_bytes 2 (length rs) in
    let x = all encode_record rs in
    omega (arith, length-append (le_bytes 8 t) (n ++ x), length-le_bytes 8 t, length-append n x, length-le_bytes 2 (length rs))

pub batch-bytes : (t : ℕ) (rs : List Rec) → Bytes (all encode_record rs) → Bytes (encode_batch t rs)
unfolding encode_batch
batch-bytes t rs b =
    let n = le_bytes 2 (length rs) in
    let x = all encode_record rs in
    let h : List ℕ = 0x4d ∷ 0x56 ∷ 0x43 ∷ 0x43 ∷ 0x30 ∷ 0x30 ∷ 0x30 ∷ 0x31 ∷ [] in
    bytes-append h (le_bytes 8 t ++ (n ++ x))
    (bytes-cons 0x4d (0x56 ∷ 0x43 ∷ 0x43 ∷ 0x30 ∷ 0x30 ∷ 0x30 ∷ 0x31 ∷ []) (lit< tt)
    (bytes-cons 0x56 (0x43 ∷ 0x43 ∷ 0x30 ∷ 0x30 ∷ 0x30 ∷ 0x31 ∷ []) (lit< tt)
    (bytes-cons 0x43 (0x43 ∷ 0x30 ∷ 0x30 ∷ 0x30 ∷ 0x31 ∷ []) (lit< tt)
    (bytes-cons 0x43 (0x30 ∷ 0x30 ∷ 0x30 ∷ 0x31 ∷ []) (lit< tt)
    (bytes-cons 0x30 (0x30 ∷ 0x30 ∷ 0x31 ∷ []) (lit< tt)
    (bytes-cons 0x30 (0x30 ∷ 0x31 ∷ []) (lit< tt)
    (bytes-cons 0x30 (0x31 ∷ []) (lit< tt) (bytes-cons 0x31 [] (lit< tt) bytes-none))))))))
    (bytes-append (le_bytes 8 t) (n ++ x) (bytes-le_bytes 8 t) (bytes-append n x (bytes-le_bytes 2 (length rs)) b))

module _ (t : ℕ) (rs : List Rec) (pad : List ℕ) (g : GoodBatch t rs) where
  abbrev body : List ℕ
  body = encode_batch t rs ++ pad

  abbrev count-on : List ℕ
  count-on = le_bytes 2 (length rs) ++ all encode_record rs

  time-here : Has body 8 (le_bytes 8 t ++ count-on)
  unfolding encode_batch
  time-here = record { within = omega arith; rest = pad; is = refl }

  count-here : Has body 16 count-on
  count-here = has-after 8 (le_bytes 8 t) count-on (length-le_bytes 8 t) time-here

  pub records-here : Has (encode_batch t rs ++ pad) 18 (all encode_record rs)
  records-here = has-after 2 (le_bytes 2 (length rs)) (all encode_record rs) (length-le_bytes 2 (length rs)) count-here

  pub marked-here : field 8 0 (encode_batch t rs ++ pad) ≡ batch_magic
  unfolding encode_batch le_of batch_magic
  marked-here = refl

  pub time-read : field 8 8 body ≡ t
  time-read = has-field 8 t g.time (has_left (le_bytes 8 t) count-on time-here)

  pub count-read : field 2 16 (encode_batch t rs ++ pad) ≡ length rs
  count-read = has-field 2 (length rs) g.few (has_left (le_bytes 2 (length rs)) (all encode_record rs) count-here)

  given : Gives (map (seen_record body)) (records_at body) rs (18 + length (all encode_record rs))
  unfolding records_at
  given =
      rw count-read
      (many-has (record_at body) (seen_record body) encode_record GoodRecord body (λ r at. record-has r) rs g.each records-here)

  abbrev encoded : Found body
  encoded = record { long = records-here.within; marked = marked-here; list = given.item; end = 18 + length (all encode_record rs); is = given.is }

  pub encoded-decodes : decodes body ≡ true
  encoded-decodes = found-decodes body encoded

  pub encoded-records : records body ≡ rs
  encoded-records = found-records body encoded ∙ given.same

  pub encoded-batch : batch_of body ≡ Ok (record { commit_ts = t; records = length rs; end = length (encode_batch t rs) })
  encoded-batch = found-batch body encoded ∙ rw (time-read, count-read, batch-length t rs)

-- ---- what a decodable body holds

module _ (s : List ℕ) (sb : Bytes s) (d : decodes s ≡ true) where
  abbrev f : Found s
  f = found s d

  all-ok : Faithful (Run GoodRecord (field 2 16 s)) (all encode_record) (map (seen_record s)) s 18 f.list f.end
  unfolding records_at
  all-ok =
      rw f.is at (many-ok (record_at s) (seen_record s) encode_record GoodRecord s (record-ok s sb) (field 2 16 s) 18 f.long)

  held-count : length (records s) ≡ field 2 16 s
  held-count = rw (found-records s f) all-ok.good.count

  pub held-good : GoodBatch (commit_ts_of s) (records s)
  unfolding commit_ts_of
  held-good = record {
    time = field-small 8 8 s sb;
    few = rw held-count (field-small 2 16 s sb);
    each = rw (found-records s f) all-ok.good.each;
  }

  held-end : length (encode_batch (commit_ts_of s) (records s)) ≡ f.end
  held-end = sym (batch-length (commit_ts_of s) (records s)) ∙ rw (found-records s f) all-ok.reach

  pub held-size : length (encode_batch (commit_ts_of s) (records s)) ≤ length s
  held-size = rw held-end all-ok.within

  pub held_bytes : Bytes (encode_batch (commit_ts_of s) (records s))
  held_bytes = batch-bytes (commit_ts_of s) (records s) (rw (found-records s f) all-ok.bytes)

  pub held-batch : batch_of s ≡ Ok (record { commit_ts = commit_ts_of s; records = length (records s); end = length (encode_batch (commit_ts_of s) (records s)) })
  unfolding commit_ts_of
  held-batch = rw (held-end, held-count) (found-batch s f)
