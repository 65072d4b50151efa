-- Decoding what was encoded gives it back, whatever lies behind. Assumes nothing.
use mathlib.Core.Path.{◌≡◌, refl, sym, ap, subst, ◌∙◌}
use mathlib.Core.Bool.{Bool, true, false, not}
use mathlib.Core.List.{List, [], ◌∷◌, ◌++◌, map}
use Prim.Native.Nat.{ℕ, suc, ◌+◌, ◌-◌, ◌*◌, ◌^◌, ◌≤◌, ◌<◌}
use native.Mathlib.Nat.{add_assoc}
use native.Mathlib.Omega.{arith}
use borrow.Author.Tests.{le-leb, lt-ltb, le-ltb}
use lib.Dec.{T, eqb, lit<}
use lib.ListN.{length, length-append}
use lib.IntN.{ℤ, pos, negsuc}
use lib.Ieee.{binary64, nan_bits, of_bits}
use lib.Ieee.Bits.{nan_bits_is, to_bits-of_bits}
use mir.Val.{of_z, SFits}
use mir.ValLaws.{of_z_fits}
use mir.Syntax.{w64}
use Rattle.le.specs.Choice.{pick}
use Rattle.le.specs.Le.{le_bytes}
use Rattle.le.proofs.Fields.{length-le_bytes}
use Rattle.mvcc.specs.Answer.{Answer, taken, many}
use Rattle.mvcc.specs.Decode.{place_of, text_of, text_at, signed, real_of, integer_at, real_at, text_value_at, bool_at, vector_at, tagged_at, value_at, column_at, present_at, judged_at, record_at}
use Rattle.mvcc.specs.Batch.{Val, null, integer, real, text, bool, vector, Col, Rec, tombstone, present, all, encode_text, encode_value, encode_column, encode_record, Each, GoodText, GoodValue, GoodColumn, GoodRow, GoodColumns, GoodRecord}
use Rattle.mvcc.specs.Seen.{bytes_of, words, seen, seen_column, seen_row, seen_record}
use Rattle.mvcc.specs.declared.Value.TheVariants as value
use Rattle.mvcc.specs.declared.VersionPayload.TheVariants as payload
use Rattle.mvcc.proofs.Has.{Has, has_left, has_right, has-room, has-after, has-next, has_part, has-field, has-num, has-byte}

-- an answer gives something that is seen as b, and ends at `end`
pub record Gives {A B : Type 0} (see : A → B) (x : Answer A) (b : B) (end : ℕ) : Type 0 where
  pub item : A
  pub is : x ≡ taken item end
  pub same : see item ≡ b

-- ---- texts, numbers, floats

pub length-encode_text : (k : ℕ) (t : List ℕ) → length (encode_text k t) ≡ k + length t
unfolding encode_text
length-encode_text k t = simp (length-append, length-le_bytes)

pub text-has : (k : ℕ) (t : List ℕ) {s : List ℕ} {at : ℕ} → GoodText k t → Has s at (encode_text k t)
    → Gives (bytes_of s) (text_at k s at) t (at + (k + length t))
unfolding text_at text_of encode_text
text-has k t {s} {at} g h =
    let l = has_left (le_bytes k (length t)) t h in
    let b : Has s (at + k) t = has-after k (le_bytes k (length t)) t (length-le_bytes k (length t)) h in
    let r : at + k + length t ≤ length s = has-room t b in
    record {
      item = place_of s (at + k) (length t);
      is = rw (has-num k (length t) g.small l, le-leb (at + k + length t) (length s) r, has_part t b, g.utf8, add_assoc);
      same = has_part t b;
    }

pub signed_back : (z : ℤ) → SFits w64 z → signed (of_z w64 z) ≡ z
unfolding signed
signed_back (pos n) h = rw (lt-ltb n (2 ^ 63) h.sfits)
signed_back (negsuc n) h =
    let b : n < 2 ^ 63 = h.sfits in
    rw (le-ltb (2 ^ 64 - suc n) (2 ^ 63) (omega arith)) (ap negsuc (omega arith))

row_fits : (z : ℤ) → SFits w64 z → of_z w64 z < 256 ^ 8
row_fits z h = (of_z_fits w64 z h).fits

real-cases : (s : List ℕ) (n : ℕ) (b : Bool) → nan_bits binary64 n ≡ b → n < 2 ^ 64
    → seen s (pick b (value.Nan n) (value.Real (of_bits binary64 n))) ≡ real n
unfolding seen
real-cases s n true e h = refl
real-cases s n false e h = ap real (to_bits-of_bits binary64 n h (subst (λ (b : Bool). T (not b)) (sym (sym (nan_bits_is binary64 n) ∙ e)) tt))

-- every pattern of 64 bits is seen as itself
pub real-seen : (s : List ℕ) (n : ℕ) → n < 2 ^ 64 → seen s (real_of n) ≡ real n
unfolding real_of
real-seen s n h = real-cases s n (nan_bits binary64 n) refl h

pub length-words : (ws : List ℕ) → length (all (le_bytes 4) ws) ≡ length ws * 4
unfolding all
length-words [] = refl
length-words (w ∷ ws) = simp (length-append, length-le_bytes, length-words ws) (omega arith)

words-has : (ws : List ℕ) {s : List ℕ} {at : ℕ} → Each (λ (w : ℕ). w < 256 ^ 4) ws → Has s at (all (le_bytes 4) ws) → words s (length ws) at ≡ ws
unfolding all words Each
words-has [] g h = refl
words-has (w ∷ ws) {s} {at} g h =
    rw (
      has-field 4 w g.0 (has_left (le_bytes 4 w) (all (le_bytes 4) ws) h),
      words-has ws g.1 (has-after 4 (le_bytes 4 w) (all (le_bytes 4) ws) (length-le_bytes 4 w) h),
    )

not-zero : (b : Bool) → not (eqb (pick b 1 0) 0) ≡ b
not-zero true = refl
not-zero false = refl

bool_small : (b : Bool) → pick b 1 0 < 256
bool_small true = lit< tt
bool_small false = lit< tt

-- ---- values

pub value-has : (v : Val) {s : List ℕ} {at : ℕ} → GoodValue v → Has s at (encode_value v)
    → Gives (seen s) (value_at s at) v (at + length (encode_value v))
unfolding value_at tagged_at integer_at real_at text_value_at bool_at vector_at encode_value GoodValue seen
value-has null {s} {at} g h = record { item = value.Null; is = rw (has-byte 0 (lit< tt) h); same = refl }
value-has (integer z) {s} {at} g h = record {
  item = value.Integer z;
  is =
      rw (has-byte 1 (lit< tt) h, has-num 8 (of_z w64 z) (row_fits z g) (has-next 1 h), signed_back z g)
      (ap (λ (k : ℕ). taken (value.Integer z) k) (omega (arith, length-le_bytes 8 (of_z w64 z))));
  same = refl;
}
value-has (real n) {s} {at} g h = record {
  item = real_of n;
  is =
      rw (has-byte 2 (lit< tt) h, has-num 8 n g (has-next 2 h))
      (ap (λ (k : ℕ). taken (real_of n) k) (omega (arith, length-le_bytes 8 n)));
  same = real-seen s n g;
}
value-has (text t) {s} {at} g h =
    let x = text-has 4 t g (has-next 3 h) in
    record {
      item = value.Text x.item;
      is =
          rw (has-byte 3 (lit< tt) h, x.is)
          (ap (λ (k : ℕ). taken (value.Text x.item) k) (omega (arith, length-encode_text 4 t)));
      same = ap text x.same;
    }
value-has (bool b) {s} {at} g h = record {
  item = value.Bool b;
  is =
      rw (has-byte 4 (lit< tt) h, has-byte (pick b 1 0) (bool_small b) (has-next 4 h), not-zero b)
      (ap (λ (k : ℕ). taken (value.Bool b) k) (omega arith));
  same = refl;
}
value-has (vector ws) {s} {at} g h =
    let l = le_bytes 4 (length ws) in
    let n = has-next 5 h in
    let w : Has s (at + 1 + 4) (all (le_bytes 4) ws) = has-after 4 l (all (le_bytes 4) ws) (length-le_bytes 4 (length ws)) n in
    let r : at + 1 + 4 + length ws * 4 ≤ length s = omega (arith, has-room (all (le_bytes 4) ws) w, length-words ws) in
    record {
      item = value.Vector (at + 1 + 4) (length ws);
      is =
          rw (has-byte 5 (lit< tt) h, has-num 4 (length ws) g.small (has_left l (all (le_bytes 4) ws) n), le-leb (at + 1 + 4 + length ws * 4) (length s) r)
          (ap (λ (k : ℕ). taken (value.Vector (at + 1 + 4) (length ws)) k)
          (omega (arith, length-append l (all (le_bytes 4) ws), length-le_bytes 4 (length ws), length-words ws)));
      same = ap vector (words-has ws g.words w);
    }

-- ---- columns and records

pub column-has : (c : Col) {s : List ℕ} {at : ℕ} → GoodColumn c → Has s at (encode_column c)
    → Gives (seen_column s) (column_at s at) c (at + length (encode_column c))
unfolding column_at encode_column seen_column
column-has c {s} {at} g h =
    let n = encode_text 2 c.name in
    let v = encode_value c.val in
    let x = text-has 2 c.name g.named (has_left n v h) in
    let y = value-has c.val g.valued (has-after (2 + length c.name) n v (length-encode_text 2 c.name) h) in
    record {
      item = record { name = x.item; value = y.item };
      is =
          rw (x.is, y.is)
          (ap (λ (k : ℕ). taken (record { name = x.item; value = y.item }) k)
          (omega (arith, length-append n v, length-encode_text 2 c.name)));
      same = rw (x.same, y.same);
    }

-- a run of things each of which is given back
module _ {A B : Type 0} (f : ℕ → Answer A) (see : A → B) (enc : B → List ℕ) (Good : B → Type 0) (s : List ℕ)
    (one : (b : B) (at : ℕ) → Good b → Has s at (enc b) → Gives see (f at) b (at + length (enc b))) where
  pub many-has : (bs : List B) {at : ℕ} → Each Good bs → Has s at (all enc bs)
      → Gives (map see) (many f (length bs) at) bs (at + length (all enc bs))
  unfolding all many Each
  many-has [] {at} g h = record { item = []; is = ap (λ (k : ℕ). taken [] k) (omega arith); same = refl }
  many-has (b ∷ bs) {at} g h =
      let x = one b at g.0 (has_left (enc b) (all enc bs) h) in
      let y = many-has bs g.1 (has_right (enc b) (all enc bs) h) in
      record {
        item = x.item ∷ y.item;
        is = rw (x.is, y.is) (ap (λ (k : ℕ). taken (x.item ∷ y.item) k) (omega (arith, length-append (enc b) (all enc bs))));
        same = rw (x.same, y.same);
      }

module _ (t : List ℕ) (row : ℤ) (g : GoodRow t row) {s : List ℕ} {at : ℕ} where
  tombstone-has : Has s at (encode_record (tombstone t row))
      → Gives (seen_record s) (record_at s at) (tombstone t row) (at + length (encode_record (tombstone t row)))
  unfolding encode_record record_at judged_at seen_record seen_row
  tombstone-has h =
      let n = encode_text 2 t in
      let w = le_bytes 8 (of_z w64 row) in
      let x = text-has 2 t g.table (has_left n w (has-next 0 h)) in
      let y = has-num 8 (of_z w64 row) (row_fits row g.rowid) (has-after (2 + length t) n w (length-encode_text 2 t) (has-next 0 h)) in
      record {
        item = record { row = record { table = x.item; rowid = row }; payload = payload.Tombstone };
        is =
            rw (has-byte 0 (lit< tt) h, x.is, y, signed_back row g.rowid)
            (ap (λ (k : ℕ). taken (record { row = record { table = x.item; rowid = row }; payload = payload.Tombstone }) k)
            (omega (arith, length-append n w, length-encode_text 2 t, length-le_bytes 8 (of_z w64 row))));
        same = rw x.same;
      }

  present-has : (cs : List Col) → GoodColumns cs → Has s at (encode_record (present t row cs))
      → Gives (seen_record s) (record_at s at) (present t row cs) (at + length (encode_record (present t row cs)))
  unfolding encode_record record_at judged_at present_at seen_record seen_row
  present-has cs gc h =
      let n = encode_text 2 t in
      let w = le_bytes 8 (of_z w64 row) in
      let c = le_bytes 2 (length cs) in
      let e = all encode_column cs in
      let h1 = has-next 1 h in
      let h2 = has-after (2 + length t) n (w ++ (c ++ e)) (length-encode_text 2 t) h1 in
      let h3 = has-after 8 w (c ++ e) (length-le_bytes 8 (of_z w64 row)) h2 in
      let x = text-has 2 t g.table (has_left n (w ++ (c ++ e)) h1) in
      let y = has-num 8 (of_z w64 row) (row_fits row g.rowid) (has_left w (c ++ e) h2) in
      let k = has-num 2 (length cs) gc.few (has_left c e h3) in
      let z = many-has (column_at s) (seen_column s) encode_column GoodColumn s (λ c at. column-has c) cs gc.each (has-after 2 c e (length-le_bytes 2 (length cs)) h3) in
      record {
        item = record { row = record { table = x.item; rowid = row }; payload = payload.Present (length cs) (at + 1 + (2 + length t) + 8 + 2) };
        is =
            rw (has-byte 1 (lit< tt) h, x.is, y, signed_back row g.rowid, k, z.is)
            (ap (λ (k : ℕ). taken (record { row = record { table = x.item; rowid = row }; payload = payload.Present (length cs) (at + 1 + (2 + length t) + 8 + 2) }) k)
            (omega (
              arith,
              length-append n (w ++ (c ++ e)),
              length-encode_text 2 t,
              length-append w (c ++ e),
              length-le_bytes 8 (of_z w64 row),
              length-append c e,
              length-le_bytes 2 (length cs),
            )));
        same = rw (x.same, z.is, z.same);
      }

pub record-has : (r : Rec) {s : List ℕ} {at : ℕ} → GoodRecord r → Has s at (encode_record r)
    → Gives (seen_record s) (record_at s at) r (at + length (encode_record r))
unfolding GoodRecord
record-has (tombstone t row) g h = tombstone-has t row g h
record-has (present t row cs) g h = present-has t row g.0 cs g.1 h
