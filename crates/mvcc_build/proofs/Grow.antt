-- How a batch's bytes grow: a record or a column behind them, and its count stored anew. Assumes nothing.
use mathlib.Core.Path.{◌≡◌, refl, sym, ap, ◌∙◌}
use mathlib.Core.Bool.{true, false}
use mathlib.Core.List.{List, [], ◌∷◌, ◌++◌, append_assoc, append-nil}
use Prim.Native.Nat.{ℕ, suc, ◌+◌, ◌-◌, ◌≤◌}
use native.Mathlib.Nat.{add_assoc, add-zero}
use native.Mathlib.Omega.{arith}
use lib.ListN.{length, replicate, length-append, length-replicate, replicate-append-replicate}
use lib.Seq.{take-append_seam, drop-append-add, drop-append_seam}
use mir.Val.{of_z}
use mir.Syntax.{w64}
use Rattle.std.specs.Prelude.{None}
use Rattle.le.specs.Le.{le_bytes, put, store}
use Rattle.le.proofs.Fields.{length-le_bytes}
use Rattle.le.proofs.Stores.{store-put}
use Rattle.mvcc.specs.Batch.{Col, Rec, tombstone, present, all, encode_text, encode_column, encode_record, encode_batch, padded}
use Rattle.mvcc.proofs.Trip.{length-encode_text}
use Rattle.mvcc_build.specs.Build.{taking, last_at}
use Rattle.mvcc_build.specs.Built.{last_from, ends_present, with_in, with_column}
use Rattle.mvcc_build.specs.declared.OpenRecord.{OpenRecord}

-- ---- stores into bytes with zeros behind

-- bytes put over others of their length
put-at : (x old y new : List ℕ) → length old ≡ length new → put (x ++ (old ++ y)) (length x) new ≡ x ++ (new ++ y)
unfolding put
put-at x old y new e =
    rw (take-append_seam x (old ++ y), drop-append-add x (old ++ y) (length new), ← e, drop-append_seam old y)

length-padded : (l : List ℕ) → length l ≤ 4096 → length (padded l) ≡ 4096
unfolding padded
length-padded l h = simp (length-append, length-replicate {A = ℕ}) (omega arith)

-- bytes bs go behind others, over the zeros there
put-behind : (l bs : List ℕ) → length l + length bs ≤ 4096 → put (padded l) (length l) bs ≡ padded (l ++ bs)
unfolding padded
put-behind l bs h =
    let k = 4096 - length (l ++ bs) in
    let e : 4096 - length l ≡ length bs + k = rw length-append (omega arith) in
    let z : replicate {A = ℕ} (4096 - length l) 0 ≡ replicate (length bs) 0 ++ replicate k 0 = rw (e, ← replicate-append-replicate {A = ℕ} (length bs) k 0) in
    rw (z, put-at l (replicate (length bs) 0) (replicate k 0) bs (length-replicate {A = ℕ} (length bs) 0)) (sym (append_assoc l bs (replicate k 0)))

-- a count among them is stored anew
recount : (x old y new : List ℕ) → length old ≡ length new → length (x ++ (old ++ y)) ≤ 4096
    → store (padded (x ++ (old ++ y))) (length x) new ≡ padded (x ++ (new ++ y))
unfolding padded
recount x old y new e h =
    let z : List ℕ = replicate (4096 - length (x ++ (old ++ y))) 0 in
    let n : length (x ++ (old ++ y)) ≡ length (x ++ (new ++ y)) = simp (length-append, e) in
    let a : (x ++ (old ++ y)) ++ z ≡ x ++ (old ++ (y ++ z)) = simp append_assoc in
    let r : length x + length new ≤ length (padded (x ++ (old ++ y))) =
    rw (length-padded (x ++ (old ++ y)) h) (omega (arith, simp length-append at h, e)) in
    store-put (padded (x ++ (old ++ y))) (length x) new r ∙ rw (a, put-at x old (y ++ z) new e, n) (simp append_assoc)

-- both
pub grown : (x old y new bs : List ℕ) → length old ≡ length new → length (x ++ (old ++ y)) + length bs ≤ 4096
    → store (put (padded (x ++ (old ++ y))) (length (x ++ (old ++ y))) bs) (length x) new ≡ padded (x ++ (new ++ (y ++ bs)))
grown x old y new bs e h =
    let a : (x ++ (old ++ y)) ++ bs ≡ x ++ (old ++ (y ++ bs)) = simp append_assoc in
    let k : length (x ++ (old ++ (y ++ bs))) ≤ 4096 = rw (← a, length-append) h in
    rw (put-behind (x ++ (old ++ y)) bs h, a) (recount x old (y ++ bs) new e k)

-- ---- the bytes of a batch

-- magic and commit time
unfoldable pub top : ℕ → List ℕ
top t = (0x4d ∷ 0x56 ∷ 0x43 ∷ 0x43 ∷ 0x30 ∷ 0x30 ∷ 0x30 ∷ 0x31 ∷ []) ++ le_bytes 8 t

pub length-top : (t : ℕ) → length (top t) ≡ 16
unfolding top
length-top t = simp length-append (omega (arith, length-le_bytes 8 t))

pub batch-is : (t : ℕ) (rs : List Rec) → encode_batch t rs ≡ top t ++ (le_bytes 2 (length rs) ++ all encode_record rs)
unfolding encode_batch top
batch-is t rs = refl

pub batch-size : (t : ℕ) (rs : List Rec) → length (encode_batch t rs) ≡ 18 + length (all encode_record rs)
batch-size t rs = rw batch-is (simp (length-append, length-top, length-le_bytes) (omega arith))

pub all_snoc : {A : Type 0} (f : A → List ℕ) (xs : List A) (x : A) → all f (xs ++ (x ∷ [])) ≡ all f xs ++ f x
unfolding all
all_snoc f [] x = append-nil (f x)
all_snoc f (y ∷ xs) x = rw (all_snoc f xs x) (sym (append_assoc (f y) (all f xs) (f x)))

pub length-snoc : {A : Type 0} (xs : List A) (x : A) → length (xs ++ (x ∷ [])) ≡ length xs + 1
length-snoc xs x = length-append xs (x ∷ [])

-- ---- a record more

module _ (t : ℕ) (rs : List Rec) (r : Rec) where
  more-is : encode_batch t (rs ++ (r ∷ [])) ≡ top t ++ (le_bytes 2 (length rs + 1) ++ (all encode_record rs ++ encode_record r))
  more-is = rw (batch-is, length-snoc rs r, all_snoc encode_record rs r)

  pub record-size : length (encode_batch t (rs ++ (r ∷ []))) ≡ length (encode_batch t rs) + length (encode_record r)
  record-size = rw (batch-size, batch-size, all_snoc encode_record rs r, length-append) (omega arith)

  pub record-grown : length (encode_batch t rs) + length (encode_record r) ≤ 4096
      → store (put (padded (encode_batch t rs)) (length (encode_batch t rs)) (encode_record r)) 16 (le_bytes 2 (length rs + 1))
      ≡ padded (encode_batch t (rs ++ (r ∷ [])))
  record-grown h =
      let n : length (le_bytes 2 (length rs)) ≡ length (le_bytes 2 (length rs + 1)) = rw (length-le_bytes, length-le_bytes) in
      let k : length (top t ++ (le_bytes 2 (length rs) ++ all encode_record rs)) + length (encode_record r) ≤ 4096 = rw batch-is at h in
      let g = grown (top t) (le_bytes 2 (length rs)) (all encode_record rs) (le_bytes 2 (length rs + 1)) (encode_record r) n k in
      rw (more-is, batch-is) (rw length-top at g)

pub last_snoc : (at : ℕ) (rs : List Rec) (r : Rec) → last_from at (rs ++ (r ∷ [])) ≡ last_at (at + length (all encode_record rs)) r
unfolding last_from all
last_snoc at [] r = rw add-zero
last_snoc at (q ∷ []) r = rw append-nil
last_snoc at (q ∷ p ∷ rs) r =
    last_snoc (at + length (encode_record q)) (p ∷ rs) r
    ∙ ap (λ (k : ℕ). last_at k r)
    (add_assoc at (length (encode_record q)) (length (all encode_record (p ∷ rs)))
    ∙ ap (λ (k : ℕ). at + k) (sym (length-append (encode_record q) (all encode_record (p ∷ rs)))))

-- ---- a column more

-- what a column adds to records whose bytes start at `at` and whose last one is open
pub record Opened (at counted columns : ℕ) (old new bs : List ℕ) : Type 0 where
  pub front : List ℕ
  pub back : List ℕ
  pub place : at + length front ≡ counted
  pub was : old ≡ front ++ (le_bytes 2 columns ++ back)
  pub is : new ≡ front ++ (le_bytes 2 (columns + 1) ++ (back ++ bs))

-- open records that are one have one place and one count
pub taking-same : {x y u v : ℕ} → taking x y ≡ taking u v → (x ≡ u) × (y ≡ v)
taking-same {x} {y} {u} {v} e =
    let r : ◌≡◌ {A = OpenRecord} (record { counted = x; columns = y }) (record { counted = u; columns = v }) = cc in
    (ap (λ (o : OpenRecord). o.counted) r, ap (λ (o : OpenRecord). o.columns) r)

pub never : {A : Type 0} {x y : ℕ} → None ≡ taking x y → A
never e = let z : ◌≡◌ {A = ℕ} 0 1 = cc in absurd (omega arith)

opened_one : (at : ℕ) (r : Rec) (c : Col) {counted columns : ℕ} → last_at at r ≡ taking counted columns
    → Opened at counted columns (encode_record r) (encode_record (with_in r c)) (encode_column c)
unfolding with_in encode_record
opened_one at (tombstone t row) c e = never e
opened_one at (present t row cs) c {counted} {columns} e =
    let p : at + (11 + length t) ≡ counted = (taking-same e).0 in
    let n : length cs ≡ columns = (taking-same e).1 in
    let T = encode_text 2 t in
    let R = le_bytes 8 (of_z w64 row) in
    record {
      front = 1 ∷ (T ++ R);
      back = all encode_column cs;
      place = rw length-append (omega (arith, length-encode_text 2 t, length-le_bytes 8 (of_z w64 row)));
      was = rw n (simp append_assoc);
      is = rw (length-snoc cs c, n, all_snoc encode_column cs c) (simp append_assoc);
    }

opened-more : (at : ℕ) (xs : List ℕ) {counted columns : ℕ} {old new bs : List ℕ} → Opened (at + length xs) counted columns old new bs
    → Opened at counted columns (xs ++ old) (xs ++ new) bs
opened-more at xs o = record {
  front = xs ++ o.front;
  back = o.back;
  place = rw length-append (omega (arith, o.place));
  was = rw o.was (simp append_assoc);
  is = rw o.is (simp append_assoc);
}

pub opened : (at : ℕ) (rs : List Rec) (c : Col) {counted columns : ℕ} → last_from at rs ≡ taking counted columns
    → Opened at counted columns (all encode_record rs) (all encode_record (with_column rs c)) (encode_column c)
unfolding last_from with_column all
opened at [] c e = never e
opened at (r ∷ []) c e = rw (append-nil, append-nil) (opened_one at r c e)
opened at (r ∷ q ∷ rs) c e = opened-more at (encode_record r) (opened (at + length (encode_record r)) (q ∷ rs) c e)

pub length-with : (rs : List Rec) (c : Col) → length (with_column rs c) ≡ length rs
unfolding with_column
length-with [] c = refl
length-with (r ∷ []) c = refl
length-with (r ∷ q ∷ rs) c = ap suc (length-with (q ∷ rs) c)

module _ (t : ℕ) (rs : List Rec) (c : Col) {counted columns : ℕ} (e : last_from 18 rs ≡ taking counted columns) where
  abbrev o : Opened 18 counted columns (all encode_record rs) (all encode_record (with_column rs c)) (encode_column c)
  o = opened 18 rs c e

  abbrev X : List ℕ
  X = top t ++ (le_bytes 2 (length rs) ++ o.front)

  batch-was : encode_batch t rs ≡ X ++ (le_bytes 2 columns ++ o.back)
  batch-was = rw (batch-is, o.was) (simp append_assoc)

  batch-now : encode_batch t (with_column rs c) ≡ X ++ (le_bytes 2 (columns + 1) ++ (o.back ++ encode_column c))
  batch-now = rw (batch-is, length-with rs c, o.is) (simp append_assoc)

  length__x : length X ≡ counted
  length__x = simp (length-append, length-top, length-le_bytes) (omega (arith, o.place))

  pub column-size : length (encode_batch t (with_column rs c)) ≡ length (encode_batch t rs) + length (encode_column c)
  column-size = rw (batch-now, batch-was) (simp (length-append, length-le_bytes) (omega arith))

  pub column-grown : length (encode_batch t rs) + length (encode_column c) ≤ 4096
      → store (put (padded (encode_batch t rs)) (length (encode_batch t rs)) (encode_column c)) counted (le_bytes 2 (columns + 1))
      ≡ padded (encode_batch t (with_column rs c))
  column-grown h =
      let n : length (le_bytes 2 columns) ≡ length (le_bytes 2 (columns + 1)) = rw (length-le_bytes, length-le_bytes) in
      let k : length (X ++ (le_bytes 2 columns ++ o.back)) + length (encode_column c) ≤ 4096 = rw batch-was at h in
      let g = grown X (le_bytes 2 columns) o.back (le_bytes 2 (columns + 1)) (encode_column c) n k in
      rw (batch-now, batch-was) (rw length__x at g)

-- the last record stays open, with one column more
pub last-with : (at : ℕ) (rs : List Rec) (c : Col) {counted columns : ℕ} → last_from at rs ≡ taking counted columns
    → last_from at (with_column rs c) ≡ taking counted (columns + 1)
unfolding last_from with_column with_in
last-with at [] c e = never e
last-with at (tombstone t row ∷ []) c e = never e
last-with at (present t row cs ∷ []) c {counted} {columns} e =
    let p : at + (11 + length t) ≡ counted = (taking-same e).0 in
    let n : length cs ≡ columns = (taking-same e).1 in
    rw (length-snoc cs c, p, n)
last-with at (r ∷ q ∷ []) c e = last-with (at + length (encode_record r)) (q ∷ []) c e
last-with at (r ∷ q ∷ p ∷ rs) c e = last-with (at + length (encode_record r)) (q ∷ p ∷ rs) c e

-- ---- which is last

pub ends_open : (at : ℕ) (rs : List Rec) {counted columns : ℕ} → last_from at rs ≡ taking counted columns → ends_present rs ≡ true
unfolding last_from ends_present
ends_open at [] e = never e
ends_open at (tombstone t row ∷ []) e = never e
ends_open at (present t row cs ∷ []) e = refl
ends_open at (r ∷ q ∷ rs) e = ends_open (at + length (encode_record r)) (q ∷ rs) e

pub ends-closed : (at : ℕ) (rs : List Rec) → last_from at rs ≡ None → ends_present rs ≡ false
unfolding last_from ends_present
ends-closed at [] e = refl
ends-closed at (tombstone t row ∷ []) e = refl
ends-closed at (present t row cs ∷ []) e = never (sym e)
ends-closed at (r ∷ q ∷ rs) e = ends-closed (at + length (encode_record r)) (q ∷ rs) e
