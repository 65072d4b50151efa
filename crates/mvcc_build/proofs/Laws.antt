-- Laws of the stores and answers of an addition, as the functions' proofs cite them. Assumes nothing.
use mathlib.Core.Path.{◌≡◌, refl, sym, ap, ◌∙◌}
use mathlib.Core.Bool.{Bool, true, false}
use mathlib.Core.List.{List, [], ◌∷◌, ◌++◌, append_assoc, append-nil}
use Prim.Native.Nat.{ℕ, zero, suc, ◌+◌, ◌*◌, ◌/◌, ◌%◌, ◌≤◌, ◌<◌}
use native.Mathlib.Omega.{arith}
use borrow.Author.Tests.{leb-true, eq-eqb, ne_eqb, eqb-true}
use lib.Dec.{leb, eqb}
use lib.Ieee.{Float, nan, inf, fin, is_nan, binary64, to_bits}
use lib.ListN.{length, take, drop, set, replicate, length-append, length-replicate, replicate-append-replicate}
use lib.Seq.{take-add, take-length, drop-drop}
use lib.IntN.{ℤ}
use mir.Val.{of_z, bool_byte}
use mir.Syntax.{w64}
use Rattle.std.specs.Prelude.{Option, None, Some, Ok, Err}
use Rattle.le.proofs.Compare.{no_test}
use Rattle.le.specs.Choice.{pick, both}
use Rattle.le.specs.Le.{Bytes, le_bytes, put, store}
use Rattle.le.proofs.Fields.{length-le_bytes, le_bytes-field}
use Rattle.le.proofs.Stores.{put_all, put_next, length-put, set-put, put-more, store-put, store-next}
use Rattle.text.specs.Utf8.{well_formed}
use Rattle.mvcc.specs.Batch.{Val, null, integer, real, text, bool, vector, tombstone, present, all, encode_text, encode_value, encode_column, encode_record, encode_batch, encode_body, padded}
use Rattle.mvcc.proofs.Trip.{length-encode_text}
use Rattle.mvcc.proofs.Sound.{words-length}
use Rattle.mvcc.specs.Seen.{words}
use Rattle.mvcc_build.specs.Build.{Added, taking, judged, behind, addition_judged, body_after, record_in, record_count, head_bytes, last_of, head_result, record_added, record_bytes, column_in, column_result, column_count, columns_recounted, column, texted, column_added, column_bytes, elements, vector_added, vector_bytes, tagged, started, started_bytes, is_full}
use Rattle.mvcc_build.specs.declared.BatchBuilder.{BatchBuilder}
use Rattle.mvcc_build.specs.declared.OpenRecord.{OpenRecord}
use Rattle.refusal.specs.declared.Refusal.TheVariants.{Area, Truncated, Text, Fit, NoRecord}
use Rattle.refusal.specs.declared.Refusal.{Refusal}

-- ---- floats

-- the bits of the NaN
pub nan-bits : (x : Float) → is_nan x ≡ true → 0x7ff8_0000_0000_0000 ≡ to_bits binary64 x
unfolding is_nan to_bits
nan-bits nan e = refl
nan-bits (inf s) e = cc
nan-bits (fin s m d) e = cc

-- ---- lengths

pub length-head : (op : ℕ) (t : List ℕ) (row : ℤ) (z : ℕ) → length (head_bytes op t row z) ≡ 11 + z + length t
unfolding head_bytes
length-head op t row z =
    simp (length-append, length-encode_text, length-le_bytes, length-replicate {A = ℕ}) (omega arith)

pub length-tagged : (t : List ℕ) (tag k v : ℕ) (bs : List ℕ) → length (tagged t tag k v bs) ≡ 3 + k + length t + length bs
unfolding tagged
length-tagged t tag k v bs = simp (length-append, length-encode_text, length-le_bytes) (omega arith)

-- ---- stores

-- a number's lowest byte, then the others behind it
pub number_more : (l : List ℕ) (at k v : ℕ) → at < length l → put (set l at (v % 256)) (at + 1) (le_bytes k (v / 256)) ≡ put l at (le_bytes (suc k) v)
unfolding le_bytes
number_more l at k v h = rw (set-put l at (v % 256) h) (put_next 1 l at (v % 256 ∷ []) (le_bytes k (v / 256)) refl (omega arith))

module _ (l : List ℕ) (at : ℕ) (full : length l ≡ 4096) where
  pub text-stored : (t : List ℕ) {m r : List ℕ} → at + (2 + length t) ≤ 4096 → m ≡ store l at (le_bytes 2 (length t)) → r ≡ put m (at + 2) t
      → r ≡ put l at (encode_text 2 t)
  unfolding encode_text
  text-stored t h e f =
      let k = length-le_bytes 2 (length t) in
      let p = e ∙ store-put l at (le_bytes 2 (length t)) (rw (k, full) (omega arith)) in
      f ∙ rw p (put_next 2 l at (le_bytes 2 (length t)) t k (rw full (omega arith)))

  -- a store that was judged to fit
  pub one-stored : (bs : List ℕ) {r : List ℕ} → at + length bs ≤ 4096 → r ≡ store l at bs → r ≡ put l at bs
  one-stored bs h e = e ∙ store-put l at bs (rw full h)

  -- the body keeps its length
  pub kept : (bs : List ℕ) {r : List ℕ} → at + length bs ≤ 4096 → r ≡ put l at bs → length r ≡ length l
  kept bs h e = rw e (length-put l at bs (rw full h))

  pub head-stored : (op : ℕ) (t : List ℕ) (row : ℤ) (z : ℕ) {l2 l3 l4 : List ℕ} → at + (11 + z + length t) ≤ 4096
      → l2 ≡ put (set l at op) (at + 1) (encode_text 2 t) → l3 ≡ store l2 (at + (3 + length t)) (le_bytes 8 (of_z w64 row))
      → l4 ≡ store l3 (at + (11 + length t)) (replicate z 0) → l4 ≡ put l at (head_bytes op t row z)
  unfolding head_bytes
  head-stored op t row z {l2} {l3} {l4} h e2 e3 e4 =
      let T = encode_text 2 t in
      let R = le_bytes 8 (of_z w64 row) in
      let Z : List ℕ = replicate z 0 in
      let n : length T ≡ 2 + length t = length-encode_text 2 t in
      let k : length R ≡ 8 = length-le_bytes 8 (of_z w64 row) in
      let w : length Z ≡ z = length-replicate {A = ℕ} z 0 in
      let i : at < length l = rw full (omega arith) in
      let p2 : l2 ≡ put l at (op ∷ T) =
      e2 ∙ rw (set-put l at op i) (put_next 1 l at (op ∷ []) T refl (rw full (omega arith))) in
      let p3 : l3 ≡ put l at ((op ∷ T) ++ R) =
      store-next (3 + length t) 8 l at (op ∷ T) R (omega arith) k (rw full (omega arith)) p2 e3 in
      let p4 : l4 ≡ put l at (((op ∷ T) ++ R) ++ Z) =
      store-next (11 + length t) z l at ((op ∷ T) ++ R) Z (rw length-append (omega arith)) w (rw full (omega arith)) p3 e4 in
      p4 ∙ ap (put l at) (append_assoc (op ∷ T) R Z)

  module _ (t : List ℕ) (tag k v : ℕ) {l1 l3 : List ℕ} (h : at + (3 + k + length t) ≤ 4096)
      (e1 : l1 ≡ put l at (encode_text 2 t)) (e3 : l3 ≡ put (set l1 (at + (2 + length t)) tag) (at + (3 + length t)) (le_bytes k v)) where
    abbrev front : List ℕ
    front = (encode_text 2 t ++ (tag ∷ [])) ++ le_bytes k v

    -- a column's bytes up to its value's number
    front_long : length front ≡ 3 + length t + k
    front_long = simp (length-append, length-encode_text, length-le_bytes) (omega arith)

    front-stored : l3 ≡ put l at front
    front-stored =
        let T = encode_text 2 t in
        let n : length T ≡ 2 + length t = length-encode_text 2 t in
        let m : length (T ++ (tag ∷ [])) ≡ 3 + length t = rw length-append (omega arith) in
        let p : set l1 (at + (2 + length t)) tag ≡ put l at (T ++ (tag ∷ [])) =
        rw e1 (put-more (2 + length t) l at T tag n (rw full (omega arith))) in
        e3 ∙ rw p (put_next (3 + length t) l at (T ++ (tag ∷ [])) (le_bytes k v) m (rw full (omega arith)))

    pub front_kept : length l3 ≡ 4096
    front_kept = kept front (rw front_long (omega arith)) front-stored ∙ full

    pub column-stored : (bs : List ℕ) {l4 : List ℕ} → at + (3 + k + length t + length bs) ≤ 4096
        → l4 ≡ put l3 (at + (3 + length t + k)) bs → l4 ≡ put l at (tagged t tag k v bs)
    unfolding tagged
    column-stored bs {l4} i e4 =
        let p : l4 ≡ put l at (front ++ bs) = e4 ∙ rw front-stored (put_next (3 + length t + k) l at front bs front_long (rw full (omega arith))) in
        p ∙ ap (put l at) (simp append_assoc)

-- ---- what an addition answers

-- what is behind a judgement, where it isn't the area that is wrong
pub behind-picks : (t f : Bool) (more : Added) → behind (pick t (pick f (Ok (tt {0})) (Err Fit)) (Err Text)) more ≡ pick t (pick f more (Err Fit)) (Err Text)
behind-picks true true more = refl
behind-picks true false more = refl
behind-picks false f more = refl

-- what a judgement that refuses nothing says
pub judged-fine : (n : ℕ) (texts : Bool) (end : ℕ) → judged n texts end ≡ Ok (tt {0}) → (n ≡ 4096) × (texts ≡ true) × (end ≤ 4096)
unfolding judged
judged-fine n texts end h = go (eqb n 4096) texts (leb end 4096) refl refl h
  where
    go : (w t f : Bool) → eqb n 4096 ≡ w → leb end 4096 ≡ f → pick w (pick t (pick f (Ok (tt {0})) (Err Fit)) (Err Text)) (Err Area) ≡ Ok (tt {0})
        → (n ≡ 4096) × (t ≡ true) × (end ≤ 4096)
    go true true true e f k = (eqb-true n 4096 e, refl, leb-true end 4096 f)
    go true true false e f k = cc
    go true false f e g k = cc
    go false t f e g k = cc

-- ---- the ways of an addition with the bytes bs: what it answers and leaves

module _ (count : BatchBuilder → List ℕ → List ℕ) (b : BatchBuilder) (body : List ℕ) (texts : Bool) (bs : List ℕ) (more : Added) {n : ℕ} (m : length bs ≡ n) where
  abbrev Says : Added → List ℕ → Type 0
  Says r l = (r ≡ addition_judged b body texts bs more) × (l ≡ body_after count b body bs r)

  pub way-refused : {e : Refusal} → judged (length body) texts (b.at + n) ≡ Err e → Says (Err e) body
  unfolding addition_judged body_after
  way-refused h = (rw (m, h), refl)

  pub way-more : judged (length body) texts (b.at + n) ≡ Ok (tt {0}) → {x : Added} {l : List ℕ} → x ≡ more → l ≡ body_after count b body bs x → Says x l
  unfolding addition_judged
  way-more h p q = (p ∙ rw (m, h), q)

module _ (b : BatchBuilder) (body : List ℕ) (texts : Bool) (op : ℕ) (t : List ℕ) (row : ℤ) (z : ℕ) where
  abbrev H : List ℕ
  H = head_bytes op t row z

  abbrev end : Option OpenRecord
  end = last_of op (b.at + (11 + length t))

  abbrev Heads : Added → List ℕ → Type 0
  Heads r l = (r ≡ head_result b body texts op t row z) × (l ≡ body_after record_count b body H r)

  size : length H ≡ 11 + z + length t + 0
  size = rw length-head (omega arith)

  pub head-refused : {e : Refusal} → judged (length body) texts (b.at + (11 + z + length t + 0)) ≡ Err e → Heads (Err e) body
  unfolding head_result
  head-refused h = way-refused record_count b body texts H (record_in b (length H) end) size h

  module _ (h : judged (length body) texts (b.at + (11 + z + length t + 0)) ≡ Ok (tt {0})) where
    pub head-many : b.records ≡ 0xffff → Heads (Err Fit) body
    unfolding head_result record_in body_after
    head-many k = way-more record_count b body texts H (record_in b (length H) end) size h (rw (eq-eqb _ _ k)) refl

    pub head_done : (b.records ≡ 0xffff → ⊥) → {l m : List ℕ} {w : Option OpenRecord} → w ≡ end
        → l ≡ put body b.at H → m ≡ store l 16 (le_bytes 2 (b.records + 1))
        → Heads (Ok (record { at = b.at + (11 + length t) + z; records = b.records + 1; last = w })) m
    unfolding head_result record_in body_after record_count
    head_done k {l} {m} {w} o p q =
        let i : b.at + (11 + length t) + z ≡ b.at + length H = rw length-head (omega arith) in
        way-more record_count b body texts H (record_in b (length H) end) size h
        (rw (ne_eqb _ _ k, i, o)) (rw p at q)

-- a record that takes one more, and one that doesn't
pub fewer : (o : Option OpenRecord) {counted columns : ℕ} → is_full o ≡ false → o ≡ taking counted columns → columns ≡ 0xffff → ⊥
fewer o {counted} {columns} e f h =
    let g : eqb columns 0xffff ≡ false = rw f at e in
    no_test (sym g ∙ eq-eqb columns 0xffff h)

module _ (b : BatchBuilder) (body : List ℕ) (texts : Bool) (t : List ℕ) (tag k v : ℕ) (bs : List ℕ) where
  abbrev C : List ℕ
  C = tagged t tag k v bs

  abbrev Cols : Added → List ℕ → Type 0
  Cols r l = (r ≡ column_result b body texts C) × (l ≡ body_after column_count b body C r)

  sized : length C ≡ 3 + k + length t + length bs
  sized = length-tagged t tag k v bs

  many-at : (o : Option OpenRecord) → is_full o ≡ true → Err Fit ≡ column_in b (length C) o
  unfolding column_in
  many-at None e = no_test e
  many-at (Some r) e = rw e

  pub col-refused : {e : Refusal} → judged (length body) texts (b.at + (3 + k + length t + length bs)) ≡ Err e → Cols (Err e) body
  unfolding column_result
  col-refused h = way-refused column_count b body texts C (column_in b (length C) b.last) sized h

  module _ (h : judged (length body) texts (b.at + (3 + k + length t + length bs)) ≡ Ok (tt {0})) where
    pub col-none : b.last ≡ None → Cols (Err NoRecord) body
    unfolding column_result column_in body_after
    col-none o = way-more column_count b body texts C (column_in b (length C) b.last) sized h (rw o) refl

    pub col-many : is_full b.last ≡ true → Cols (Err Fit) body
    unfolding column_result body_after
    col-many e = way-more column_count b body texts C (column_in b (length C) b.last) sized h (many-at b.last e) refl

    module _ {counted columns : ℕ} (o : b.last ≡ taking counted columns) where
      pub col-done : is_full b.last ≡ false → {l m : List ℕ} → l ≡ put body b.at C → m ≡ store l counted (le_bytes 2 (columns + 1))
          → Cols (Ok (record { at = b.at + (3 + k + length t + length bs); records = b.records; last = taking counted (columns + 1) })) m
      unfolding column_result column_in body_after column_count columns_recounted
      col-done i p q =
          let e : eqb columns 0xffff ≡ false = rw o at i in
          way-more column_count b body texts C (column_in b (length C) b.last) sized h
          (rw (o, e, sized)) (rw p at q)

-- ---- the public additions

tombstone-head : (t : List ℕ) (row : ℤ) → head_bytes 0 t row 0 ≡ encode_record (tombstone t row)
unfolding head_bytes encode_record
tombstone-head t row = rw append-nil

present-head : (t : List ℕ) (row : ℤ) → head_bytes 1 t row 2 ≡ encode_record (present t row [])
unfolding head_bytes encode_record le_bytes all
present-head t row = refl

module _ (b : BatchBuilder) (body t : List ℕ) (row : ℤ) {texts : Bool} {r : Added} {l : List ℕ} (u : texts ≡ well_formed t) where
  pub tombstone-way : r ≡ head_result b body texts 0 t row 0 → l ≡ body_after record_count b body (head_bytes 0 t row 0) r
      → (r ≡ record_added b body (tombstone t row)) × (l ≡ record_bytes b body (tombstone t row))
  unfolding head_result record_added record_bytes
  tombstone-way p q =
      let e : r ≡ record_added b body (tombstone t row) = rw (u, tombstone-head) at p in
      (e, rw (tombstone-head, e) at q)

  pub present-way : r ≡ head_result b body texts 1 t row 2 → l ≡ body_after record_count b body (head_bytes 1 t row 2) r
      → (r ≡ record_added b body (present t row [])) × (l ≡ record_bytes b body (present t row []))
  unfolding head_result record_added record_bytes
  present-way p q =
      let e : r ≡ record_added b body (present t row []) = rw (u, present-head) at p in
      (e, rw (present-head, e) at q)

-- a column of any kind, by the tag, number and bytes of its value
module _ (b : BatchBuilder) (body n : List ℕ) (tag k v : ℕ) (bs : List ℕ) (x : Val) (e : tag ∷ (le_bytes k v ++ bs) ≡ encode_value x) where
  same-column : tagged n tag k v bs ≡ encode_column (column n x)
  unfolding tagged encode_column
  same-column = rw e

  pub column-way : {texts : Bool} {r : Added} {l : List ℕ} → texts ≡ both (texted x) (well_formed n) → r ≡ column_result b body texts (tagged n tag k v bs)
      → l ≡ body_after column_count b body (tagged n tag k v bs) r
      → (r ≡ column_added b body (column n x)) × (l ≡ column_bytes b body (column n x))
  unfolding column_added column_bytes
  column-way {texts} {r} t p q =
      let f : r ≡ column_result b body (both (texted x) (well_formed n)) (encode_column (column n x)) = rw (← t, ← same-column) p in
      (f, rw (same-column, f) at q)

-- ---- the bytes of each kind of value

pub null-bytes : 0 ∷ (le_bytes 0 0 ++ []) ≡ encode_value null
unfolding le_bytes encode_value
null-bytes = refl

pub integer-bytes : (z : ℤ) {u : ℕ} → u ≡ of_z w64 z → 1 ∷ (le_bytes 8 u ++ []) ≡ encode_value (integer z)
unfolding encode_value
integer-bytes z e = rw (append-nil, e)

pub real-bytes : (n : ℕ) → 2 ∷ (le_bytes 8 n ++ []) ≡ encode_value (real n)
unfolding encode_value
real-bytes n = rw append-nil

pub text-bytes : (t : List ℕ) → 3 ∷ (le_bytes 4 (length t) ++ t) ≡ encode_value (text t)
unfolding encode_value encode_text
text-bytes t = refl

pub bool-bytes : (x : Bool) {n : ℕ} → n ≡ bool_byte x → 4 ∷ (le_bytes 1 n ++ []) ≡ encode_value (bool x)
unfolding le_bytes encode_value
bool-bytes true e = rw e
bool-bytes false e = rw e

-- ---- vectors

-- the bytes of n numbers read from s are those bytes of s
pub words-bytes : (s : List ℕ) → Bytes s → (n at : ℕ) → at + n * 4 ≤ length s → all (le_bytes 4) (words s n at) ≡ take (n * 4) (drop at s)
unfolding all words
words-bytes s b zero at h = refl
words-bytes s b (suc n) at h =
    let e : suc n * 4 ≡ 4 + n * 4 = omega arith in
    rw (le_bytes-field 4 at s b (omega arith), words-bytes s b n (at + 4) (omega arith), e, take-add 4 (n * 4) (drop at s), drop-drop)

pub vector-bytes : (bs : List ℕ) → Bytes bs → length bs % 4 ≡ 0 → 5 ∷ (le_bytes 4 (length bs / 4) ++ bs) ≡ encode_value (vector (elements bs))
unfolding encode_value elements
vector-bytes bs b h =
    let e : length bs / 4 * 4 ≡ length bs = omega arith in
    rw (words-length bs b (length bs / 4) 0, words-bytes bs b (length bs / 4) 0 (omega arith), e, take-length)

module _ (b : BatchBuilder) (body n bs : List ℕ) where
  pub vector-area : (length body ≡ 4096 → ⊥) → (Err Area ≡ vector_added b body n bs) × (body ≡ vector_bytes b body n bs)
  unfolding vector_added vector_bytes body_after
  vector-area h = (rw (ne_eqb _ _ h), rw (ne_eqb _ _ h))

  pub vector-cut : length body ≡ 4096 → (length bs % 4 ≡ 0 → ⊥) → (Err Truncated ≡ vector_added b body n bs) × (body ≡ vector_bytes b body n bs)
  unfolding vector_added vector_bytes body_after
  vector-cut h k = (rw (eq-eqb _ _ h, ne_eqb _ _ k), rw (eq-eqb _ _ h, ne_eqb _ _ k))

  pub vector-way : {r : Added} {l : List ℕ} → length body ≡ 4096 → length bs % 4 ≡ 0
      → (r ≡ column_added b body (column n (vector (elements bs)))) × (l ≡ column_bytes b body (column n (vector (elements bs))))
      → (r ≡ vector_added b body n bs) × (l ≡ vector_bytes b body n bs)
  unfolding vector_added vector_bytes column_bytes
  vector-way h k p = (rw (eq-eqb _ _ h, eq-eqb _ _ k) p.0, rw (eq-eqb _ _ h, eq-eqb _ _ k) p.1)

-- ---- starting

heading : (t z : ℕ) → (le_bytes 8 0x3130_3030_4343_564d ++ le_bytes 8 t) ++ (replicate 2 0 ++ replicate z 0) ≡ encode_batch t [] ++ replicate z 0
unfolding encode_batch all le_bytes
heading t z = refl

length-heading : (t : ℕ) → length (encode_batch t []) ≡ 18
unfolding encode_batch all
length-heading t = simp (length-append, length-le_bytes)

zeros-split : (n m : ℕ) → replicate {A = ℕ} (n + m) 0 ≡ replicate n 0 ++ replicate m 0
zeros-split n m = sym (replicate-append-replicate {A = ℕ} n m 0)

module _ (l : List ℕ) (t : ℕ) where
  pub start_area : (length l ≡ 4096 → ⊥) → (Err Area ≡ started l) × (l ≡ started_bytes t l)
  unfolding started started_bytes
  start_area h = (rw (ne_eqb _ _ h), rw (ne_eqb _ _ h))

  module _ (full : length l ≡ 4096) {l1 l2 l3 : List ℕ} (e1 : l1 ≡ store l 0 (le_bytes 8 0x3130_3030_4343_564d))
      (e2 : l2 ≡ store l1 8 (le_bytes 8 t)) (e3 : l3 ≡ store l2 16 (replicate 4080 0)) where
    all-stored : l3 ≡ (le_bytes 8 0x3130_3030_4343_564d ++ le_bytes 8 t) ++ replicate 4080 0
    all-stored =
        let M = le_bytes 8 0x3130_3030_4343_564d in
        let T = le_bytes 8 t in
        let Z : List ℕ = replicate 4080 0 in
        let m : length M ≡ 8 = length-le_bytes 8 _ in
        let k : length T ≡ 8 = length-le_bytes 8 t in
        let z : length Z ≡ 4080 = length-replicate {A = ℕ} 4080 0 in
        let n : length (M ++ T) ≡ 16 = rw length-append (omega arith) in
        let p1 : l1 ≡ put l 0 M = e1 ∙ store-put l 0 M (rw (m, full) (omega arith)) in
        let p2 : l2 ≡ put l 0 (M ++ T) = store-next 8 8 l 0 M T m k (rw full (omega arith)) p1 e2 in
        let p3 : l3 ≡ put l 0 ((M ++ T) ++ Z) = store-next 16 4080 l 0 (M ++ T) Z n z (rw full (omega arith)) p2 e3 in
        p3 ∙ put_all l ((M ++ T) ++ Z) (rw (length-append, full) (omega arith))

    pub start-done : (Ok (record { at = 18; records = 0; last = None }) ≡ started l) × (l3 ≡ started_bytes t l)
    unfolding started started_bytes encode_body padded
    start-done = (
      rw (eq-eqb _ _ full),
      rw (eq-eqb _ _ full, length-heading t) (all-stored ∙ ap (λ (z : List ℕ). (le_bytes 8 0x3130_3030_4343_564d ++ le_bytes 8 t) ++ z) (zeros-split 2 4078) ∙ heading t 4078),
    )
