-- A batch under construction is the encoding of the records added so far, and its additions are refused just where document 01
-- says so. Assumes nothing.
use mathlib.Core.Path.{◌≡◌, refl, sym, ap, ◌∙◌}
use mathlib.Core.Bool.{Bool, true, false}
use mathlib.Core.List.{List, [], ◌∷◌, ◌++◌}
use Prim.Native.Nat.{ℕ, ◌+◌, ◌*◌, ◌^◌, ◌≤◌, ◌<◌}
use native.Mathlib.Nat.{suc-mul}
use native.Mathlib.Omega.{arith}
use borrow.Author.Tests.{leb-true, eq-eqb, ne_eqb}
use lib.Dec.{leb, lit<}
use lib.ListN.{length, length-append}
use mir.Val.{of_z}
use mir.Syntax.{w64}
use Rattle.std.specs.Prelude.{Option, Some, None, Ok, Err}
use Rattle.le.specs.Choice.{pick, both}
use Rattle.le.proofs.Compare.{both_true}
use Rattle.le.proofs.Fields.{length-le_bytes}
use Rattle.text.specs.Utf8.{well_formed}
use Rattle.mvcc.specs.Batch.{Val, null, integer, real, text, bool, vector, Col, Rec, tombstone, present, all, encode_text, encode_value, encode_column, encode_record, encode_batch, encode_body, Each, GoodText, GoodValue, GoodColumn, GoodRecord}
use Rattle.mvcc.specs.Seen.{decodes, commit_ts_of, records}
use Rattle.mvcc.proofs.Trip.{length-encode_text, length-words}
use Rattle.mvcc.proofs.Canonical.{body-length, body-decodes, body-commit_ts_of, body-records}
use Rattle.mvcc_build.proofs.Laws.{behind-picks}
use Rattle.mvcc_build.specs.Build.{Added, taking, started, started_bytes, judged, addition_judged, body_after, record_in, record_count, record_table, record_added, record_bytes, column_in, column_result, columns_recounted, column_count, texted, column_added, column_bytes}
use Rattle.mvcc_build.specs.Built.{last_from, builder_of, Built, ends_present, with_in, with_column, Held, HeldValue}
use Rattle.mvcc_build.specs.declared.BatchBuilder.{BatchBuilder}
use Rattle.refusal.specs.declared.Refusal.TheVariants.{Text, Fit, NoRecord}
use Rattle.mvcc_build.proofs.Grow.{taking-same, never, length-snoc, batch-size, record-size, record-grown, last_snoc, length-with, column-size, column-grown, last-with, ends_open, ends-closed}
use Rattle.mvcc_build.specs.declared.OpenRecord.{OpenRecord}

-- ---- sizes: in 4,096 bytes no count passes its two bytes

all-size : {A : Type 0} (k : ℕ) (f : A → List ℕ) → ((x : A) → k ≤ length (f x)) → (xs : List A) → length xs * k ≤ length (all f xs)
unfolding all
all-size k f one [] = omega arith
all-size k f one (x ∷ xs) = rw (length-append, suc-mul) (omega (arith, one x, all-size k f one xs))

record-eleven : (r : Rec) → 11 ≤ length (encode_record r)
unfolding encode_record
record-eleven (tombstone t row) = rw length-append (omega (arith, length-encode_text 2 t, length-le_bytes 8 (of_z w64 row)))
record-eleven (present t row cs) = simp (length-append, length-encode_text, length-le_bytes) (omega arith)

value-one : (v : Val) → 1 ≤ length (encode_value v)
unfolding encode_value
value-one null = omega arith
value-one (integer z) = omega arith
value-one (real n) = omega arith
value-one (text t) = omega arith
value-one (bool x) = omega arith
value-one (vector ws) = omega arith

column-three : (c : Col) → 3 ≤ length (encode_column c)
unfolding encode_column
column-three c = rw length-append (omega (arith, length-encode_text 2 c.name, value-one c.val))

-- at most 370 records
pub records-few : (t : ℕ) (rs : List Rec) → length (encode_batch t rs) ≤ 4096 → length rs ≤ 370
records-few t rs h = omega (arith, batch-size t rs, all-size 11 encode_record record-eleven rs)

columns-in : (at : ℕ) (rs : List Rec) {counted columns : ℕ} → last_from at rs ≡ taking counted columns → 13 + columns * 3 ≤ length (all encode_record rs)
unfolding last_from all encode_record
columns-in at [] e = never e
columns-in at (tombstone t row ∷ []) e = never e
columns-in at (present t row cs ∷ []) {counted} {columns} e =
    let n : length cs ≡ columns = (taking-same e).1 in
    rw (← n) (simp (length-append, length-encode_text, length-le_bytes) (omega (arith, all-size 3 encode_column column-three cs)))
columns-in at (r ∷ q ∷ rs) e = rw length-append (omega (arith, columns-in (at + length (encode_record r)) (q ∷ rs) e))

-- at most 1,355 columns
pub columns-few : (t : ℕ) (rs : List Rec) {counted columns : ℕ} → length (encode_batch t rs) ≤ 4096 → last_from 18 rs ≡ taking counted columns → columns ≤ 1355
columns-few t rs h e = omega (arith, batch-size t rs, columns-in 18 rs e)

-- ---- what was accepted is good

each_snoc : {A : Type 0} (P : A → Type 0) (xs : List A) (x : A) → Each P xs → P x → Each P (xs ++ (x ∷ []))
unfolding Each
each_snoc P [] x g p = (p, tt)
each_snoc P (y ∷ xs) x g p = (g.0, each_snoc P xs x g.1 p)

good-text : (t : List ℕ) → length t ≤ 4096 → well_formed t ≡ true → GoodText 2 t
good-text t h w = record { small = omega arith; utf8 = w }

good-record : (r : Rec) → Held r → well_formed (record_table r) ≡ true → length (encode_record r) ≤ 4096 → GoodRecord r
unfolding Held GoodRecord encode_record Each
good-record (tombstone t row) f w h =
    record { table = good-text t (omega (arith, simp (length-append, length-encode_text, length-le_bytes) at h)) w; rowid = f }
good-record (present t row cs) f w h = (
  record { table = good-text t (omega (arith, simp (length-append, length-encode_text, length-le_bytes) at h)) w; rowid = f.0 },
  rw f.1 (record { few = lit< tt; each = tt }),
)

good-value : (v : Val) → HeldValue v → texted v ≡ true → length (encode_value v) ≤ 4096 → GoodValue v
unfolding HeldValue GoodValue encode_value
good-value null f w h = tt
good-value (integer z) f w h = f
good-value (real n) f w h = f
good-value (text t) f w h = record { small = omega (arith, simp length-encode_text at h); utf8 = w }
good-value (bool x) f w h = tt
good-value (vector ws) f w h =
    record { small = omega (arith, simp (length-append, length-le_bytes, length-words) at h); words = f }

good-column : (c : Col) → HeldValue c.val → both (texted c.val) (well_formed c.name) ≡ true → length (encode_column c) ≤ 4096 → GoodColumn c
unfolding encode_column
good-column c f w h =
    let p = both_true (texted c.val) (well_formed c.name) w in
    let n : length (encode_text 2 c.name) + length (encode_value c.val) ≤ 4096 = rw length-append at h in
    record {
      named = good-text c.name (omega (arith, length-encode_text 2 c.name)) p.1;
      valued = good-value c.val f p.0 (omega arith);
    }

good-with : (at : ℕ) (rs : List Rec) (c : Col) {counted columns : ℕ} → last_from at rs ≡ taking counted columns → columns + 1 < 256 ^ 2
    → Each GoodRecord rs → GoodColumn c → Each GoodRecord (with_column rs c)
unfolding last_from with_column with_in Each GoodRecord
good-with at [] c e h g p = never e
good-with at (tombstone t row ∷ []) c e h g p = never e
good-with at (present t row cs ∷ []) c {counted} {columns} e h g p =
    let n : length cs ≡ columns = (taking-same e).1 in
    ((g.0.0, record { few = rw (length-snoc cs c, n) h; each = each_snoc GoodColumn cs c g.0.1.each p }), tt)
good-with at (r ∷ q ∷ rs) c e h g p = (g.0, good-with (at + length (encode_record r)) (q ∷ rs) c e h g.1 p)

-- ---- starting

pub start-answer : (t : ℕ) (body : List ℕ) → length body ≡ 4096 → started body ≡ Ok (builder_of t [])
unfolding started builder_of last_from all
start-answer t body h = rw (eq-eqb _ _ h, batch-size t [])

pub start-built : (t : ℕ) (body : List ℕ) → length body ≡ 4096 → t < 256 ^ 8 → Built t [] (builder_of t []) (started_bytes t body)
unfolding started_bytes Each all
start-built t body h k = record {
  state = refl;
  bytes = rw (eq-eqb _ _ h);
  fits = rw batch-size (omega arith);
  good = record { time = k; few = lit< tt; each = tt };
}

-- ---- additions

done-is : (w f : Bool) {x y : BatchBuilder} → pick w (pick f (Ok x) (Err Fit)) (Err Text) ≡ Ok y → ((w ≡ true) × (f ≡ true)) × (x ≡ y)
done-is true true e = ((refl, refl), cc)
done-is true false e = let z : ◌≡◌ {A = ℕ} 0 1 = cc in absurd (omega arith)
done-is false f e = let z : ◌≡◌ {A = ℕ} 0 1 = cc in absurd (omega arith)

never_done : {A : Type 0} (w f : Bool) {y : BatchBuilder} → pick w (pick f (Err NoRecord) (Err Fit)) (Err Text) ≡ Ok y → A
never_done true true e = let z : ◌≡◌ {A = ℕ} 0 1 = cc in absurd (omega arith)
never_done true false e = let z : ◌≡◌ {A = ℕ} 0 1 = cc in absurd (omega arith)
never_done false f e = let z : ◌≡◌ {A = ℕ} 0 1 = cc in absurd (omega arith)

module _ {t : ℕ} {rs : List Rec} {b : BatchBuilder} {body : List ℕ} (h : Built t rs b body) where
  pub full : length body ≡ 4096
  full = rw h.bytes (body-length t rs h.fits)

  -- a record is refused where its table is not UTF-8 (19), or where the batch with it would pass 4,096 bytes (20)
  pub record-answer : (r : Rec) → record_added b body r
      ≡ pick (well_formed (record_table r)) (pick (leb (length (encode_batch t (rs ++ (r ∷ [])))) 4096) (Ok (builder_of t (rs ++ (r ∷ [])))) (Err Fit)) (Err Text)
  unfolding record_added judged addition_judged record_in builder_of
  record-answer r =
      let n : length rs ≡ 0xffff → ⊥ = λ e. omega (arith, records-few t rs h.fits) in
      rw (eq-eqb _ _ full, h.state, ne_eqb (length rs) 0xffff n, record-size t rs r, length-snoc rs r, last_snoc 18 rs r, batch-size t rs, behind-picks)

  pub record-built : (r : Rec) {b' : BatchBuilder} → Held r → record_added b body r ≡ Ok b' → Built t (rs ++ (r ∷ [])) b' (record_bytes b body r)
  unfolding record_bytes body_after record_count builder_of encode_body
  record-built r {b'} f e =
      let p = done-is (well_formed (record_table r)) (leb (length (encode_batch t (rs ++ (r ∷ [])))) 4096) (sym (record-answer r) ∙ e) in
      let k : length (encode_batch t (rs ++ (r ∷ []))) ≤ 4096 = leb-true _ _ p.0.1 in
      let j : length (encode_batch t rs) + length (encode_record r) ≤ 4096 = rw record-size at k in
      let n : b'.records ≡ length rs + 1 = ap (λ (x : BatchBuilder). x.records) (sym p.1) ∙ length-snoc rs r in
      record {
        state = sym p.1;
        bytes = rw (e, n, h.state, h.bytes) (record-grown t rs r j);
        fits = k;
        good = record {
          time = h.good.time;
          few = omega (arith, records-few t (rs ++ (r ∷ [])) k);
          each = each_snoc GoodRecord rs r h.good.each (good-record r f p.0.0 (omega arith));
        };
      }

  -- a column is refused where its name or text is not UTF-8 (19), where it would pass 4,096 bytes (20), and where no present
  -- record is last (21)
  abbrev column_says : Col → Added
  column_says c =
      pick (both (texted c.val) (well_formed c.name))
      (pick (leb (length (encode_batch t rs) + length (encode_column c)) 4096)
      (pick (ends_present rs) (Ok (builder_of t (with_column rs c))) (Err NoRecord)) (Err Fit)) (Err Text)

  column-cases : (c : Col) (l : Option OpenRecord) → last_from 18 rs ≡ l → column_added b body c ≡ column_says c
  unfolding column_added column_result judged addition_judged column_in builder_of
  column-cases c None e = rw (eq-eqb _ _ full, h.state, e, ends-closed 18 rs e, behind-picks)
  column-cases c (Some r) e =
      let n : r.columns ≡ 0xffff → ⊥ = λ i. omega (arith, columns-few t rs h.fits e) in
      rw (eq-eqb _ _ full, h.state, e, ne_eqb r.columns 0xffff n, ends_open 18 rs e, column-size t rs c e, length-with rs c, last-with 18 rs c e, behind-picks)

  pub column-answer : (c : Col) → column_added b body c
      ≡ pick (both (texted c.val) (well_formed c.name))
      (pick (leb (length (encode_batch t rs) + length (encode_column c)) 4096)
      (pick (ends_present rs) (Ok (builder_of t (with_column rs c))) (Err NoRecord)) (Err Fit)) (Err Text)
  column-answer c = column-cases c (last_from 18 rs) refl

  column-built-in : (c : Col) {b' : BatchBuilder} (l : Option OpenRecord) → last_from 18 rs ≡ l → HeldValue c.val → column_added b body c ≡ Ok b'
      → Built t (with_column rs c) b' (column_bytes b body c)
  unfolding column_bytes body_after column_count columns_recounted builder_of encode_body
  column-built-in c None i f e = never_done (both (texted c.val) (well_formed c.name)) (leb (length (encode_batch t rs) + length (encode_column c)) 4096)
      (rw (ends-closed 18 rs i) at (sym (column-answer c) ∙ e))
  column-built-in c {b'} (Some r) i f e =
      let p = done-is (both (texted c.val) (well_formed c.name)) (leb (length (encode_batch t rs) + length (encode_column c)) 4096)
      (rw (ends_open 18 rs i) at (sym (column-answer c) ∙ e)) in
      let j : length (encode_batch t rs) + length (encode_column c) ≤ 4096 = leb-true _ _ p.0.1 in
      let k : length (encode_batch t (with_column rs c)) ≤ 4096 = rw (column-size t rs c i) j in
      let n : b'.last ≡ taking r.counted (r.columns + 1) = ap (λ (x : BatchBuilder). x.last) (sym p.1) ∙ last-with 18 rs c i in
      record {
        state = sym p.1;
        bytes = rw (e, n, h.state, h.bytes) (column-grown t rs c i j);
        fits = k;
        good = record {
          time = h.good.time;
          few = rw length-with h.good.few;
          each = good-with 18 rs c i (omega (arith, columns-few t rs h.fits i)) h.good.each (good-column c f p.0.0 (omega arith));
        };
      }

  pub column-built : (c : Col) {b' : BatchBuilder} → HeldValue c.val → column_added b body c ≡ Ok b'
      → Built t (with_column rs c) b' (column_bytes b body c)
  column-built c f e = column-built-in c (last_from 18 rs) refl f e

  -- the batch that was built decodes to what was added
  pub built-decodes : decodes body ≡ true
  built-decodes = rw h.bytes (body-decodes t rs h.good)

  pub built-commit_ts_of : commit_ts_of body ≡ t
  built-commit_ts_of = rw h.bytes (body-commit_ts_of t rs h.good)

  pub built-records : records body ≡ rs
  built-records = rw h.bytes (body-records t rs h.good)
