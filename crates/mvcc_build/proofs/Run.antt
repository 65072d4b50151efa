-- After any run of additions the body is the encoding of the records added so far. Assumes nothing.
use mathlib.Core.Path.{◌≡◌, refl}
use mathlib.Core.Bool.{Bool, true, false}
use mathlib.Core.List.{List, [], ◌∷◌, ◌++◌}
use Prim.Native.Nat.{ℕ, ◌+◌, ◌/◌, ◌%◌, ◌^◌, ◌<◌}
use borrow.Author.Tests.{eq-eqb}
use lib.Dec.{leb, eqb}
use lib.ListN.{length}
use Rattle.std.specs.Prelude.{Ok, Err}
use Rattle.le.specs.Choice.{both}
use Rattle.le.specs.Le.{Bytes}
use Rattle.text.specs.Utf8.{well_formed}
use Rattle.mvcc.specs.Batch.{vector, Col, Rec, encode_column, encode_batch, encode_body, Each}
use Rattle.mvcc.proofs.Sound.{words_small}
use Rattle.mvcc_build.specs.declared.BatchBuilder.{BatchBuilder}
use Rattle.refusal.specs.declared.Refusal.{Refusal}
use Rattle.refusal.specs.declared.Refusal.TheVariants.{Text, Fit, NoRecord}
use Rattle.mvcc_build.specs.Build.{started_bytes, body_after, record_table, record_added, record_bytes, column, texted, column_added, column_bytes, elements, vector_added, vector_bytes}
use Rattle.mvcc_build.specs.Built.{builder_of, Built, ends_present, with_column, Held, HeldValue}
use Rattle.mvcc_build.specs.Run.{Addition, record-call, column-call, vector-call, HeldCall, next_builder, next_body, column_records, next_records, run_builder, run_body, run_records}
use Rattle.mvcc_build.proofs.Built.{full, start-built, record-answer, record-built, column-answer, column-built}

module _ {t : ℕ} {rs : List Rec} {b : BatchBuilder} {body : List ℕ} (h : Built t rs b body) where
  -- a refused call leaves all as it was
  refused-record : (r : Rec) (k : Refusal) → record_added b body r ≡ Err k
      → Built t rs (next_builder (record-call r) b body) (next_body (record-call r) b body)
  unfolding next_builder next_body record_bytes body_after
  refused-record r k e = rw e h

  refused-column : (c : Col) (k : Refusal) → column_added b body c ≡ Err k
      → Built t rs (next_builder (column-call c) b body) (next_body (column-call c) b body)
  unfolding next_builder next_body column_bytes body_after
  refused-column c k e = rw e h

  taken-record : (r : Rec) (b2 : BatchBuilder) → Held r → record_added b body r ≡ Ok b2
      → Built t (rs ++ (r ∷ [])) (next_builder (record-call r) b body) (next_body (record-call r) b body)
  unfolding next_builder next_body
  taken-record r b2 k e = let g = record-built h r k e in rw e g

  taken-column : (c : Col) (b2 : BatchBuilder) → HeldValue c.val → column_added b body c ≡ Ok b2
      → Built t (with_column rs c) (next_builder (column-call c) b body) (next_body (column-call c) b body)
  unfolding next_builder next_body
  taken-column c b2 k e = let g = column-built h c k e in rw e g

  record-in : (r : Rec) → Held r → (w f : Bool) → well_formed (record_table r) ≡ w → leb (length (encode_batch t (rs ++ (r ∷ [])))) 4096 ≡ f
      → Built t (next_records t (record-call r) rs) (next_builder (record-call r) b body) (next_body (record-call r) b body)
  unfolding next_records
  record-in r k true true w f = rw (w, f) (taken-record r (builder_of t (rs ++ (r ∷ []))) k (rw (w, f) at (record-answer h r)))
  record-in r k true false w f = rw (w, f) (refused-record r Fit (rw (w, f) at (record-answer h r)))
  record-in r k false f w g = rw w (refused-record r Text (rw w at (record-answer h r)))

  column-in : (c : Col) → HeldValue c.val → (w f p : Bool) → both (texted c.val) (well_formed c.name) ≡ w
      → leb (length (encode_batch t rs) + length (encode_column c)) 4096 ≡ f → ends_present rs ≡ p
      → Built t (column_records t c rs) (next_builder (column-call c) b body) (next_body (column-call c) b body)
  unfolding column_records
  column-in c k true true true w f p = rw (w, f, p) (taken-column c (builder_of t (with_column rs c)) k (rw (w, f, p) at (column-answer h c)))
  column-in c k true true false w f p = rw (w, f, p) (refused-column c NoRecord (rw (w, f, p) at (column-answer h c)))
  column-in c k true false p w f g = rw (w, f) (refused-column c Fit (rw (w, f) at (column-answer h c)))
  column-in c k false f p w g i = rw w (refused-column c Text (rw w at (column-answer h c)))

  column-any : (c : Col) → HeldValue c.val → Built t (column_records t c rs) (next_builder (column-call c) b body) (next_body (column-call c) b body)
  column-any c k =
      column-in c k (both (texted c.val) (well_formed c.name)) (leb (length (encode_batch t rs) + length (encode_column c)) 4096) (ends_present rs) refl refl refl

  -- a vector of whole elements is a column; any other is refused
  vector-in : (n bs : List ℕ) → Bytes bs → (w : Bool) → eqb (length bs % 4) 0 ≡ w
      → Built t (next_records t (vector-call n bs) rs) (next_builder (vector-call n bs) b body) (next_body (vector-call n bs) b body)
  unfolding next_records next_builder next_body vector_added vector_bytes column_bytes HeldValue elements body_after
  vector-in n bs k true w =
      let g = column-any (column n (vector (elements bs))) (words_small bs k (length bs / 4) 0) in
      rw (eq-eqb _ _ (full h), w) g
  vector-in n bs k false w = rw (eq-eqb _ _ (full h), w) h

  pub call-built : (k : Addition) → HeldCall k → Built t (next_records t k rs) (next_builder k b body) (next_body k b body)
  unfolding HeldCall next_records
  call-built (record-call r) k = record-in r k (well_formed (record_table r)) (leb (length (encode_batch t (rs ++ (r ∷ [])))) 4096) refl refl
  call-built (column-call c) k = column-any c k
  call-built (vector-call n bs) k = vector-in n bs k (eqb (length bs % 4) 0) refl

-- "The bytes are exactly those of `MvccCommitBatch::encode` of the records added so far, zero behind"
pub run-built : (ks : List Addition) {t : ℕ} {rs : List Rec} {b : BatchBuilder} {body : List ℕ} → Built t rs b body → Each HeldCall ks
    → Built t (run_records t ks rs) (run_builder ks b body) (run_body ks b body)
unfolding run_records run_builder run_body Each
run-built [] h g = h
run-built (k ∷ ks) h g = run-built ks (call-built h k g.0) g.1

pub run-bytes : (ks : List Addition) (t : ℕ) (body : List ℕ) → length body ≡ 4096 → t < 256 ^ 8 → Each HeldCall ks
    → run_body ks (builder_of t []) (started_bytes t body) ≡ encode_body t (run_records t ks [])
run-bytes ks t body n h g = (run-built ks (start-built t body n h) g).bytes
