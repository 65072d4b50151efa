-- What a builder and its body hold after any run of additions: the batch of the records added so far.
use Rattle.std.specs.Prelude.{◌≡◌, Bool, true, false, List, [], ◌∷◌, ◌++◌, ℕ, ◌+◌, ◌^◌, ◌≤◌, ◌<◌, length, Option, None}
use Rattle.std.proofs.Common.{SFits}
use Rattle.std.specs.Int.{w64}
use Rattle.mvcc.specs.Batch.{body_size, heading_size, Val, null, integer, real, text, bool, vector, Col, Rec, tombstone, present, encode_record, encode_batch, encode_body, Each, GoodBatch}
use Rattle.mvcc_build.specs.declared.BatchBuilder.{BatchBuilder}
use Rattle.mvcc_build.specs.Build.{last_at}
use Rattle.mvcc_build.specs.declared.OpenRecord.{OpenRecord}

-- the last of the records, whose bytes start at `at`
unfoldable pub last_from : ℕ → List Rec → Option OpenRecord
last_from at [] = None
last_from at (r ∷ []) = last_at at r
last_from at (r ∷ q ∷ rs) = last_from (at + length (encode_record r)) (q ∷ rs)

-- the builder of a batch
unfoldable pub builder_of : ℕ → List Rec → BatchBuilder
builder_of t rs = record { at = length (encode_batch t rs); records = length rs; last = last_from heading_size rs }

-- b and body hold the batch of the commit time t and the records rs: "The bytes are exactly those of
-- `MvccCommitBatch::encode` of the records added so far, zero behind"
pub record Built (t : ℕ) (rs : List Rec) (b : BatchBuilder) (body : List ℕ) : Type 0 where
  pub state : b ≡ builder_of t rs
  pub bytes : body ≡ encode_body t rs
  pub fits : length (encode_batch t rs) ≤ body_size
  pub good : GoodBatch t rs

-- a present record is last
unfoldable pub ends_present : List Rec → Bool
ends_present [] = false
ends_present (tombstone t row ∷ []) = false
ends_present (present t row cs ∷ []) = true
ends_present (r ∷ q ∷ rs) = ends_present (q ∷ rs)

unfoldable pub with_in : Rec → Col → Rec
with_in (tombstone t row) c = tombstone t row
with_in (present t row cs) c = present t row (cs ++ (c ∷ []))

-- the records with the column c added to the last one
unfoldable pub with_column : List Rec → Col → List Rec
with_column [] c = []
with_column (r ∷ []) c = with_in r c ∷ []
with_column (r ∷ q ∷ rs) c = r ∷ with_column (q ∷ rs) c

-- what the machine's types say of a record to add, which has no columns yet
unfoldable pub Held : Rec → Type 0
Held (tombstone t row) = SFits w64 row
Held (present t row cs) = SFits w64 row × (cs ≡ [])

-- and of a value
unfoldable pub HeldValue : Val → Type 0
HeldValue null = Unit
HeldValue (integer z) = SFits w64 z
HeldValue (real n) = n < 256 ^ 8
HeldValue (text t) = Unit
HeldValue (bool x) = Unit
HeldValue (vector ws) = Each (λ (w : ℕ). w < 256 ^ 4) ws
