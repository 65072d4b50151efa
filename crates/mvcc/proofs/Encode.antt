-- Encodings of lists: one more at the end, and how many there can be in so many bytes. Assumes nothing.
use mathlib.Core.Path.{◌≡◌, refl}
use mathlib.Core.List.{List, [], ◌∷◌, ◌++◌, append_assoc}
use Prim.Native.Nat.{ℕ, ◌*◌, ◌^◌, ◌≤◌, ◌<◌}
use native.Mathlib.Omega.{arith}
use lib.ListN.{length, length-append}
use mir.Val.{of_z}
use mir.Syntax.{w64}
use Rattle.le.specs.Le.{le_bytes}
use Rattle.le.proofs.Fields.{length-le_bytes}
use Rattle.mvcc.specs.Batch.{Val, null, integer, real, text, bool, vector, Col, Rec, tombstone, present, all, encode_text, encode_value, encode_column, encode_record, encode_batch, Each}
use Rattle.mvcc.proofs.Trip.{length-encode_text}
use Rattle.mvcc.proofs.Whole.{batch-length}

pub all_append : {A : Type 0} (f : A → List ℕ) (xs ys : List A) → all f (xs ++ ys) ≡ all f xs ++ all f ys
unfolding all
all_append f [] ys = refl
all_append f (x ∷ xs) ys = rw (all_append f xs ys, append_assoc)

pub each_append : {A : Type 0} (P : A → Type 0) (xs ys : List A) → Each P xs → Each P ys → Each P (xs ++ ys)
unfolding Each
each_append P [] ys g h = h
each_append P (x ∷ xs) ys g h = (g.0, each_append P xs ys g.1 h)

-- things of at least k bytes each
pub all-least : {A : Type 0} (k : ℕ) (f : A → List ℕ) → ((x : A) → k ≤ length (f x)) → (xs : List A) → length xs * k ≤ length (all f xs)
unfolding all
all-least k f h [] = omega arith
all-least k f h (x ∷ xs) = let r = all-least k f h xs in let a = h x in simp length-append (omega (arith, r, a))

value-least : (v : Val) → 1 ≤ length (encode_value v)
unfolding encode_value
value-least null = omega arith
value-least (integer z) = omega arith
value-least (real n) = omega arith
value-least (text t) = omega arith
value-least (bool b) = omega arith
value-least (vector ws) = omega arith

-- a column has 3 bytes or more, a record 11
pub column-least : (c : Col) → 3 ≤ length (encode_column c)
unfolding encode_column
column-least c =
    omega (arith, length-append (encode_text 2 c.name) (encode_value c.val), length-encode_text 2 c.name, value-least c.val)

pub record-least : (r : Rec) → 11 ≤ length (encode_record r)
unfolding encode_record
record-least (tombstone t row) =
    omega (arith, length-append (encode_text 2 t) (le_bytes 8 (of_z w64 row)), length-encode_text 2 t, length-le_bytes 8 (of_z w64 row))
record-least (present t row cs) =
    let c = le_bytes 2 (length cs) ++ all encode_column cs in
    let w = le_bytes 8 (of_z w64 row) in
    omega (arith, length-append (encode_text 2 t) (w ++ c), length-encode_text 2 t, length-append w c, length-le_bytes 8 (of_z w64 row))

-- so 65,536 of either do not fit 4,096 bytes
pub few-columns : (cs : List Col) → length (all encode_column cs) ≤ 4096 → length cs < 256 ^ 2
few-columns cs h = omega (arith, all-least 3 encode_column column-least cs)

pub few-records : (t : ℕ) (rs : List Rec) → length (encode_batch t rs) ≤ 4096 → length rs < 256 ^ 2
few-records t rs h = omega (arith, all-least 11 encode_record record-least rs, batch-length t rs)
