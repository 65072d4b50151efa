-- Bodies of any length with as many items as that length allows. Assumes nothing.
use mathlib.Core.Path.{◌≡◌, refl, ◌∙◌}
use mathlib.Core.List.{List, [], ◌∷◌, ◌++◌, append-nil}
use Prim.Native.Nat.{ℕ, zero, suc, ◌+◌, ◌-◌, ◌*◌, ◌/◌, ◌^◌, ◌≤◌, ◌<◌}
use native.Mathlib.Nat.{add_comm}
use native.Mathlib.Omega.{arith}
use borrow.Author.Tests.{le-leb, lt-leb, lt-ltb}
use lib.Dec.{lit<}
use lib.ListN.{length, take, replicate, length-append, length-replicate}
use lib.IntN.{pos}
use mir.Val.{of_z}
use mir.Syntax.{w64}
use Rattle.le.specs.Le.{Bytes, le_bytes}
use Rattle.text.specs.Utf8.{well_formed, formed_behind}
use Rattle.mvcc.specs.Batch.{null, Rec, present, all, encode_text, encode_value, encode_column, encode_record, encode_batch, Each, GoodText, GoodValue, GoodColumn, GoodRow, GoodRecord, GoodBatch}
use Rattle.mvcc.specs.Items.{batch_items, rows_items, most_items}
use Rattle.mvcc.proofs.Bytes.{bytes-none, bytes-cons, bytes-append, bytes-le_bytes, bytes-zeros}
use Rattle.mvcc.proofs.Whole.{batch-bytes}
use Rattle.mvcc.proofs.Items.{most-by, items-most}
use Rattle.mvcc.proofs.Counted.{encoded-items}
use Rattle.mvcc_build.specs.Build.{column}
use Rattle.cases.specs.Cases.{tombstones, nulls, null_row}
use Rattle.cases.proofs.Built.{tombstones-size, null_size, nulls-size, nulls-rows}
use Rattle.batch_items.specs.BatchItems.{column_places, record_places, places_from, places_in, Giving}
use Rattle.batch_items.proofs.Places.{places-append, columns-late, batch-cut}

-- ---- one tombstone, and one present record with null columns, all names empty and the row id 0

empty-good : (k : ℕ) → 0 < 256 ^ k → GoodText k []
unfolding well_formed formed_behind
empty-good k h = record { small = h; utf8 = refl }

row-good : GoodRow [] (pos 0)
row-good = record { table = empty-good 2 (lit< tt); rowid = record { sfits = lit< tt } }

nulls-good : (n : ℕ) → Each GoodColumn (nulls n)
unfolding Each GoodValue
nulls-good zero = tt
nulls-good (suc n) = (record { named = empty-good 2 (lit< tt); valued = tt }, nulls-good n)

gone-good : GoodBatch 0 (tombstones (pos 0 ∷ []))
unfolding Each GoodRecord
gone-good = record { time = lit< tt; few = lit< tt; each = (row-good, tt) }

pub there-good : (n : ℕ) → n ≤ 65535 → GoodBatch 0 (null_row (pos 0) n)
unfolding Each GoodRecord
there-good n h =
    record {
      time = lit< tt;
      few = lit< tt;
      each = ((row-good, record { few = rw length-replicate (omega (arith, h)); each = nulls-good n }), tt);
    }

-- ---- their bytes

empty-bytes : Bytes (encode_text 2 [])
unfolding encode_text
empty-bytes = bytes-append (le_bytes 2 0) [] (bytes-le_bytes 2 0) bytes-none

null-bytes : Bytes (encode_column (column [] null))
unfolding encode_column encode_value
null-bytes = bytes-append (encode_text 2 []) (0 ∷ []) empty-bytes (bytes-cons 0 [] (lit< tt) bytes-none)

nulls-bytes : (n : ℕ) → Bytes (all encode_column (nulls n))
unfolding all
nulls-bytes zero = bytes-none
nulls-bytes (suc n) = bytes-append (encode_column (column [] null)) (all encode_column (nulls n)) null-bytes (nulls-bytes n)

gone-bytes : Bytes (encode_batch 0 (tombstones (pos 0 ∷ [])))
unfolding all encode_record
gone-bytes =
    let w = le_bytes 8 (of_z w64 (pos 0)) in
    let r = encode_text 2 [] ++ w in
    batch-bytes 0 (tombstones (pos 0 ∷ []))
    (bytes-append (0 ∷ r) [] (bytes-cons 0 r (lit< tt) (bytes-append (encode_text 2 []) w empty-bytes (bytes-le_bytes 8 (of_z w64 (pos 0))))) bytes-none)

there-bytes : (n : ℕ) → Bytes (encode_batch 0 (null_row (pos 0) n))
unfolding all encode_record
there-bytes n =
    let w = le_bytes 8 (of_z w64 (pos 0)) in
    let c = le_bytes 2 (length (nulls n)) ++ all encode_column (nulls n) in
    let r = encode_text 2 [] ++ (w ++ c) in
    let k = bytes-append (le_bytes 2 (length (nulls n))) (all encode_column (nulls n)) (bytes-le_bytes 2 (length (nulls n))) (nulls-bytes n) in
    batch-bytes 0 (null_row (pos 0) n)
    (bytes-append (1 ∷ r) [] (bytes-cons 1 r (lit< tt) (bytes-append (encode_text 2 []) (w ++ c) empty-bytes (bytes-append w c (bytes-le_bytes 8 (of_z w64 (pos 0))) k))) bytes-none)

-- ---- with zeros behind, up to a length

fill : (rs : List Rec) (len : ℕ) → GoodBatch 0 rs → Bytes (encode_batch 0 rs) → length (encode_batch 0 rs) ≤ len → Giving len (rows_items rs)
fill rs len g b h =
    record {
      body = encode_batch 0 rs ++ replicate (len - length (encode_batch 0 rs)) 0;
      bytes = bytes-append (encode_batch 0 rs) (replicate (len - length (encode_batch 0 rs)) 0) b (bytes-zeros (len - length (encode_batch 0 rs)));
      long = rw (length-append, length-replicate) (omega (arith, h));
      gives = encoded-items 0 rs (replicate (len - length (encode_batch 0 rs)) 0) g;
    }

bare : (len : ℕ) → len - 18 < 11 → Giving len 0
bare len h =
    let b : batch_items (replicate len 0) ≤ 0 = rw (length-replicate, lt-ltb (len - 18) 11 h) at (items-most (replicate len 0)) in
    record { body = replicate len 0; bytes = bytes-zeros len; long = length-replicate len 0; gives = omega (arith, b) }

rows-gone : rows_items (tombstones (pos 0 ∷ [])) ≡ 1
unfolding rows_items
rows-gone = refl

pub most-reached : (len : ℕ) → len ≤ 18 + 13 + 3 * 65535 → Giving len (most_items (len - 18))
most-reached len h =
    most-by (Giving len) (len - 18) (bare len)
    (λ g k. rw rows-gone at (fill (tombstones (pos 0 ∷ [])) len gone-good gone-bytes (rw tombstones-size (omega (arith, k)))))
    (λ g.
    let n = (len - 18 - 13) / 3 in
    rw (nulls-rows (pos 0) n, add_comm n 1) at (fill (null_row (pos 0) n) len (there-good n (omega (arith, h))) (there-bytes n) (rw nulls-size (omega (arith, g)))))

-- ---- more columns than fit, cut

-- of n null columns from `at` on, k lie before the cut
nulls-in : (m k n at : ℕ) → k ≤ n → at + 3 * k ≤ m → m < at + 3 * (k + 1) → places_in m (column_places at (nulls n)) ≡ k
unfolding column_places places_in
nulls-in m zero zero at a b c = refl
nulls-in m zero (suc n) at a b c = let l : m < at + 3 = omega (arith, c) in rw (null_size, lt-leb (at + 3) m l, columns-late m (nulls n) (at + 3) l)
nulls-in m (suc k) zero at a b c = absurd (omega (arith, a))
nulls-in m (suc k) (suc n) at a b c =
    let l : at + 3 ≤ m = omega (arith, b) in
    rw (null_size, le-leb (at + 3) m l, nulls-in m k n (at + 3) (omega (arith, a)) (omega (arith, b)) (omega (arith, c))) (omega arith)

row_in : (n : ℕ) → 1355 ≤ n → places_in 4096 (places_from 18 (null_row (pos 0) n)) ≡ 1356
unfolding places_from places_in encode_text le_bytes
row_in n h = rw (places-append 4096 (record_places 18 (present [] (pos 0) (nulls n))) [], nulls-in 4096 1355 n 31 h (omega arith) (omega arith))

pub cut-1356 : (n : ℕ) → 1355 ≤ n → n ≤ 65535 → batch_items (take 4096 (encode_batch 0 (null_row (pos 0) n))) ≡ 1356
cut-1356 n a b =
    let h : 4096 ≤ length (encode_batch 0 (null_row (pos 0) n) ++ []) = rw (append-nil, nulls-size) (omega (arith, a)) in
    rw append-nil at (batch-cut 0 (null_row (pos 0) n) [] 4096 (there-good n b) h) ∙ row_in n a
