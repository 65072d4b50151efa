-- The items of a batch that is cut after any byte: those whose places lie before the cut. Assumes nothing.
use mathlib.Core.Path.{◌≡◌, refl, sym, ap, ◌∙◌}
use mathlib.Core.List.{List, [], ◌∷◌, ◌++◌}
use mathlib.Core.Logic.{⊎_elim}
use Prim.Native.Nat.{ℕ, ◌+◌, ◌≤◌, ◌<◌}
use native.Mathlib.Omega.{arith}
use borrow.Author.Tests.{le-leb, lt-leb, eq-eqb}
use lib.Dec.{leb, lit<}
use lib.ListN.{length, take}
use mir.Val.{of_z}
use mir.ValLaws.{of_z_fits}
use mir.Syntax.{w64}
use Rattle.le.specs.Choice.{pick}
use Rattle.le.specs.Le.{le_bytes, field}
use Rattle.le.proofs.Fields.{length-le_bytes}
use Rattle.le.proofs.Tests.{le-or-lt}
use Rattle.mvcc.specs.Answer.{Answer, taken, refused}
use Rattle.mvcc.specs.Decode.{num_at, text_at, column_at, record_at, batch_magic, heading_refusal}
use Rattle.mvcc.specs.Batch.{Col, Rec, tombstone, present, all, encode_text, encode_column, encode_record, encode_batch, Each, GoodText, GoodColumn, GoodColumns, GoodRecord, GoodBatch}
use Rattle.mvcc.specs.Items.{if_taken, many_items, column_items, present_items, judged_items, record_items, batch_items}
use Rattle.mvcc.proofs.Sound.{When}
use Rattle.mvcc.proofs.Has.{Has, has_left, has_right, has-after, has-next, has-num, has-byte}
use Rattle.mvcc.proofs.Trip.{length-encode_text, text-has, column-has, record-has}
use Rattle.mvcc.proofs.Whole.{marked-here, count-read, records-here}
use Rattle.mvcc.proofs.Items.{Reach, text-reach, column-reach, record-reach}
use Rattle.batch_items.specs.BatchItems.{column_places, record_places, places_from, places_in}
use Rattle.batch_items.proofs.Cut.{Stable, cut-length, text-stable, column-stable, record-stable, has-cut, same-field, fits-too}

-- ---- places

pub places-append : (m : ℕ) (ps qs : List ℕ) → places_in m (ps ++ qs) ≡ places_in m ps + places_in m qs
unfolding places_in
places-append m [] qs = omega arith
places-append m (p ∷ ps) qs = rw (places-append m ps qs) (omega arith)

module _ (m : ℕ) where
  -- none lies before a cut that comes before the first byte
  pub columns-late : (cs : List Col) (at : ℕ) → m < at → places_in m (column_places at cs) ≡ 0
  unfolding column_places places_in
  columns-late [] at h = refl
  columns-late (c ∷ cs) at h =
      let k : m < at + length (encode_column c) = omega (arith, h) in
      rw (lt-leb (at + length (encode_column c)) m k, columns-late cs (at + length (encode_column c)) k)

  record-late : (r : Rec) (at : ℕ) → m < at → places_in m (record_places at r) ≡ 0
  unfolding places_in
  record-late (tombstone t row) at h =
      let e = at + (1 + length (encode_text 2 t) + 8) in
      let k : m < e = omega (arith, h) in
      rw (lt-leb e m k)
  record-late (present t row cs) at h =
      let e = at + (1 + length (encode_text 2 t) + 8 + 2) in
      let k : m < e = omega (arith, h) in
      rw (lt-leb e m k, columns-late cs e k)

  records-late : (rs : List Rec) (at : ℕ) → m < at → places_in m (places_from at rs) ≡ 0
  unfolding places_from places_in
  records-late [] at h = refl
  records-late (r ∷ rs) at h =
      rw (places-append m (record_places at r) (places_from (at + length (encode_record r)) rs), record-late r at h, records-late rs (at + length (encode_record r)) (omega (arith, h)))

-- tests one behind the other
nest : (a b m x : ℕ) → a ≤ b → pick (leb a m) (pick (leb b m) x 0) 0 ≡ pick (leb b m) x 0
nest a b m x h =
    ⊎_elim
    (λ (g : a ≤ m). rw (le-leb a m g))
    (λ (g : m < a). let k : m < b = omega (arith, g, h) in rw (lt-leb a m g, lt-leb b m k))
    (le-or-lt a m)

-- a record's place before those of its columns
lead : (a m x : ℕ) → (m < a → x ≡ 0) → pick (leb a m) (1 + x) 0 ≡ pick (leb a m) 1 0 + x
lead a m x h = ⊎_elim (λ (g : a ≤ m). rw (le-leb a m g)) (λ (g : m < a). rw (lt-leb a m g, h g)) (le-or-lt a m)

behind : (b m x : ℕ) → (m < b + 2 → x ≡ 0) → pick (leb b m) (pick (leb (b + 2) m) 1 0 + x) 0 ≡ pick (leb (b + 2) m) 1 0 + x
behind b m x h =
    ⊎_elim
    (λ (g : b ≤ m). rw (le-leb b m g))
    (λ (g : m < b). let k : m < b + 2 = omega (arith, g) in rw (lt-leb b m g, lt-leb (b + 2) m k, h k))
    (le-or-lt b m)

-- ---- fields

number_is : {a b c d : ℕ} → taken a c ≡ taken b d → a ≡ b
number_is e = cc

abbrev Refuses : {A : Type 0} → Answer A → Type 0
Refuses (taken a next) = ⊥
Refuses (refused k) = Unit

none-counts : {A : Type 0} (x : Answer A) (g : A → ℕ → ℕ) → Refuses x → if_taken x g ≡ 0
none-counts (taken a next) g h = absurd h
none-counts (refused k) g h = refl

-- what ends behind the cut is refused
beyond : {A : Type 0} (x : Answer A) {y : Answer A} {a : A} {end m : ℕ} → Stable x y → y ≡ taken a end → When (λ (b : A) (next : ℕ). next ≤ m) x → m < end → Refuses x
beyond (taken b next) {y} {a} {end} {m} p e w h = let q : next ≡ end = cc in omega (arith, w, h)
beyond (refused k) p e w h = tt

module _ (whole : List ℕ) (m : ℕ) (small : m ≤ length whole) where
  abbrev s : List ℕ
  s = take m whole

  -- the cursor behind what is read does not pass the cut
  within : {A : Type 0} (k at : ℕ) (x : Answer A) → When (λ (a : A) (next : ℕ). Reach s k at next) x → When (λ (a : A) (next : ℕ). next ≤ m) x
  within k at (taken a next) h = omega (arith, h.within, cut-length whole m small)
  within k at (refused r) h = tt

  -- a number that the whole has at `at`
  num-cut : (k at : ℕ) {v : ℕ} (g : ℕ → ℕ → ℕ) → num_at k whole at ≡ taken v (at + k) → if_taken (num_at k s at) g ≡ pick (leb (at + k) m) (g v (at + k)) 0
  unfolding num_at
  num-cut k at {v} g e =
      ⊎_elim
      (λ (i : at + k ≤ m).
      let l : at + k ≤ length s = omega (arith, i, cut-length whole m small) in
      let q : field k at whole ≡ v = number_is (rw (fits-too whole m small k at l) at e) in
      rw (le-leb (at + k) (length s) l, le-leb (at + k) m i, same-field whole m small k at l, q))
      (λ (i : m < at + k).
      let l : length s < at + k = omega (arith, i, cut-length whole m small) in
      rw (lt-leb (at + k) (length s) l, lt-leb (at + k) m i))
      (le-or-lt (at + k) m)

  text-cut : (t : List ℕ) {at : ℕ} (g : ℕ → ℕ) → GoodText 2 t → Has whole at (encode_text 2 t)
      → if_taken (text_at 2 s at) (λ p next. g next) ≡ pick (leb (at + (2 + length t)) m) (g (at + (2 + length t))) 0
  text-cut t {at} g good h =
      ⊎_elim
      (λ (i : at + (2 + length t) ≤ m).
      rw ((text-has 2 t good (has-cut whole m small (encode_text 2 t) h (omega (arith, i, length-encode_text 2 t)))).is, le-leb (at + (2 + length t)) m i))
      (λ (i : m < at + (2 + length t)).
      rw (lt-leb (at + (2 + length t)) m i)
      (none-counts (text_at 2 s at) (λ p next. g next)
      (beyond (text_at 2 s at) (text-stable whole m small 2 at) (text-has 2 t good h).is (within 2 at (text_at 2 s at) (text-reach s 2 at)) i)))
      (le-or-lt (at + (2 + length t)) m)

  -- ---- columns

  columns-cut : (cs : List Col) {at : ℕ} → Each GoodColumn cs → Has whole at (all encode_column cs)
      → many_items (column_at s) (column_items s) (length cs) at ≡ places_in m (column_places at cs)
  unfolding all Each many_items column_items column_places places_in
  columns-cut [] g h = refl
  columns-cut (c ∷ cs) {at} g h =
      let end = at + length (encode_column c) in
      let one = has_left (encode_column c) (all encode_column cs) h in
      ⊎_elim
      (λ (i : end ≤ m).
      rw ((column-has c g.0 (has-cut whole m small (encode_column c) one i)).is, le-leb end m i, columns-cut cs g.1 (has_right (encode_column c) (all encode_column cs) h)))
      (λ (i : m < end).
      let r = beyond (column_at s at) (column-stable whole m small at) (column-has c g.0 one).is (within 3 at (column_at s at) (column-reach s at)) i in
      rw (lt-leb end m i, columns-late m cs end i, none-counts (column_at s at) (λ c end. 1) r, none-counts (column_at s at) (λ c next. many_items (column_at s) (column_items s) (length cs) next) r))
      (le-or-lt end m)

  -- ---- records

  -- op, table and row id
  row_cut : (op n : ℕ) (t : List ℕ) (at : ℕ) → num_at 1 whole at ≡ taken op (at + 1) → GoodText 2 t → Has whole (at + 1) (encode_text 2 t)
      → num_at 8 whole (at + 1 + (2 + length t)) ≡ taken n (at + 1 + (2 + length t) + 8)
      → record_items s at ≡ pick (leb (at + 1 + (2 + length t) + 8) m) (judged_items s op (at + 1 + (2 + length t) + 8)) 0
  unfolding record_items
  row_cut op n t at o g h e =
      let b = at + 1 + (2 + length t) in
      num-cut 1 at (λ op named. if_taken (text_at 2 s named) (λ p next. if_taken (num_at 8 s next) (λ n rest. judged_items s op rest))) o
      ∙ ap (λ (x : ℕ). pick (leb (at + 1) m) x 0)
      (text-cut t (λ next. if_taken (num_at 8 s next) (λ n rest. judged_items s op rest)) g h
      ∙ ap (λ (x : ℕ). pick (leb b m) x 0) (num-cut 8 b (λ n rest. judged_items s op rest) e)
      ∙ nest b (b + 8) m (judged_items s op (b + 8)) (omega arith))
      ∙ nest (at + 1) (b + 8) m (judged_items s op (b + 8)) (omega arith)

  -- "after its column count if present"
  present-cut : (cs : List Col) (b : ℕ) → GoodColumns cs → Has whole b (le_bytes 2 (length cs) ++ all encode_column cs)
      → present_items s b ≡ pick (leb (b + 2) m) 1 0 + places_in m (column_places (b + 2) cs)
  unfolding present_items
  present-cut cs b g h =
      let c = le_bytes 2 (length cs) in
      let e = all encode_column cs in
      num-cut 2 b (λ count first. 1 + many_items (column_at s) (column_items s) count first) (has-num 2 (length cs) g.few (has_left c e h))
      ∙ ap (λ (x : ℕ). pick (leb (b + 2) m) (1 + x) 0) (columns-cut cs g.each (has-after 2 c e (length-le_bytes 2 (length cs)) h))
      ∙ lead (b + 2) m (places_in m (column_places (b + 2) cs)) (columns-late m cs (b + 2))

  record-cut : (r : Rec) {at : ℕ} → GoodRecord r → Has whole at (encode_record r) → record_items s at ≡ places_in m (record_places at r)
  unfolding encode_record GoodRecord judged_items places_in
  record-cut (tombstone t row) {at} g h =
      let n = encode_text 2 t in
      let w = le_bytes 8 (of_z w64 row) in
      let h1 = has-next 0 h in
      let e : at + 1 + (2 + length t) + 8 ≡ at + (1 + length (encode_text 2 t) + 8) = omega (arith, length-encode_text 2 t) in
      row_cut 0 (of_z w64 row) t at (has-byte 0 (lit< tt) h) g.table (has_left n w h1)
      (has-num 8 (of_z w64 row) (of_z_fits w64 row g.rowid).fits (has-after (2 + length t) n w (length-encode_text 2 t) h1))
      ∙ rw e (omega arith)
  record-cut (present t row cs) {at} g h =
      let n = encode_text 2 t in
      let w = le_bytes 8 (of_z w64 row) in
      let c = le_bytes 2 (length cs) ++ all encode_column cs in
      let b = at + 1 + (2 + length t) + 8 in
      let h1 = has-next 1 h in
      let h2 = has-after (2 + length t) n (w ++ c) (length-encode_text 2 t) h1 in
      let e : b + 2 ≡ at + (1 + length (encode_text 2 t) + 8 + 2) = omega (arith, length-encode_text 2 t) in
      row_cut 1 (of_z w64 row) t at (has-byte 1 (lit< tt) h) g.0.table (has_left n (w ++ c) h1)
      (has-num 8 (of_z w64 row) (of_z_fits w64 row g.0.rowid).fits (has_left w c h2))
      ∙ ap (λ (x : ℕ). pick (leb b m) x 0) (present-cut cs b g.1 (has-after 8 w c (length-le_bytes 8 (of_z w64 row)) h2))
      ∙ behind b m (places_in m (column_places (b + 2) cs)) (columns-late m cs (b + 2))
      ∙ rw e

  records-cut : (rs : List Rec) {at : ℕ} → Each GoodRecord rs → Has whole at (all encode_record rs)
      → many_items (record_at s) (record_items s) (length rs) at ≡ places_in m (places_from at rs)
  unfolding all Each many_items places_from places_in
  records-cut [] g h = refl
  records-cut (r ∷ rs) {at} g h =
      let end = at + length (encode_record r) in
      let one = has_left (encode_record r) (all encode_record rs) h in
      rw (places-append m (record_places at r) (places_from end rs), record-cut r g.0 one)
      (ap (λ (x : ℕ). places_in m (record_places at r) + x)
      (⊎_elim
      (λ (i : end ≤ m).
      rw (record-has r g.0 (has-cut whole m small (encode_record r) one i)).is
      (records-cut rs g.1 (has_right (encode_record r) (all encode_record rs) h)))
      (λ (i : m < end).
      none-counts (record_at s at) (λ a next. many_items (record_at s) (record_items s) (length rs) next)
      (beyond (record_at s at) (record-stable whole m small at) (record-has r g.0 one).is (within 0 at (record_at s at) (record-reach s at)) i)
      ∙ sym (records-late m rs end i))
      (le-or-lt end m)))

-- ---- a whole batch

pub batch-cut : (t : ℕ) (rs : List Rec) (pad : List ℕ) (n : ℕ) → GoodBatch t rs → n ≤ length (encode_batch t rs ++ pad)
    → batch_items (take n (encode_batch t rs ++ pad)) ≡ places_in n (places_from 18 rs)
unfolding batch_items heading_refusal
batch-cut t rs pad n g h =
    let w = encode_batch t rs ++ pad in
    let e : length (take n w) ≡ n = cut-length w n h in
    ⊎_elim
    (λ (k : 18 ≤ n).
    let l : 18 ≤ length (take n w) = omega (arith, e, k) in
    let m : field 8 0 (take n w) ≡ batch_magic = same-field w n h 8 0 (omega (arith, l)) ∙ marked-here t rs pad g in
    let c : field 2 16 (take n w) ≡ length rs = same-field w n h 2 16 (omega (arith, l)) ∙ count-read t rs pad g in
    rw (le-leb 18 (length (take n w)) l, eq-eqb (field 8 0 (take n w)) batch_magic m, c) (records-cut w n h rs g.each (records-here t rs pad g)))
    (λ (k : n < 18).
    let l : length (take n w) < 18 = omega (arith, e, k) in
    rw (lt-leb 18 (length (take n w)) l, records-late n rs 18 k))
    (le-or-lt 18 n)
