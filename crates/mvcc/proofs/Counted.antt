-- A body that decodes gives an item for each of its records and columns. Assumes nothing.
use mathlib.Core.Path.{◌≡◌, refl, ap, ◌∙◌}
use mathlib.Core.Bool.{true}
use mathlib.Core.List.{List, [], ◌∷◌, ◌++◌, map}
use Prim.Native.Nat.{ℕ, zero, suc, ◌+◌}
use native.Mathlib.Omega.{arith}
use borrow.Author.Tests.{le-leb, eq-eqb}
use lib.Dec.{eqb}
use lib.ListN.{length}
use Rattle.le.specs.Choice.{pick}
use Rattle.le.specs.Le.{field}
use Rattle.mvcc.specs.Answer.{Answer, taken, refused, then, many}
use Rattle.mvcc.specs.Decode.{num_at, text_at, column_at, present_at, judged_at, record_at, records_at, heading_refusal}
use Rattle.mvcc.specs.Batch.{Rec, encode_batch, GoodBatch}
use Rattle.mvcc.specs.Seen.{seen_column, seen_row, seen_record, decodes, records}
use Rattle.mvcc.specs.Items.{if_taken, many_items, column_items, present_items, judged_items, record_items, batch_items, row_items, rows_items}
use Rattle.mvcc.specs.declared.Column.{Column}
use Rattle.mvcc.specs.declared.RowID.{RowID}
use Rattle.mvcc.specs.declared.VersionPayload.TheVariants as payload
use Rattle.mvcc.specs.declared.MvccLogRecord.{MvccLogRecord}
use Rattle.mvcc.proofs.Canonical.{decodes-encode, records-encode}
use Rattle.mvcc.proofs.Whole.{Found, found, found-records}
use Rattle.mvcc.proofs.Items.{then-items, pick-items}

-- what holds of an answer and its items where it is no refusal
abbrev Whenever : {A : Type 0} → (A → ℕ → Type 0) → Answer A → ℕ → Type 0
Whenever P (taken a next) n = P a n
Whenever P (refused k) n = Unit

-- ---- runs

unfoldable sum : {A : Type 0} → (A → ℕ) → List A → ℕ
sum c [] = 0
sum c (a ∷ l) = c a + sum c l

module _ {A : Type 0} (f : ℕ → Answer A) (n : ℕ → ℕ) (c : A → ℕ) where
  abbrev Each : Answer A → ℕ → Type 0
  Each = Whenever (λ (a : A) (m : ℕ). m ≡ c a)

  abbrev All : Answer (List A) → ℕ → Type 0
  All = Whenever (λ (l : List A) (m : ℕ). m ≡ sum c l)

  run-rest : (a : A) (x : Answer (List A)) (k m : ℕ) → k ≡ c a → All x m → All (then x (λ rest end. taken (a ∷ rest) end)) (k + m)
  unfolding sum
  run-rest a (taken l end) k m e h = rw (e, h)
  run-rest a (refused r) k m e h = tt

  run-next : (x : Answer A) (k : ℕ) (m : ℕ → Answer (List A)) (g : ℕ → ℕ) → Each x k → ((next : ℕ) → All (m next) (g next))
      → All (then x (λ a next. then (m next) (λ rest end. taken (a ∷ rest) end))) (k + if_taken x (λ a next. g next))
  run-next (taken a next) k m g e h = run-rest a (m next) k (g next) e (h next)
  run-next (refused r) k m g e h = tt

  run-items : ((at : ℕ) → Each (f at) (n at)) → (k at : ℕ) → All (many f k at) (many_items f n k at)
  unfolding many many_items sum
  run-items h zero at = refl
  run-items h (suc k) at = run-next (f at) (n at) (many f k) (many_items f n k) (h at) (run-items h k)

-- ---- columns

column-one : (x : Answer Column) → Whenever (λ (c : Column) (m : ℕ). m ≡ 1) x (if_taken x (λ c end. 1))
column-one (taken c end) = refl
column-one (refused k) = tt

sum_ones : (s : List ℕ) (l : List Column) → sum (λ (c : Column). 1) l ≡ length (map (seen_column s) l)
unfolding sum
sum_ones s [] = refl
sum_ones s (c ∷ l) = rw (sum_ones s l) (omega arith)

columns-items : (s : List ℕ) (count first : ℕ)
    → Whenever (λ (l : List Column) (m : ℕ). m ≡ sum (λ (c : Column). 1) l) (many (column_at s) count first) (many_items (column_at s) (column_items s) count first)
unfolding column_items
columns-items s count first = run-items (column_at s) (column_items s) (λ (c : Column). 1) (λ at. column-one (column_at s at)) count first

-- ---- records

module _ (s : List ℕ) where
  abbrev Recorded : Answer MvccLogRecord → ℕ → Type 0
  Recorded = Whenever (λ (r : MvccLogRecord) (m : ℕ). m ≡ row_items (seen_record s r))

  present-items : (r : RowID) (count first : ℕ) (x : Answer (List Column)) (m : ℕ) → many (column_at s) count first ≡ x
      → Whenever (λ (l : List Column) (m : ℕ). m ≡ sum (λ (c : Column). 1) l) x m
      → Recorded (then x (λ columns end. taken (record { row = r; payload = payload.Present count first }) end)) (1 + m)
  unfolding seen_record seen_row
  present-items r count first (taken l end) m e h = rw (e, h, sum_ones s l)
  present-items r count first (refused k) m e h = tt

  judged-items : (op : ℕ) (r : RowID) (at : ℕ) → Recorded (judged_at s op r at) (judged_items s op at)
  unfolding judged_at judged_items present_at present_items seen_record seen_row
  judged-items op r at =
      pick-items Recorded (eqb op 0) 1 (pick (eqb op 1) (present_items s at) 0) (λ e. refl) (λ e.
      pick-items Recorded (eqb op 1) (present_items s at) 0
      (λ e.
      then-items Recorded (num_at 2 s at) _ _ (λ k. tt) (λ count first g.
      present-items r count first (many (column_at s) count first) _ refl (columns-items s count first)))
      (λ e. tt))

  record-items : (at : ℕ) → Recorded (record_at s at) (record_items s at)
  unfolding record_at record_items
  record-items at =
      then-items Recorded (num_at 1 s at) _ _ (λ k. tt) (λ op named e.
      then-items Recorded (text_at 2 s named) _ _ (λ k. tt) (λ t next f.
      then-items Recorded (num_at 8 s next) _ _ (λ k. tt) (λ n rest g. judged-items op _ rest)))

  sum_rows : (l : List MvccLogRecord) → sum (λ (r : MvccLogRecord). row_items (seen_record s r)) l ≡ rows_items (map (seen_record s) l)
  unfolding sum rows_items
  sum_rows [] = refl
  sum_rows (r ∷ l) = rw (sum_rows l)

  taken-so : (x : Answer (List MvccLogRecord)) {l : List MvccLogRecord} {end m : ℕ} → x ≡ taken l end
      → Whenever (λ (l : List MvccLogRecord) (m : ℕ). m ≡ sum (λ (r : MvccLogRecord). row_items (seen_record s r)) l) x m
      → m ≡ sum (λ (r : MvccLogRecord). row_items (seen_record s r)) l
  taken-so x e h = rw e at h

  -- where the body decodes
  module _ (d : decodes s ≡ true) where
    abbrev f : Found s
    f = found s d

    list-items : many_items (record_at s) (record_items s) (field 2 16 s) 18 ≡ rows_items (records s)
    unfolding records_at
    list-items =
        taken-so (many (record_at s) (field 2 16 s) 18) f.is
        (run-items (record_at s) (record_items s) (λ (r : MvccLogRecord). row_items (seen_record s r)) record-items (field 2 16 s) 18)
        ∙ sum_rows f.list ∙ rw (found-records s f)

    pub decoded-items : batch_items s ≡ rows_items (records s)
    unfolding batch_items heading_refusal
    decoded-items = rw (le-leb 18 (length s) f.long, eq-eqb _ _ f.marked) list-items

-- decoding what was encoded, with anything behind it
pub encoded-items : (t : ℕ) (rs : List Rec) (pad : List ℕ) → GoodBatch t rs → batch_items (encode_batch t rs ++ pad) ≡ rows_items rs
encoded-items t rs pad g =
    decoded-items (encode_batch t rs ++ pad) (decodes-encode t rs pad g) ∙ ap rows_items (records-encode t rs pad g)
