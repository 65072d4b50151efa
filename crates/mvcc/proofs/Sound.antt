-- What decoding takes: fields that fit their widths, and an encoding just as long as what was read. Assumes nothing.
use mathlib.Core.Path.{◌≡◌, refl, ap}
use mathlib.Core.Bool.{Bool, true, false, not}
use mathlib.Core.List.{List, [], ◌∷◌, ◌++◌, map}
use Prim.Native.Nat.{ℕ, zero, suc, ◌+◌, ◌*◌, ◌^◌, ◌≤◌, ◌<◌}
use native.Mathlib.Omega.{arith}
use borrow.Author.Tests.{leb-true, lt-ltb}
use lib.Dec.{eqb, lit<}
use lib.ListN.{length, take, drop, length-append, length-take, length-drop}
use mir.Val.{of_z, SFits}
use mir.Syntax.{w64}
use mathlib.Core.Logic.{⊎_elim}
use Rattle.le.specs.Choice.{pick}
use Rattle.le.specs.Le.{Bytes, le_bytes}
use Rattle.le.proofs.Tests.{le-or-lt}
use Rattle.le.proofs.Fields.{length-le_bytes}
use Rattle.text.specs.Utf8.{well_formed}
use Rattle.mvcc.specs.Answer.{Answer, taken, refused, then, many}
use Rattle.mvcc.specs.Decode.{fits_in, num_at, place_of, text_of, text_at, signed, real_of, integer_at, real_at, text_value_at, bool_at, vector_at, tagged_at, value_at, column_at, present_at, judged_at, record_at}
use Rattle.mvcc.specs.Batch.{Rec, present, all, encode_text, encode_value, encode_column, encode_record, Each, GoodText, GoodValue, GoodColumn, GoodRow, GoodRecord}
use Rattle.mvcc.specs.Seen.{bytes_of, words, seen, seen_column, seen_row, seen_record}
use Rattle.mvcc.specs.declared.TextPlace.{TextPlace}
use Rattle.mvcc.specs.declared.RowID.{RowID}
use Rattle.mvcc.specs.declared.Column.{Column}
use Rattle.mvcc.specs.declared.MvccLogRecord.{MvccLogRecord}
use Rattle.mvcc.specs.declared.Value.{Value}
use Rattle.mvcc.specs.declared.Value.TheVariants as value
use Rattle.mvcc.specs.declared.VersionPayload.TheVariants as payload
use Rattle.refusal.specs.declared.Refusal.TheVariants.{Truncated}
use Rattle.mvcc.proofs.Laws.{signed-fits-high}
use Rattle.mvcc.proofs.Trip.{length-encode_text, length-words, real-seen}
use Rattle.mvcc.proofs.Bytes.{field-small, bytes-none, bytes-cons, bytes-append, bytes-part, bytes-le_bytes}

-- ---- what holds of an answer where it is no refusal

abbrev pub When : {A : Type 0} → (A → ℕ → Type 0) → Answer A → Type 0
When P (taken a next) = P a next
When P (refused k) = Unit

pub then-when : {A B : Type 0} (P : A → ℕ → Type 0) (Q : B → ℕ → Type 0) (x : Answer A) (f : A → ℕ → Answer B) → When P x
    → ((a : A) (next : ℕ) → x ≡ taken a next → P a next → When Q (f a next)) → When Q (then x f)
then-when P Q (taken a next) f p q = q a next refl p
then-when P Q (refused k) f p q = tt

pub pick-test : {A : Type 0} (P : A → Type 0) (b : Bool) {x y : A} → (b ≡ true → P x) → (b ≡ false → P y) → P (pick b x y)
pick-test P true f g = f refl
pick-test P false f g = g refl

-- a thing read at `at`, seen as something good whose encoding reaches to the next cursor
pub record Faithful {A B : Type 0} (Good : B → Type 0) (enc : B → List ℕ) (see : A → B) (s : List ℕ) (at : ℕ) (a : A) (next : ℕ) : Type 0 where
  pub good : Good (see a)
  pub reach : at + length (enc (see a)) ≡ next
  pub within : next ≤ length s
  pub bytes : Bytes (enc (see a))

record Num (k : ℕ) (s : List ℕ) (at n next : ℕ) : Type 0 where
  small : n < 256 ^ k
  reach : at + k ≡ next
  within : next ≤ length s

pub signed-fits : (n : ℕ) → n < 2 ^ 64 → SFits w64 (signed n)
unfolding signed
signed-fits n h =
    ⊎_elim (λ (a : 2 ^ 63 ≤ n). signed-fits-high n a h) (λ (a : n < 2 ^ 63). rw (lt-ltb n (2 ^ 63) a) (record { sfits = a })) (le-or-lt (2 ^ 63) n)

bool_small : (b : Bool) → pick b 1 0 < 256
bool_small true = lit< tt
bool_small false = lit< tt

module _ (s : List ℕ) (sb : Bytes s) where
  num-ok : (k at : ℕ) → When (Num k s at) (num_at k s at)
  unfolding num_at
  num-ok k at =
      pick-test (When (Num k s at)) (fits_in s at k)
      (λ e. record { small = field-small k at s sb; reach = refl; within = leb-true _ _ e })
      (λ e. tt)

  -- ---- texts and values

  bytes-text : (k : ℕ) (t : List ℕ) → Bytes t → Bytes (encode_text k t)
  unfolding encode_text
  bytes-text k t b = bytes-append (le_bytes k (length t)) t (bytes-le_bytes k (length t)) b

  abbrev TextOk : ℕ → ℕ → TextPlace → ℕ → Type 0
  TextOk k at = Faithful (GoodText k) (encode_text k) (bytes_of s) s at

  text-good : (k at n next : ℕ) → Num k s at n next → next + n ≤ length s → well_formed (take n (drop next s)) ≡ true
      → TextOk k at (place_of s next n) (next + n)
  text-good k at n next p h w =
      let l : length (take n (drop next s)) ≡ n = simp (length-take, length-drop) (omega arith) in
      record {
        good = record { small = rw l p.small; utf8 = w };
        reach = omega (arith, p.reach, length-encode_text k (take n (drop next s)));
        within = h;
        bytes = bytes-text k (take n (drop next s)) (bytes-part n next s sb);
      }

  text-ok : (k at : ℕ) → When (TextOk k at) (text_at k s at)
  unfolding text_at text_of
  text-ok k at =
      then-when (Num k s at) (TextOk k at) (num_at k s at) (λ n next. text_of s next n) (num-ok k at)
      (λ n next e p.
      pick-test (When (TextOk k at)) (fits_in s next n)
      (λ r. pick-test (When (TextOk k at)) (well_formed (take n (drop next s))) (λ w. text-good k at n next p (leb-true _ _ r) w) (λ w. tt))
      (λ r. tt))

  pub words-length : (n at : ℕ) → length (words s n at) ≡ n
  unfolding words
  words-length zero at = refl
  words-length (suc n) at = ap suc (words-length n (at + 4))

  pub words_small : (n at : ℕ) → Each (λ (w : ℕ). w < 256 ^ 4) (words s n at)
  unfolding words Each
  words_small zero at = tt
  words_small (suc n) at = (field-small 4 at s sb, words_small n (at + 4))

  bytes-words : (ws : List ℕ) → Bytes (all (le_bytes 4) ws)
  unfolding all
  bytes-words [] i = lit< tt
  bytes-words (w ∷ ws) i = bytes-append (le_bytes 4 w) (all (le_bytes 4) ws) (bytes-le_bytes 4 w) (bytes-words ws) i

  abbrev ValueOk : ℕ → Value → ℕ → Type 0
  ValueOk at = Faithful GoodValue encode_value (seen s) s at

  -- what stands behind a tag at `at`
  module _ (at next : ℕ) (step : at + 1 ≡ next) (room : next ≤ length s) where
    null_ok : ValueOk at value.Null next
    unfolding seen encode_value GoodValue
    null_ok = record { good = tt; reach = step; within = room; bytes = bytes-cons 0 [] (lit< tt) bytes-none }

    integer-ok : When (ValueOk at) (integer_at s next)
    unfolding integer_at seen encode_value GoodValue
    integer-ok =
        then-when (Num 8 s next) (ValueOk at) (num_at 8 s next) (λ n end. taken (value.Integer (signed n)) end) (num-ok 8 next)
        (λ n end e p. record {
          good = signed-fits n p.small;
          reach = omega (arith, p.reach, length-le_bytes 8 (of_z w64 (signed n)));
          within = p.within;
          bytes = bytes-cons 1 (le_bytes 8 (of_z w64 (signed n))) (lit< tt) (bytes-le_bytes 8 (of_z w64 (signed n)));
        })

    real-ok : When (ValueOk at) (real_at s next)
    unfolding real_at encode_value GoodValue
    real-ok =
        then-when (Num 8 s next) (ValueOk at) (num_at 8 s next) (λ n end. taken (real_of n) end) (num-ok 8 next)
        (λ n end e p. record {
          good = rw (real-seen s n p.small) p.small;
          reach = rw (real-seen s n p.small) (omega (arith, p.reach, length-le_bytes 8 n));
          within = p.within;
          bytes = rw (real-seen s n p.small) (bytes-cons 2 (le_bytes 8 n) (lit< tt) (bytes-le_bytes 8 n));
        })

    text_value-ok : When (ValueOk at) (text_value_at s next)
    unfolding text_value_at seen encode_value GoodValue
    text_value-ok =
        then-when (TextOk 4 next) (ValueOk at) (text_at 4 s next) (λ place end. taken (value.Text place) end) (text-ok 4 next)
        (λ place end e p. record {
          good = p.good;
          reach = omega (arith, p.reach);
          within = p.within;
          bytes = bytes-cons 3 (encode_text 4 (bytes_of s place)) (lit< tt) p.bytes;
        })

    bool_ok : When (ValueOk at) (bool_at s next)
    unfolding bool_at seen encode_value GoodValue
    bool_ok =
        then-when (Num 1 s next) (ValueOk at) (num_at 1 s next) (λ n end. taken (value.Bool (not (eqb n 0))) end) (num-ok 1 next)
        (λ n end e p. record {
          good = tt;
          reach = omega (arith, p.reach);
          within = p.within;
          bytes = bytes-cons 4 (pick (not (eqb n 0)) 1 0 ∷ []) (lit< tt) (bytes-cons (pick (not (eqb n 0)) 1 0) [] (bool_small (not (eqb n 0))) bytes-none);
        })

    vector-good : (n start : ℕ) → Num 4 s next n start → start + n * 4 ≤ length s → ValueOk at (value.Vector start n) (start + n * 4)
    unfolding seen encode_value GoodValue
    vector-good n start p h =
        let ws = words s n start in
        let l = le_bytes 4 (length ws) in
        record {
          good = record { small = rw (words-length n start) p.small; words = words_small n start };
          reach = omega (arith, p.reach, length-append l (all (le_bytes 4) ws), length-le_bytes 4 (length ws), length-words ws, words-length n start);
          within = h;
          bytes = bytes-cons 5 (l ++ all (le_bytes 4) ws) (lit< tt) (bytes-append l (all (le_bytes 4) ws) (bytes-le_bytes 4 (length ws)) (bytes-words ws));
        }

    vector_ok : When (ValueOk at) (vector_at s next)
    unfolding vector_at
    vector_ok =
        then-when (Num 4 s next) (ValueOk at) (num_at 4 s next)
        (λ n start. pick (fits_in s start (n * 4)) (taken (value.Vector start n) (start + n * 4)) (refused Truncated)) (num-ok 4 next)
        (λ n start e p. pick-test (When (ValueOk at)) (fits_in s start (n * 4)) (λ r. vector-good n start p (leb-true _ _ r)) (λ r. tt))

    tagged_ok : (tag : ℕ) → When (ValueOk at) (tagged_at s tag next)
    unfolding tagged_at
    tagged_ok tag =
        let P = When (ValueOk at) in
        pick-test P (eqb tag 0) (λ e. null_ok) (λ e.
        pick-test P (eqb tag 1) (λ e. integer-ok) (λ e.
        pick-test P (eqb tag 2) (λ e. real-ok) (λ e.
        pick-test P (eqb tag 3) (λ e. text_value-ok) (λ e.
        pick-test P (eqb tag 4) (λ e. bool_ok) (λ e.
        pick-test P (eqb tag 5) (λ e. vector_ok) (λ e. tt))))))

  value-ok : (at : ℕ) → When (ValueOk at) (value_at s at)
  unfolding value_at
  value-ok at =
      then-when (Num 1 s at) (ValueOk at) (num_at 1 s at) (λ tag next. tagged_at s tag next) (num-ok 1 at)
      (λ tag next e p. tagged_ok at next p.reach p.within tag)

  -- ---- columns and records

  abbrev ColumnOk : ℕ → Column → ℕ → Type 0
  ColumnOk at = Faithful GoodColumn encode_column (seen_column s) s at

  column-good : (at : ℕ) (n : TextPlace) (next : ℕ) (v : Value) (end : ℕ) → TextOk 2 at n next → ValueOk next v end
      → ColumnOk at (record { name = n; value = v }) end
  unfolding seen_column encode_column
  column-good at n next v end p q =
      let t = encode_text 2 (bytes_of s n) in
      let w = encode_value (seen s v) in
      record {
        good = record { named = p.good; valued = q.good };
        reach = omega (arith, p.reach, q.reach, length-append t w);
        within = q.within;
        bytes = bytes-append t w p.bytes q.bytes;
      }

  column-ok : (at : ℕ) → When (ColumnOk at) (column_at s at)
  unfolding column_at
  column-ok at =
      then-when (TextOk 2 at) (ColumnOk at) (text_at 2 s at)
      (λ n next. then (value_at s next) (λ v end. taken (record { name = n; value = v }) end)) (text-ok 2 at)
      (λ n next e p.
      then-when (ValueOk next) (ColumnOk at) (value_at s next) (λ v end. taken (record { name = n; value = v }) end) (value-ok next)
      (λ v end f q. column-good at n next v end p q))

-- k good things
pub record Run {B : Type 0} (Good : B → Type 0) (k : ℕ) (bs : List B) : Type 0 where
  pub count : length bs ≡ k
  pub each : Each Good bs

module _ {A B : Type 0} (f : ℕ → Answer A) (see : A → B) (enc : B → List ℕ) (Good : B → Type 0) (s : List ℕ)
    (one : (at : ℕ) → When (Faithful Good enc see s at) (f at)) where
  abbrev RunOk : ℕ → ℕ → List A → ℕ → Type 0
  RunOk k at = Faithful (Run Good k) (all enc) (map see) s at

  run-good : (k at : ℕ) (a : A) (next : ℕ) (rest : List A) (end : ℕ) → Faithful Good enc see s at a next → RunOk k next rest end
      → RunOk (suc k) at (a ∷ rest) end
  unfolding all Each
  run-good k at a next rest end p q =
      let x = enc (see a) in
      let y = all enc (map see rest) in
      record {
        good = record { count = ap suc q.good.count; each = (p.good, q.good.each) };
        reach = omega (arith, p.reach, q.reach, length-append x y);
        within = q.within;
        bytes = bytes-append x y p.bytes q.bytes;
      }

  pub many-ok : (k at : ℕ) → at ≤ length s → When (RunOk k at) (many f k at)
  unfolding many all Each
  many-ok zero at h = record { good = record { count = refl; each = tt }; reach = omega arith; within = h; bytes = bytes-none }
  many-ok (suc k) at h =
      then-when (Faithful Good enc see s at) (RunOk (suc k) at) (f at) (λ a next. then (many f k next) (λ rest end. taken (a ∷ rest) end)) (one at)
      (λ a next e p.
      then-when (RunOk k next) (RunOk (suc k) at) (many f k next) (λ rest end. taken (a ∷ rest) end) (many-ok k next p.within)
      (λ rest end g q. run-good k at a next rest end p q))

module _ (s : List ℕ) (sb : Bytes s) where
  abbrev RecordOk : ℕ → MvccLogRecord → ℕ → Type 0
  RecordOk at = Faithful GoodRecord encode_record (seen_record s) s at

  -- a row id read behind an op at `at`
  record Row (at : ℕ) (r : RowID) (rest : ℕ) : Type 0 where
    good : GoodRow (bytes_of s r.table) r.rowid
    reach : at + 1 + length (encode_text 2 (bytes_of s r.table)) + 8 ≡ rest
    within : rest ≤ length s
    bytes : Bytes (encode_text 2 (bytes_of s r.table))

  module _ (at : ℕ) (r : RowID) (rest : ℕ) (w : Row at r rest) where
    tombstone-ok : RecordOk at (record { row = r; payload = payload.Tombstone }) rest
    unfolding seen_record seen_row encode_record GoodRecord
    tombstone-ok =
        let t = encode_text 2 (bytes_of s r.table) in
        let b = le_bytes 8 (of_z w64 r.rowid) in
        record {
          good = w.good;
          reach = omega (arith, w.reach, length-append t b, length-le_bytes 8 (of_z w64 r.rowid));
          within = w.within;
          bytes = bytes-cons 0 (t ++ b) (lit< tt) (bytes-append t b w.bytes (bytes-le_bytes 8 (of_z w64 r.rowid)));
        }

    module _ (count first : ℕ) (columns : List Column) (end : ℕ) (p : Num 2 s rest count first)
        (e : many (column_at s) count first ≡ taken columns end)
        (q : Faithful (Run GoodColumn count) (all encode_column) (map (seen_column s)) s first columns end) where
      abbrev row_seen : Rec
      row_seen = present (bytes_of s r.table) r.rowid (map (seen_column s) columns)

      is_seen : seen_record s (record { row = r; payload = payload.Present count first }) ≡ row_seen
      unfolding seen_record seen_row
      is_seen = rw e

      present-good : GoodRecord row_seen
      unfolding GoodRecord
      present-good = (w.good, record { few = rw q.good.count p.small; each = q.good.each })

      present-reach : at + length (encode_record row_seen) ≡ end
      unfolding encode_record
      present-reach =
          let t = encode_text 2 (bytes_of s r.table) in
          let b = le_bytes 8 (of_z w64 r.rowid) in
          let cs = map (seen_column s) columns in
          let n = le_bytes 2 (length cs) in
          let x = all encode_column cs in
          omega (
            arith,
            w.reach,
            p.reach,
            q.reach,
            length-append t (b ++ (n ++ x)),
            length-append b (n ++ x),
            length-append n x,
            length-le_bytes 8 (of_z w64 r.rowid),
            length-le_bytes 2 (length cs),
          )

      present-bytes : Bytes (encode_record row_seen)
      unfolding encode_record
      present-bytes =
          let t = encode_text 2 (bytes_of s r.table) in
          let b = le_bytes 8 (of_z w64 r.rowid) in
          let cs = map (seen_column s) columns in
          let n = le_bytes 2 (length cs) in
          let x = all encode_column cs in
          bytes-cons 1 (t ++ (b ++ (n ++ x))) (lit< tt)
          (bytes-append t (b ++ (n ++ x)) w.bytes
          (bytes-append b (n ++ x) (bytes-le_bytes 8 (of_z w64 r.rowid))
          (bytes-append n x (bytes-le_bytes 2 (length cs)) q.bytes)))

      present-one : RecordOk at (record { row = r; payload = payload.Present count first }) end
      present-one = record {
        good = rw is_seen present-good;
        reach = rw is_seen present-reach;
        within = q.within;
        bytes = rw is_seen present-bytes;
      }

    present-ok : When (RecordOk at) (present_at s r rest)
    unfolding present_at
    present-ok =
        then-when (Num 2 s rest) (RecordOk at) (num_at 2 s rest)
        (λ count first. then (many (column_at s) count first) (λ columns end. taken (record { row = r; payload = payload.Present count first }) end)) (num-ok s sb 2 rest)
        (λ count first d p.
        then-when (Faithful (Run GoodColumn count) (all encode_column) (map (seen_column s)) s first) (RecordOk at) (many (column_at s) count first)
        (λ columns end. taken (record { row = r; payload = payload.Present count first }) end)
        (many-ok (column_at s) (seen_column s) encode_column GoodColumn s (column-ok s sb) count first p.within)
        (λ columns end e q. present-one count first columns end p e q))

    judged-ok : (op : ℕ) → When (RecordOk at) (judged_at s op r rest)
    unfolding judged_at
    judged-ok op =
        let P = When (RecordOk at) in
        pick-test P (eqb op 0) (λ e. tombstone-ok) (λ e. pick-test P (eqb op 1) (λ e. present-ok) (λ e. tt))

  row_ok : (at op named : ℕ) (t : TextPlace) (next n rest : ℕ) → Num 1 s at op named → Faithful (GoodText 2) (encode_text 2) (bytes_of s) s named t next → Num 8 s next n rest
      → Row at (record { table = t; rowid = signed n }) rest
  row_ok at op named t next n rest o p q = record {
    good = record { table = p.good; rowid = signed-fits n q.small };
    reach = omega (arith, o.reach, p.reach, q.reach);
    within = q.within;
    bytes = p.bytes;
  }

  pub record-ok : (at : ℕ) → When (RecordOk at) (record_at s at)
  unfolding record_at
  record-ok at =
      then-when (Num 1 s at) (RecordOk at) (num_at 1 s at)
      (λ op named. then (text_at 2 s named) (λ t next. then (num_at 8 s next) (λ n rest. judged_at s op (record { table = t; rowid = signed n }) rest))) (num-ok s sb 1 at)
      (λ op named d o.
      then-when (Faithful (GoodText 2) (encode_text 2) (bytes_of s) s named) (RecordOk at) (text_at 2 s named)
      (λ t next. then (num_at 8 s next) (λ n rest. judged_at s op (record { table = t; rowid = signed n }) rest)) (text-ok s sb 2 named)
      (λ t next e p.
      then-when (Num 8 s next) (RecordOk at) (num_at 8 s next) (λ n rest. judged_at s op (record { table = t; rowid = signed n }) rest) (num-ok s sb 8 next)
      (λ n rest f q. judged-ok at (record { table = t; rowid = signed n }) rest (row_ok at op named t next n rest o p q) op)))
