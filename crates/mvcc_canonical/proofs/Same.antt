-- The bytes of what was decoded: those that it was read from, but for a bool's. Assumes nothing.
use mathlib.Core.Path.{◌≡◌, refl, sym, ap, ◌∙◌}
use mathlib.Core.Bool.{Bool, true, false, not}
use mathlib.Core.List.{List, [], ◌∷◌, ◌++◌, map, append_assoc, append-nil}
use mathlib.Core.Logic.{⊎_elim}
use Prim.Native.Nat.{ℕ, zero, suc, ◌+◌, ◌*◌, ◌%◌, ◌^◌, ◌≤◌, ◌<◌}
use native.Mathlib.Omega.{arith}
use borrow.Author.Tests.{leb-true, eqb-true, lt-ltb, le-ltb}
use lib.Dec.{eqb}
use lib.ListN.{length, take, drop, get_or, length-append, length-take, length-drop, length-map}
use lib.Seq.{take-add, drop-drop, take-take, take-append_seam}
use lib.Ieee.{binary64, nan_bits, of_bits}
use mir.Val.{of_z}
use mir.Syntax.{w64}
use Rattle.le.specs.Choice.{pick}
use Rattle.le.specs.Le.{Bytes, le_of, le_bytes, field}
use Rattle.le.proofs.Tests.{le-or-lt}
use Rattle.le.proofs.Fields.{field-one, length-le_bytes, le_bytes-field}
use Rattle.text.specs.Utf8.{well_formed}
use Rattle.mvcc.specs.Answer.{Answer, taken, refused, then, many}
use Rattle.mvcc.specs.Decode.{fits_in, num_at, place_of, text_of, text_at, signed, real_of, integer_at, real_at, text_value_at, bool_at, vector_at, tagged_at, value_at, column_at, present_at, judged_at, record_at}
use Rattle.mvcc.specs.Batch.{all, encode_text, encode_value, encode_column, encode_record}
use Rattle.mvcc.specs.Seen.{bytes_of, seen, seen_column, seen_row, seen_record}
use Rattle.mvcc.specs.declared.TextPlace.{TextPlace}
use Rattle.mvcc.specs.declared.Value.{Value}
use Rattle.mvcc.specs.declared.Value.TheVariants as value
use Rattle.mvcc.specs.declared.Column.{Column}
use Rattle.mvcc.specs.declared.RowID.{RowID}
use Rattle.mvcc.specs.declared.VersionPayload.{VersionPayload}
use Rattle.mvcc.specs.declared.VersionPayload.TheVariants as payload
use Rattle.mvcc.specs.declared.MvccLogRecord.{MvccLogRecord}
use Rattle.refusal.specs.declared.Refusal.TheVariants.{Truncated}
use Rattle.mvcc.proofs.Trip.{real-seen}
use Rattle.mvcc.proofs.Bytes.{field-small}
use Rattle.mvcc.proofs.Sound.{When, then-when, pick-test, words-length}
use Rattle.mvcc_build.proofs.Laws.{words-bytes}
use Rattle.mvcc_canonical.specs.Canonical.{BoolsTo}

-- ---- bytes at a place

-- bs stand in s from `at` to `next`
pub record At (s : List ℕ) (at : ℕ) (bs : List ℕ) (next : ℕ) : Type 0 where
  pub is : take (length bs) (drop at s) ≡ bs
  pub reach : at + length bs ≡ next
  pub within : next ≤ length s

pub at-append : {s : List ℕ} {at mid next : ℕ} (xs ys : List ℕ) → At s at xs mid → At s mid ys next → At s at (xs ++ ys) next
at-append {s} {at} {mid} xs ys p q =
    let d : drop (length xs) (drop at s) ≡ drop mid s = drop-drop (length xs) at s ∙ ap (λ (k : ℕ). drop k s) p.reach in
    record {
      is = rw (length-append, take-add (length xs) (length ys) (drop at s), d, p.is, q.is);
      reach = rw length-append (omega (arith, p.reach, q.reach));
      within = q.within;
    }

pub at_left : {s : List ℕ} {at next : ℕ} (xs ys : List ℕ) → At s at (xs ++ ys) next → At s at xs (at + length xs)
at_left {s} {at} {next} xs ys p =
    let n : length (xs ++ ys) ≡ length xs + length ys = length-append xs ys in
    let h : length xs ≤ length (xs ++ ys) = omega arith in
    record {
      is = sym (take-take (length xs) (length (xs ++ ys)) (drop at s) h) ∙ rw p.is (take-append_seam xs ys);
      reach = refl;
      within = omega (arith, p.reach, p.within);
    }

-- a part of s
part_at : (s : List ℕ) (at n : ℕ) → at + n ≤ length s → At s at (take n (drop at s)) (at + n)
part_at s at n h =
    let e : length (take n (drop at s)) ≡ n = simp (length-take, length-drop) (omega arith) in
    record { is = rw e; reach = rw e; within = h }

-- one byte
byte_at : {s : List ℕ} {at b next : ℕ} → At s at (b ∷ []) next → get_or s at 0 ≡ b
unfolding le_of
byte_at {s} {at} p =
    let h : at < length s = omega (arith, p.reach, p.within) in
    sym (field-one at s h) ∙ rw p.is (omega arith)

any : {A : Type 0} (x : Answer A) → When (λ (a : A) (next : ℕ). Unit) x
any (taken a next) = tt
any (refused k) = tt

-- as many things as were asked for
many-count : {A : Type 0} (f : ℕ → Answer A) (k at : ℕ) → When (λ (xs : List A) (end : ℕ). length xs ≡ k) (many f k at)
unfolding many
many-count f zero at = refl
many-count {A} f (suc k) at =
    then-when (λ (a : A) (next : ℕ). Unit) (λ (xs : List A) (end : ℕ). length xs ≡ suc k) (f at)
    (λ a next. then (many f k next) (λ rest end. taken (a ∷ rest) end)) (any (f at))
    (λ a next e p.
    then-when (λ (xs : List A) (end : ℕ). length xs ≡ k) (λ (xs : List A) (end : ℕ). length xs ≡ suc k) (many f k next)
    (λ rest end. taken (a ∷ rest) end) (many-count f k next) (λ rest end g q. ap suc q))

-- what a bool's byte becomes
unfoldable pub patch : Value → List ℕ
patch value.Null = []
patch (value.Integer z) = []
patch (value.Real x) = []
patch (value.Nan n) = []
patch (value.Text p) = []
patch (value.Bool b) = pick b 1 0 ∷ []
patch (value.Vector start n) = []

-- 0 and 1 are written as they came
bool-still : (n : ℕ) → n ≤ 1 → n ≡ pick (not (eqb n 0)) 1 0
bool-still zero h = refl
bool-still (suc zero) h = refl
bool-still (suc (suc k)) h = absurd (omega (arith, h))

-- ---- numbers and texts

module _ (s : List ℕ) (sb : Bytes s) where
  pub field_at : (k at : ℕ) → at + k ≤ length s → At s at (le_bytes k (field k at s)) (at + k)
  field_at k at h = rw (le_bytes-field k at s sb h) (part_at s at k h)

  record Num (k at n next : ℕ) : Type 0 where
    small : n < 256 ^ k
    number : n ≡ field k at s
    stands : At s at (le_bytes k n) next

  num-same : (k at : ℕ) → When (Num k at) (num_at k s at)
  unfolding num_at
  num-same k at =
      pick-test (When (Num k at)) (fits_in s at k)
      (λ e. let h : at + k ≤ length s = leb-true _ _ e in
      record { small = field-small k at s sb; number = refl; stands = field_at k at h })
      (λ e. tt)

  record Txt (k at : ℕ) (p : TextPlace) (next : ℕ) : Type 0 where
    stands : At s at (encode_text k (bytes_of s p)) next
    far : next ≡ at + (k + field k at s)

  txt-good : (k at n next : ℕ) → Num k at n next → next + n ≤ length s → Txt k at (place_of s next n) (next + n)
  unfolding encode_text
  txt-good k at n next p h =
      let e : length (take n (drop next s)) ≡ n = simp (length-take, length-drop) (omega arith) in
      let l = length-le_bytes k n in
      record {
        stands = rw e (at-append (le_bytes k n) (take n (drop next s)) p.stands (part_at s next n h));
        far = rw (← p.number) (omega (arith, p.stands.reach));
      }

  txt-same : (k at : ℕ) → When (Txt k at) (text_at k s at)
  unfolding text_at text_of
  txt-same k at =
      then-when (Num k at) (Txt k at) (num_at k s at) (λ n next. text_of s next n) (num-same k at)
      (λ n next e p.
      pick-test (When (Txt k at)) (fits_in s next n)
      (λ r. pick-test (When (Txt k at)) (well_formed (take n (drop next s))) (λ w. txt-good k at n next p (leb-true _ _ r)) (λ w. tt))
      (λ r. tt))

  -- one byte
  byte-same : {at n next : ℕ} → Num 1 at n next → At s at (n ∷ []) next
  unfolding le_bytes
  byte-same {at} {n} p = let e : n % 256 ≡ n = omega (arith, p.small) in rw e at p.stands

  -- ---- values

  bool-low : {at next n end last : ℕ} → At s at (4 ∷ []) next → At s next (n ∷ []) end → end ≤ last → BoolsTo s last 1 → n ≤ 1
  bool-low {at} {next} t p h f =
      let k : at + 1 ≡ next = t.reach in
      let l : get_or s next 0 ≤ 1 = rw k at (f at (omega (arith, p.reach)) (byte_at t)) in
      rw (byte_at p) at l

  -- e is what stands at `at`, but for the patch of v at its end, which is what stands there too where no bool is above 1
  pub record Patched (at : ℕ) (e : List ℕ) (v : Value) (next : ℕ) : Type 0 where
    pub front : List ℕ
    pub old : List ℕ
    pub stands : At s at (front ++ old) next
    pub alike : length old ≡ length (patch v)
    pub is : e ≡ front ++ patch v
    pub still : (end : ℕ) → next ≤ end → BoolsTo s end 1 → old ≡ patch v

  plain : {at : ℕ} (e : List ℕ) (v : Value) {next : ℕ} → patch v ≡ [] → At s at e next → Patched at e v next
  plain e v o p = record { front = e; old = []; stands = rw append-nil p; alike = rw o; is = rw (o, append-nil); still = λ end h f. sym o }

  patched-behind : {at mid next : ℕ} (xs e : List ℕ) (v : Value) → At s at xs mid → Patched mid e v next → Patched at (xs ++ e) v next
  patched-behind xs e v p q = record {
    front = xs ++ q.front;
    old = q.old;
    stands = rw append_assoc (at-append xs (q.front ++ q.old) p q.stands);
    alike = q.alike;
    is = rw q.is (sym (append_assoc xs q.front (patch v)));
    still = q.still;
  }

  unsigned_signed : (n : ℕ) → n < 256 ^ 8 → of_z w64 (signed n) ≡ n
  unfolding signed
  unsigned_signed n h =
      ⊎_elim (λ (a : 2 ^ 63 ≤ n). rw (le-ltb n (2 ^ 63) a) (omega arith)) (λ (a : n < 2 ^ 63). rw (lt-ltb n (2 ^ 63) a)) (le-or-lt (2 ^ 63) n)

  no-patch-in : (n : ℕ) (b : Bool) → patch (pick b (value.Nan n) (value.Real (of_bits binary64 n))) ≡ []
  unfolding patch
  no-patch-in n true = refl
  no-patch-in n false = refl

  no-patch : (n : ℕ) → patch (real_of n) ≡ []
  unfolding real_of
  no-patch n = no-patch-in n (nan_bits binary64 n)

  abbrev Same : ℕ → Value → ℕ → Type 0
  Same at v next = Patched at (encode_value (seen s v)) v next

  module _ (at next : ℕ) where
    null-same : At s at (0 ∷ []) next → Same at value.Null next
    unfolding seen encode_value patch
    null-same t = plain (0 ∷ []) value.Null refl t

    integer-same : At s at (1 ∷ []) next → When (Same at) (integer_at s next)
    unfolding integer_at seen encode_value patch
    integer-same t =
        then-when (Num 8 next) (Same at) (num_at 8 s next) (λ n end. taken (value.Integer (signed n)) end) (num-same 8 next)
        (λ n end e p. rw (unsigned_signed n p.small)
        (plain (1 ∷ le_bytes 8 n) (value.Integer (signed n)) refl (at-append (1 ∷ []) (le_bytes 8 n) t p.stands)))

    real_same : At s at (2 ∷ []) next → When (Same at) (real_at s next)
    unfolding real_at encode_value
    real_same t =
        then-when (Num 8 next) (Same at) (num_at 8 s next) (λ n end. taken (real_of n) end) (num-same 8 next)
        (λ n end e p. rw (real-seen s n p.small)
        (plain (2 ∷ le_bytes 8 n) (real_of n) (no-patch n) (at-append (2 ∷ []) (le_bytes 8 n) t p.stands)))

    text_value-same : At s at (3 ∷ []) next → When (Same at) (text_value_at s next)
    unfolding text_value_at seen encode_value patch
    text_value-same t =
        then-when (Txt 4 next) (Same at) (text_at 4 s next) (λ place end. taken (value.Text place) end) (txt-same 4 next)
        (λ place end e p.
        plain (3 ∷ encode_text 4 (bytes_of s place)) (value.Text place) refl (at-append (3 ∷ []) (encode_text 4 (bytes_of s place)) t p.stands))

    bool_same : At s at (4 ∷ []) next → When (Same at) (bool_at s next)
    unfolding bool_at seen encode_value patch
    bool_same t =
        then-when (Num 1 next) (Same at) (num_at 1 s next) (λ n end. taken (value.Bool (not (eqb n 0))) end) (num-same 1 next)
        (λ n end e p. record {
          front = 4 ∷ [];
          old = n ∷ [];
          stands = at-append (4 ∷ []) (n ∷ []) t (byte-same p);
          alike = refl;
          is = refl;
          still = λ last h f. ap (λ (x : ℕ). x ∷ []) (bool-still n (bool-low t (byte-same p) h f));
        })

    vector-good : At s at (5 ∷ []) next → (n start : ℕ) → Num 4 next n start → start + n * 4 ≤ length s → Same at (value.Vector start n) (start + n * 4)
    unfolding seen encode_value patch
    vector-good t n start p h =
        rw (words-length s sb n start, words-bytes s sb n start h)
        (plain (5 ∷ (le_bytes 4 n ++ take (n * 4) (drop start s))) (value.Vector start n) refl
        (at-append (5 ∷ []) (le_bytes 4 n ++ take (n * 4) (drop start s)) t
        (at-append (le_bytes 4 n) (take (n * 4) (drop start s)) p.stands (part_at s start (n * 4) h))))

    vector-same : At s at (5 ∷ []) next → When (Same at) (vector_at s next)
    unfolding vector_at
    vector-same t =
        then-when (Num 4 next) (Same at) (num_at 4 s next)
        (λ n start. pick (fits_in s start (n * 4)) (taken (value.Vector start n) (start + n * 4)) (refused Truncated)) (num-same 4 next)
        (λ n start e p. pick-test (When (Same at)) (fits_in s start (n * 4)) (λ r. vector-good t n start p (leb-true _ _ r)) (λ r. tt))

    tagged-same : (tag : ℕ) → At s at (tag ∷ []) next → When (Same at) (tagged_at s tag next)
    unfolding tagged_at
    tagged-same tag t =
        let P = When (Same at) in
        pick-test P (eqb tag 0) (λ e. null-same (rw (eqb-true tag 0 e) at t)) (λ e.
        pick-test P (eqb tag 1) (λ e. integer-same (rw (eqb-true tag 1 e) at t)) (λ e.
        pick-test P (eqb tag 2) (λ e. real_same (rw (eqb-true tag 2 e) at t)) (λ e.
        pick-test P (eqb tag 3) (λ e. text_value-same (rw (eqb-true tag 3 e) at t)) (λ e.
        pick-test P (eqb tag 4) (λ e. bool_same (rw (eqb-true tag 4 e) at t)) (λ e.
        pick-test P (eqb tag 5) (λ e. vector-same (rw (eqb-true tag 5 e) at t)) (λ e. tt))))))

  value_same : (at : ℕ) → When (Same at) (value_at s at)
  unfolding value_at
  value_same at =
      then-when (Num 1 at) (Same at) (num_at 1 s at) (λ tag next. tagged_at s tag next) (num-same 1 at)
      (λ tag next e p. tagged-same at next tag (byte-same p))

  -- ---- columns

  abbrev pub ColumnSame : ℕ → Column → ℕ → Type 0
  ColumnSame at c next = Patched at (encode_column (seen_column s c)) c.value next

  pub column-same : (at : ℕ) → When (ColumnSame at) (column_at s at)
  unfolding column_at seen_column encode_column
  column-same at =
      then-when (Txt 2 at) (ColumnSame at) (text_at 2 s at)
      (λ n next. then (value_at s next) (λ v end. taken (record { name = n; value = v }) end)) (txt-same 2 at)
      (λ n next e p.
      then-when (Same next) (ColumnSame at) (value_at s next) (λ v end. taken (record { name = n; value = v }) end) (value_same next)
      (λ v end f q. patched-behind (encode_text 2 (bytes_of s n)) (encode_value (seen s v)) v p.stands q))

  -- ---- records

  -- a tombstone, and how the code finds its end
  pub record Tomb (at : ℕ) (e : List ℕ) (next : ℕ) : Type 0 where
    pub op : field 1 at s ≡ 0
    pub far : next ≡ at + (11 + field 2 (at + 1) s)
    pub stands : At s at e next

  -- a present record, and how the code finds its columns
  pub record Pres (at count first : ℕ) (e : List ℕ) (next : ℕ) : Type 0 where
    pub op : field 1 at s ≡ 1
    pub far : first ≡ at + (11 + field 2 (at + 1) s) + 2
    pub number : count ≡ field 2 (at + (11 + field 2 (at + 1) s)) s
    pub head : List ℕ
    pub stands : At s at head first
    pub list : List Column
    pub run : many (column_at s) count first ≡ taken list next
    pub is : e ≡ head ++ all encode_column (map (seen_column s) list)

  unfoldable pub PayloadIs : ℕ → VersionPayload → List ℕ → ℕ → Type 0
  PayloadIs at payload.Tombstone e next = Tomb at e next
  PayloadIs at (payload.Present count first) e next = Pres at count first e next

  abbrev pub RecordSame : ℕ → MvccLogRecord → ℕ → Type 0
  RecordSame at r next = PayloadIs at r.payload (encode_record (seen_record s r)) next

  module _ (at op named : ℕ) (o : Num 1 at op named) (t : TextPlace) (next : ℕ) (p : Txt 2 named t next) (n rest : ℕ) (q : Num 8 next n rest) where
    abbrev row : RowID
    row = record { table = t; rowid = signed n }

    abbrev T : List ℕ
    T = encode_text 2 (bytes_of s t)

    abbrev far-is : rest ≡ at + (11 + field 2 (at + 1) s)
    far-is =
        let e : at + 1 ≡ named = rw (length-le_bytes 1 op) at o.stands.reach in
        let l = length-le_bytes 8 n in
        omega (arith, rw (← e) at p.far, q.stands.reach)

    tomb-same : op ≡ 0 → RecordSame at (record { row = row; payload = payload.Tombstone }) rest
    unfolding PayloadIs seen_record seen_row encode_record
    tomb-same z = record {
      op = sym o.number ∙ z;
      far = far-is;
      stands = rw (unsigned_signed n q.small)
          (at-append (0 ∷ []) (T ++ le_bytes 8 n) (rw z at (byte-same o)) (at-append T (le_bytes 8 n) p.stands q.stands));
    }

    module _ (z : op ≡ 1) where
      pres-same : (count first : ℕ) → Num 2 rest count first → (cs : List Column) (end : ℕ) → many (column_at s) count first ≡ taken cs end
          → length (map (seen_column s) cs) ≡ count
          → RecordSame at (record { row = row; payload = payload.Present count first }) end
      unfolding PayloadIs seen_record seen_row encode_record
      pres-same count first k cs end m c =
          let W = le_bytes 8 n in
          let C = le_bytes 2 count in
          record {
            op = sym o.number ∙ z;
            far = omega (arith, far-is, k.stands.reach, length-le_bytes 2 count);
            number = k.number ∙ ap (λ (x : ℕ). field 2 x s) far-is;
            head = 1 ∷ (T ++ (W ++ C));
            stands = at-append (1 ∷ []) (T ++ (W ++ C)) (rw z at (byte-same o))
                (at-append T (W ++ C) p.stands (at-append W C q.stands k.stands));
            list = cs;
            run = m;
            is = rw (m, unsigned_signed n q.small, c) (simp append_assoc);
          }

      present-same : When (RecordSame at) (present_at s row rest)
      unfolding present_at
      present-same =
          then-when (Num 2 rest) (RecordSame at) (num_at 2 s rest)
          (λ count first. then (many (column_at s) count first) (λ columns end. taken (record { row = row; payload = payload.Present count first }) end)) (num-same 2 rest)
          (λ count first d k.
          then-when (λ (cs : List Column) (end : ℕ). length cs ≡ count) (RecordSame at) (many (column_at s) count first)
          (λ columns end. taken (record { row = row; payload = payload.Present count first }) end)
          (many-count (column_at s) count first)
          (λ columns end e c. pres-same count first k columns end e (length-map columns (seen_column s) ∙ c)))

    judged-same : When (RecordSame at) (judged_at s op row rest)
    unfolding judged_at
    judged-same =
        let P = When (RecordSame at) in
        pick-test P (eqb op 0) (λ e. tomb-same (eqb-true op 0 e)) (λ e. pick-test P (eqb op 1) (λ z. present-same (eqb-true op 1 z)) (λ z. tt))

  pub record_same : (at : ℕ) → When (RecordSame at) (record_at s at)
  unfolding record_at
  record_same at =
      then-when (Num 1 at) (RecordSame at) (num_at 1 s at)
      (λ op named. then (text_at 2 s named) (λ t next. then (num_at 8 s next) (λ n rest. judged_at s op (record { table = t; rowid = signed n }) rest))) (num-same 1 at)
      (λ op named d o.
      then-when (Txt 2 named) (RecordSame at) (text_at 2 s named)
      (λ t next. then (num_at 8 s next) (λ n rest. judged_at s op (record { table = t; rowid = signed n }) rest)) (txt-same 2 named)
      (λ t next e p.
      then-when (Num 8 next) (RecordSame at) (num_at 8 s next) (λ n rest. judged_at s op (record { table = t; rowid = signed n }) rest) (num-same 8 next)
      (λ n rest f q. judged-same at op named o t next p n rest q)))
