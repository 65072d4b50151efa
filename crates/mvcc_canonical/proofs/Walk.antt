-- The walk that sets the bools of a copy of a body's bytes makes them the bytes of its encoding. Assumes nothing.
use mathlib.Core.Path.{◌≡◌, refl, sym, ap, ◌∙◌}
use mathlib.Core.Bool.{Bool, true, false}
use mathlib.Core.List.{List, [], ◌∷◌, ◌++◌, map}
use Prim.Native.Nat.{ℕ, zero, suc, ◌+◌, ◌-◌, ◌≤◌, ◌<◌}
use native.Mathlib.Nat.{add-zero}
use native.Mathlib.Numerals.{sub-one}
use native.Mathlib.Omega.{arith}
use borrow.Author.Tests.{lt-ltb, le-ltb}
use lib.ListN.{length, take, drop, get_or, set, length-append}
use lib.Seq.{take-take}
use Rattle.std.specs.Prelude.{Result, Ok, Err, IsOk}
use Rattle.std.specs.Int.{from_bool}
use Rattle.le.specs.Choice.{pick}
use Rattle.le.specs.Le.{Bytes, field, put}
use Rattle.le.proofs.Fields.{part-part, field-one}
use Rattle.le.proofs.Stores.{put-none, put-put, put-there, length-put, drop-put, store-put, store-none, set-put}
use Rattle.mvcc.specs.Answer.{Answer, taken, refused, then, many}
use Rattle.mvcc.specs.Decode.{column_at, record_at}
use Rattle.mvcc.specs.Batch.{all, encode_column, encode_record}
use Rattle.mvcc.specs.Seen.{seen_column, seen_record}
use Rattle.mvcc.specs.declared.Value.{Value}
use Rattle.mvcc.specs.declared.Value.TheVariants as value
use Rattle.mvcc.specs.declared.Column.{Column}
use Rattle.mvcc.specs.declared.VersionPayload.{VersionPayload}
use Rattle.mvcc.specs.declared.VersionPayload.TheVariants as payload
use Rattle.mvcc.specs.declared.MvccLogRecord.{MvccLogRecord}
use Rattle.mvcc.specs.Fields.{column_answer}
use Rattle.refusal.specs.declared.Refusal.{Refusal}
use Rattle.mvcc_canonical.specs.Canonical.{answer_end, fix_all, fix_value, column_step, fix_payload, record_step, fix_record, Stands, Columns, Walk}
use Rattle.mvcc_canonical.proofs.Same.{At, at_left, patch, PayloadIs, ColumnSame, RecordSame, column-same, record_same}

-- ---- turns of a loop that counts down

-- the first of a run of things, and the rest
pub record First {A : Type 0} (f : ℕ → Answer A) (k at : ℕ) (xs : List A) (next : ℕ) : Type 0 where
  pub item : A
  pub mid : ℕ
  pub rest : List A
  pub here : f at ≡ taken item mid
  pub more : many f k mid ≡ taken rest next
  pub is : xs ≡ item ∷ rest

rest_of : {A : Type 0} (f : ℕ → Answer A) (k at : ℕ) {xs : List A} {next : ℕ} (a : A) (mid : ℕ) (y : Answer (List A)) → f at ≡ taken a mid → many f k mid ≡ y
    → then y (λ rest end. taken (a ∷ rest) end) ≡ taken xs next → First f k at xs next
rest_of f k at {xs} {next} a mid (taken rest end) p q e =
    let n : end ≡ next = cc in
    let x : xs ≡ a ∷ rest = cc in
    record { item = a; mid = mid; rest = rest; here = p; more = rw n at q; is = x }
rest_of f k at a mid (refused r) p q e = let z : ◌≡◌ {A = ℕ} 0 1 = cc in absurd (omega arith)

first-of : {A : Type 0} (f : ℕ → Answer A) (k at : ℕ) {xs : List A} {next : ℕ} (x : Answer A) → f at ≡ x
    → then x (λ a mid. then (many f k mid) (λ rest end. taken (a ∷ rest) end)) ≡ taken xs next → First f k at xs next
first-of f k at (taken a mid) p e = rest_of f k at a mid (many f k mid) p refl e
first-of f k at (refused r) p e = let z : ◌≡◌ {A = ℕ} 0 1 = cc in absurd (omega arith)

pub first : {A : Type 0} (f : ℕ → Answer A) (k at : ℕ) {xs : List A} {next : ℕ} → many f (suc k) at ≡ taken xs next → First f k at xs next
unfolding many
first f k at e = first-of f k at (f at) refl e

end-then : {A : Type 0} (a : A) (x : Answer (List A)) → answer_end (then x (λ rest end. taken (a ∷ rest) end)) ≡ answer_end x
end-then a (taken l end) = refl
end-then a (refused k) = refl

module _ {A : Type 0} (f : ℕ → Answer A) (step : A → ℕ → List ℕ → List ℕ) where
  pub end_on : (left at : ℕ) {next : ℕ} {a : A} → 0 < left → f at ≡ taken a next → answer_end (many f left at) ≡ answer_end (many f (left - 1) next)
  unfolding many
  end_on zero at h e = absurd (omega (arith, h))
  end_on (suc k) at {next} {a} h e = rw (e, sub-one) (end-then a (many f k next))

  pub end-done : (left at : ℕ) → left ≤ 0 → answer_end (many f left at) ≡ at
  unfolding many
  end-done zero at h = refl
  end-done (suc k) at h = absurd (omega (arith, h))

  pub fix-on : (left at : ℕ) (out : List ℕ) {next : ℕ} {a : A} → 0 < left → f at ≡ taken a next
      → fix_all f step left at out ≡ fix_all f step (left - 1) next (step a next out)
  unfolding fix_all
  fix-on zero at out h e = absurd (omega (arith, h))
  fix-on (suc k) at out h e = rw (e, sub-one)

  pub fix-done : (left at : ℕ) (out : List ℕ) → left ≤ 0 → fix_all f step left at out ≡ out
  unfolding fix_all
  fix-done zero at out h = refl
  fix-done (suc k) at out h = absurd (omega (arith, h))

-- ---- bytes that lie there already

-- out has the bytes of s from `at` to `next`
pub record Agree (s out : List ℕ) (at next : ℕ) : Type 0 where
  pub is : take (next - at) (drop at out) ≡ take (next - at) (drop at s)
  pub room : next ≤ length out

pub agree-front : {s out : List ℕ} {at mid next : ℕ} (xs : List ℕ) → Agree s out at next → At s at xs mid → mid ≤ next → take (length xs) (drop at out) ≡ xs
agree-front {s} {out} {at} {mid} {next} xs a p h =
    let k : length xs ≤ next - at = omega (arith, p.reach) in
    sym (take-take (length xs) (next - at) (drop at out) k) ∙ ap (take (length xs)) a.is ∙ take-take (length xs) (next - at) (drop at s) k ∙ p.is

-- in a part of the range too
pub agree-part : {s out : List ℕ} {at next : ℕ} (a e : ℕ) → Agree s out at next → at ≤ a → a ≤ e → e ≤ next → Agree s out a e
agree-part {s} {out} {at} {next} a e g h i j =
    let k : a - at + (e - a) ≤ next - at = omega arith in
    let m : at + (a - at) ≡ a = omega arith in
    let x : take (e - a) (drop (a - at) (take (next - at) (drop at out))) ≡ take (e - a) (drop a out) =
    rw m at (part-part (e - a) (a - at) (next - at) at out k) in
    let y : take (e - a) (drop (a - at) (take (next - at) (drop at s))) ≡ take (e - a) (drop a s) =
    rw m at (part-part (e - a) (a - at) (next - at) at s k) in
    record { is = sym x ∙ rw g.is y; room = omega (arith, g.room) }

-- and behind a store in front of the range
agree-put : {s out : List ℕ} {at next : ℕ} (i : ℕ) (xs : List ℕ) → Agree s out at next → i + length xs ≤ at → at ≤ next → Agree s (put out i xs) at next
agree-put {s} {out} {at} {next} i xs g h k =
    let r = g.room in
    record { is = rw (drop-put at out i xs h (omega arith)) g.is; room = rw (length-put out i xs (omega arith)) r }

put_same : (l : List ℕ) (at n : ℕ) → at + n ≤ length l → put l at (take n (drop at l)) ≡ l
put_same l at n h = rw add-zero at (put-there n l at [] (omega arith)) ∙ put-none l at

put-here : (l : List ℕ) (at : ℕ) (xs : List ℕ) → at + length xs ≤ length l → take (length xs) (drop at l) ≡ xs → put l at xs ≡ l
put-here l at xs h e = rw e at (put_same l at (length xs) h)

pub put_front : (l : List ℕ) (at mid : ℕ) (xs ys : List ℕ) → at + length xs ≡ mid → mid ≤ length l → take (length xs) (drop at l) ≡ xs → put l mid ys ≡ put l at (xs ++ ys)
put_front l at mid xs ys m h e =
    let k : at + length xs ≤ length l = omega arith in
    sym (ap (λ (x : List ℕ). put x mid ys) (put-here l at xs k e)) ∙ rw (← m) (put-put l at xs ys k)

-- ---- a run of steps

-- one step is the store of the thing's encoding
pub record Fixed (out out2 : List ℕ) (at : ℕ) (e : List ℕ) (next : ℕ) : Type 0 where
  pub is : out2 ≡ put out at e
  pub reach : at + length e ≡ next

module _ {A B : Type 0} (f : ℕ → Answer A) (see : A → B) (enc : B → List ℕ) (step : A → ℕ → List ℕ → List ℕ) (s : List ℕ)
    (far : (at : ℕ) (a : A) (next : ℕ) → f at ≡ taken a next → at + length (enc (see a)) ≡ next)
    (one : (at : ℕ) (a : A) (next : ℕ) → f at ≡ taken a next → (out : List ℕ) → Agree s out at next → step a next out ≡ put out at (enc (see a))) where
  pub run-far : (k at : ℕ) (xs : List A) (next : ℕ) → many f k at ≡ taken xs next → at + length (all enc (map see xs)) ≡ next
  unfolding many all
  run-far zero at xs next e =
      let n : at ≡ next = cc in
      let x : [] ≡ xs = cc in
      rw (← x) (omega arith)
  run-far (suc k) at xs next e =
      let p = first f k at e in
      rw (p.is, length-append) (omega (arith, far at p.item p.mid p.here, run-far k p.mid p.rest next p.more))

  run-fixed : (k at : ℕ) (xs : List A) (next : ℕ) → many f k at ≡ taken xs next → (out : List ℕ) → Agree s out at next
      → fix_all f step k at out ≡ put out at (all enc (map see xs))
  unfolding many all fix_all
  run-fixed zero at xs next e out g =
      let x : [] ≡ xs = cc in
      rw (← x) (sym (put-none out at))
  run-fixed (suc k) at xs next e out g =
      let p = first f k at e in
      let E = enc (see p.item) in
      let R = all enc (map see p.rest) in
      let m : at + length E ≡ p.mid = far at p.item p.mid p.here in
      let n : p.mid + length R ≡ next = run-far k p.mid p.rest next p.more in
      let r = g.room in
      let o : step p.item p.mid out ≡ put out at E = one at p.item p.mid p.here out (agree-part at p.mid g (omega arith) (omega arith) (omega arith)) in
      let a : Agree s (put out at E) p.mid next = agree-put at E (agree-part p.mid next g (omega arith) (omega arith) (omega arith)) (omega arith) (omega arith) in
      let i = run-fixed k p.mid p.rest next p.more (put out at E) a in
      let w : fix_all f step (suc k) at out ≡ put out at (E ++ R) = rw (p.here, o) (i ∙ rw (← m) (put-put out at E R (omega arith))) in
      w ∙ sym (ap (λ (l : List A). put out at (all enc (map see l))) p.is)

  pub run_is : (k at : ℕ) (xs : List A) (next : ℕ) → many f k at ≡ taken xs next → (out : List ℕ) → Agree s out at next
      → Fixed out (fix_all f step k at out) at (all enc (map see xs)) next
  run_is k at xs next e out g = record { is = run-fixed k at xs next e out g; reach = run-far k at xs next e }

-- ---- columns

fix_is : (v : Value) (out : List ℕ) (at next : ℕ) → at + length (patch v) ≡ next → next ≤ length out → fix_value v next out ≡ put out at (patch v)
unfolding fix_value patch
fix_is value.Null out at next e h = sym (put-none out at)
fix_is (value.Integer z) out at next e h = sym (put-none out at)
fix_is (value.Real x) out at next e h = sym (put-none out at)
fix_is (value.Nan n) out at next e h = sym (put-none out at)
fix_is (value.Text p) out at next e h = sym (put-none out at)
fix_is (value.Bool b) out at next e h =
    let k : 0 < next = omega arith in
    let i : next - 1 ≡ at = omega arith in
    rw (lt-ltb 0 next k, i) (store-put out at (pick b 1 0 ∷ []) (omega arith))
fix_is (value.Vector start n) out at next e h = sym (put-none out at)

module _ (s : List ℕ) (sb : Bytes s) where
  pub column-here : (at : ℕ) (c : Column) (next : ℕ) → column_at s at ≡ taken c next → ColumnSame s sb at c next
  column-here at c next e = rw e at (column-same s sb at)

  pub column-far : (at : ℕ) (c : Column) (next : ℕ) → column_at s at ≡ taken c next → at + length (encode_column (seen_column s c)) ≡ next
  column-far at c next e =
      let q = column-here at c next e in
      rw (q.is, length-append) (omega (arith, simp length-append at q.stands.reach, q.alike))

  pub column-one : (at : ℕ) (c : Column) (next : ℕ) → column_at s at ≡ taken c next → (out : List ℕ) → Agree s out at next
      → column_step c next out ≡ put out at (encode_column (seen_column s c))
  unfolding column_step
  column-one at c next e out g =
      let q = column-here at c next e in
      let r : at + (length q.front + length q.old) ≡ next = simp length-append at q.stands.reach in
      let t : take (length q.front) (drop at out) ≡ q.front = agree-front q.front g (at_left q.front q.old q.stands) (omega arith) in
      let w = g.room in
      fix_is c.value out (at + length q.front) next (omega (arith, q.alike)) w
      ∙ put_front out at (at + length q.front) q.front (patch c.value) refl (omega arith) t
      ∙ sym (ap (put out at) q.is)

  -- ---- records

  payload-far : (at : ℕ) (p : VersionPayload) (e : List ℕ) (next : ℕ) → PayloadIs s sb at p e next → at + length e ≡ next
  unfolding PayloadIs
  payload-far at payload.Tombstone e next h = h.stands.reach
  payload-far at (payload.Present count begin) e next h =
      rw (h.is, length-append)
      (omega (arith, h.stands.reach, run-far (column_at s) (seen_column s) encode_column column_step s column-far column-one count begin h.list next h.run))

  payload-one : (at : ℕ) (p : VersionPayload) (e : List ℕ) (next : ℕ) → PayloadIs s sb at p e next → (out : List ℕ) → Agree s out at next
      → fix_payload s p out ≡ put out at e
  unfolding PayloadIs fix_payload
  payload-one at payload.Tombstone e next h out g =
      let r = h.stands.reach in
      let w = g.room in
      sym (put-here out at e (omega arith) (agree-front e g h.stands (omega arith)))
  payload-one at (payload.Present count begin) e next h out g =
      let r = h.stands.reach in
      let w = g.room in
      let n = run-far (column_at s) (seen_column s) encode_column column_step s column-far column-one count begin h.list next h.run in
      let i = run_is (column_at s) (seen_column s) encode_column column_step s column-far column-one count begin h.list next h.run out
      (agree-part begin next g (omega arith) (omega arith) (omega arith)) in
      i.is
      ∙ put_front out at begin h.head (all encode_column (map (seen_column s) h.list)) r (omega arith) (agree-front h.head g h.stands (omega arith))
      ∙ sym (ap (put out at) h.is)

  pub record-here : (at : ℕ) (r : MvccLogRecord) (next : ℕ) → record_at s at ≡ taken r next → RecordSame s sb at r next
  record-here at r next e = rw e at (record_same s sb at)

  record-far : (at : ℕ) (r : MvccLogRecord) (next : ℕ) → record_at s at ≡ taken r next → at + length (encode_record (seen_record s r)) ≡ next
  record-far at r next e = payload-far at r.payload (encode_record (seen_record s r)) next (record-here at r next e)

  record-one : (at : ℕ) (r : MvccLogRecord) (next : ℕ) → record_at s at ≡ taken r next → (out : List ℕ) → Agree s out at next
      → record_step s r next out ≡ put out at (encode_record (seen_record s r))
  unfolding record_step
  record-one at r next e out g = payload-one at r.payload (encode_record (seen_record s r)) next (record-here at r next e) out g

  pub records_is : (k at : ℕ) (rs : List MvccLogRecord) (next : ℕ) → many (record_at s) k at ≡ taken rs next → (out : List ℕ) → Agree s out at next
      → Fixed out (fix_all (record_at s) (record_step s) k at out) at (all encode_record (map (seen_record s) rs)) next
  records_is = run_is (record_at s) (seen_record s) encode_record (record_step s) s record-far record-one

-- ---- the steps of the code

bool-byte : (b : Bool) → from_bool b ≡ pick b 1 0
bool-byte true = refl
bool-byte false = refl

module _ (out : List ℕ) (v : Value) (end : ℕ) {b : Bool} (e : v ≡ value.Bool b) where
  pub value_set : {x : ℕ} → 0 < end → end ≤ length out → x ≡ from_bool b → set out (end - 1) x ≡ fix_value v end out
  unfolding fix_value
  value_set {x} h k f =
      let i : end - 1 < length out = omega arith in
      let x1 : List ℕ = pick b 1 0 ∷ [] in
      let j : end - 1 + length x1 ≤ length out = omega arith in
      rw (e, lt-ltb 0 end h, f, bool-byte b, set-put out (end - 1) (pick b 1 0) i) (sym (store-put out (end - 1) (pick b 1 0 ∷ []) j))

  pub value-far : length out < end → out ≡ fix_value v end out
  unfolding fix_value
  value-far h =
      let k : 0 < end = omega arith in
      rw (e, lt-ltb 0 end k) (sym (store-none out (end - 1) (pick b 1 0 ∷ []) (omega arith)))

  pub value_none : end ≤ 0 → out ≡ fix_value v end out
  unfolding fix_value
  value_none h = rw (e, le-ltb 0 end h)

-- a value that is no bool, as a match tells it
pub value-other : (out : List ℕ) (v : Value) (end : ℕ) → ((b : Bool) → v ≡ value.Bool b → ⊥) → out ≡ fix_value v end out
unfolding fix_value
value-other out value.Null end k = refl
value-other out (value.Integer z) end k = refl
value-other out (value.Real x) end k = refl
value-other out (value.Nan n) end k = refl
value-other out (value.Text p) end k = refl
value-other out (value.Bool b) end k = absurd (k b refl)
value-other out (value.Vector start n) end k = refl

pub column-did : (c : Column) (next : ℕ) (m : List ℕ) {l : List ℕ} → l ≡ fix_value c.value next m → l ≡ column_step c next m
unfolding column_step
column-did c next m e = e

-- a record that stands there, by its first byte
module _ (s : List ℕ) (sb : Bytes s) (at : ℕ) (h : Stands s at) where
  abbrev n : ℕ
  n = field 2 (at + 1) s

  -- where the code looks
  pub record Found : Type 0 where
    pub byte : at + (11 + n) ≤ 4096
    pub here : at < length s
    pub table : at + 1 + 2 ≤ length s
    pub counted : (get_or s at 0 ≡ 0 → ⊥) → at + (11 + n) + 2 ≤ length s
    pub run : (get_or s at 0 ≡ 0 → ⊥) → Columns s (field 2 (at + (11 + n)) s) (at + (11 + n) + 2)
    pub none : get_or s at 0 ≡ 0 → (at + (11 + n) ≡ answer_end (record_at s at)) × ((out : List ℕ) → out ≡ fix_record s at out)
    pub some : (get_or s at 0 ≡ 0 → ⊥)
        → (answer_end (many (column_at s) (field 2 (at + (11 + n)) s) (at + (11 + n) + 2)) ≡ answer_end (record_at s at))
        × ((out : List ℕ) → fix_all (column_at s) column_step (field 2 (at + (11 + n)) s) (at + (11 + n) + 2) out ≡ fix_record s at out)

  found_in : (r : MvccLogRecord) (next : ℕ) (p : VersionPayload) (e : List ℕ) → record_at s at ≡ taken r next → r.payload ≡ p → PayloadIs s sb at p e next → Found
  unfolding PayloadIs fix_record record_step fix_payload
  found_in r next payload.Tombstone e i j q =
      let w = q.stands.within in
      let f = q.far in
      let b = h.small in
      let l : at < length s = omega arith in
      let o : get_or s at 0 ≡ 0 = sym (field-one at s l) ∙ q.op in
      record {
        byte = omega arith;
        here = l;
        table = omega arith;
        counted = λ z. absurd (z o);
        run = λ z. absurd (z o);
        none = λ z. (rw i (sym f), λ out. rw (i, j));
        some = λ z. absurd (z o);
      }
  found_in r next (payload.Present count begin) e i j q =
      let w = q.stands.within in
      let f = q.far in
      let b = h.small in
      let l : at < length s = omega arith in
      let o : get_or s at 0 ≡ 1 = sym (field-one at s l) ∙ q.op in
      record {
        byte = omega arith;
        here = l;
        table = omega arith;
        counted = λ z. omega arith;
        run = λ z. rw (← q.number, ← f) (record { list = q.list; end = next; is = q.run });
        none = λ z. absurd (omega (arith, o));
        some = λ z. (rw (i, ← q.number, ← f, q.run), λ out. rw (i, j, ← q.number, ← f));
      }

  pub found_at : Found
  found_at = found_in h.item h.next h.item.payload (encode_record (seen_record s h.item)) h.is refl (record-here s sb at h.item h.next h.is)

-- a turn of the walk over columns
answer-ok : (r : Result (Column × ℕ) Refusal) {c : Column} {next : ℕ} → column_answer r ≡ taken c next → IsOk r
answer-ok (Ok x) e = refl
answer-ok (Err k) e = let z : ◌≡◌ {A = ℕ} 0 1 = cc in absurd (omega arith)

pub column-ok : (s : List ℕ) (left at : ℕ) (r : Result (Column × ℕ) Refusal) → 0 < left → Columns s left at → column_answer r ≡ column_at s at → IsOk r
column-ok s zero at r h w e = absurd (omega (arith, h))
column-ok s (suc k) at r h w e = answer-ok r (e ∙ (first (column_at s) k at w.is).here)

pub column-on : (s : List ℕ) (left at : ℕ) {c : Column} {next : ℕ} → 0 < left → Columns s left at → column_at s at ≡ taken c next → Columns s (left - 1) next
column-on s zero at h w e = absurd (omega (arith, h))
column-on s (suc k) at {c} {next} h w e =
    let p = first (column_at s) k at w.is in
    let n : p.mid ≡ next = cc (sym p.here ∙ e) in
    rw (sub-one, ← n) (record { list = p.rest; end = w.end; is = p.more })

-- a turn of the walk over the records
pub record Turn (s : List ℕ) (left at : ℕ) : Type 0 where
  pub here : Stands s at
  pub on : Walk s (left - 1) (answer_end (record_at s at))
  pub did : (out : List ℕ) → fix_all (record_at s) (record_step s) left at out ≡ fix_all (record_at s) (record_step s) (left - 1) (answer_end (record_at s at)) (fix_record s at out)

pub turn : (s : List ℕ) (left at : ℕ) → 0 < left → Walk s left at → Turn s left at
unfolding fix_all fix_record
turn s zero at h w = absurd (omega (arith, h))
turn s (suc k) at h w =
    let p = first (record_at s) k at w.is in
    record {
      here = record { small = w.small; item = p.item; next = p.mid; is = p.here };
      on = rw (p.here, sub-one) (record { small = w.small; list = p.rest; end = w.end; is = p.more });
      did = λ out. rw (p.here, sub-one);
    }
