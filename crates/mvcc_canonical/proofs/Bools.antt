-- Where no bool's byte is above 1, a body's bytes are the encoding of what they say. Assumes nothing.
use mathlib.Core.Path.{◌≡◌, refl, ◌∙◌}
use mathlib.Core.List.{List, [], map}
use mathlib.Core.Logic.{⊎_elim}
use Prim.Native.Nat.{ℕ, zero, suc, ◌+◌, ◌-◌, ◌≤◌, ◌<◌}
use native.Mathlib.Omega.{arith}
use borrow.Author.Tests.{eq-eqb}
use lib.Dec.{eqb}
use lib.ListN.{length, get_or}
use Rattle.le.specs.Choice.{pick}
use Rattle.le.specs.Le.{Bytes}
use Rattle.le.proofs.Tests.{le-or-lt}
use Rattle.mvcc.specs.Answer.{Answer, taken, many}
use Rattle.mvcc.specs.Decode.{column_at, record_at}
use Rattle.mvcc.specs.Batch.{all, encode_column, encode_record}
use Rattle.mvcc.specs.Seen.{seen_column, seen_record}
use Rattle.mvcc.specs.declared.Column.{Column}
use Rattle.mvcc.specs.declared.VersionPayload.{VersionPayload}
use Rattle.mvcc.specs.declared.VersionPayload.TheVariants as payload
use Rattle.mvcc.specs.declared.MvccLogRecord.{MvccLogRecord}
use Rattle.mvcc_canonical.specs.Canonical.{BoolsTo}
use Rattle.mvcc_canonical.proofs.Same.{At, at-append, PayloadIs}
use Rattle.mvcc_canonical.proofs.Walk.{first, column-here, record-here}

-- ---- the look at the bytes behind a bool's tag

-- one byte more
pub bools-on : (s : List ℕ) (i top : ℕ) {x new : ℕ} → 1 ≤ i → BoolsTo s i top → x ≡ pick (eqb (get_or s (i - 1) 0) 4) (get_or s i 0) 0
    → top ≤ new → x ≤ new → BoolsTo s (i + 1) new
bools-on s i top {x} {new} h p e t u k l g =
    ⊎_elim
    (λ (a : i ≤ k + 1).
    let m : k + 1 ≡ i = omega arith in
    let n : i - 1 ≡ k = omega arith in
    let v : x ≡ get_or s i 0 = e ∙ rw (n, eq-eqb _ _ g) in
    rw m (omega arith))
    (λ (a : k + 1 < i). omega (arith, p k a g))
    (le-or-lt i (k + 1))

-- of fewer bytes, and with a greater bound
pub bools-less : (s : List ℕ) (i top : ℕ) {end most : ℕ} → BoolsTo s i top → end ≤ i → top ≤ most → BoolsTo s end most
bools-less s i top p h t k l g = omega (arith, p k (omega arith) g)

-- ---- encodings that stand there

module _ {A B : Type 0} (f : ℕ → Answer A) (see : A → B) (enc : B → List ℕ) (s : List ℕ) (end : ℕ) (w : end ≤ length s)
    (one : (at : ℕ) (a : A) (next : ℕ) → f at ≡ taken a next → next ≤ end → At s at (enc (see a)) next) where
  run_at : (k at : ℕ) (xs : List A) (next : ℕ) → many f k at ≡ taken xs next → next ≤ end → At s at (all enc (map see xs)) next
  unfolding many all
  run_at zero at xs next m h =
      let n : at ≡ next = cc in
      let x : [] ≡ xs = cc in
      rw (← x) (record { is = refl; reach = omega arith; within = omega arith })
  run_at (suc k) at xs next m h =
      let p = first f k at m in
      let i = run_at k p.mid p.rest next p.more h in
      rw p.is (at-append (enc (see p.item)) (all enc (map see p.rest)) (one at p.item p.mid p.here (omega (arith, i.reach))) i)

module _ (s : List ℕ) (sb : Bytes s) (end : ℕ) (w : end ≤ length s) (f : BoolsTo s end 1) where
  column-at : (at : ℕ) (c : Column) (next : ℕ) → column_at s at ≡ taken c next → next ≤ end → At s at (encode_column (seen_column s c)) next
  column-at at c next e h =
      let q = column-here s sb at c next e in
      rw (q.is, ← q.still end h f) q.stands

  payload-at : (at : ℕ) (p : VersionPayload) (e : List ℕ) (next : ℕ) → PayloadIs s sb at p e next → next ≤ end → At s at e next
  unfolding PayloadIs
  payload-at at payload.Tombstone e next q h = q.stands
  payload-at at (payload.Present count begin) e next q h =
      rw q.is
      (at-append q.head (all encode_column (map (seen_column s) q.list)) q.stands
      (run_at (column_at s) (seen_column s) encode_column s end w column-at count begin q.list next q.run h))

  record-at : (at : ℕ) (r : MvccLogRecord) (next : ℕ) → record_at s at ≡ taken r next → next ≤ end → At s at (encode_record (seen_record s r)) next
  record-at at r next e h = payload-at at r.payload (encode_record (seen_record s r)) next (record-here s sb at r next e) h

  pub records-at : (k at : ℕ) (rs : List MvccLogRecord) (next : ℕ) → many (record_at s) k at ≡ taken rs next → next ≤ end
      → At s at (all encode_record (map (seen_record s) rs)) next
  records-at = run_at (record_at s) (seen_record s) encode_record s end w record-at
