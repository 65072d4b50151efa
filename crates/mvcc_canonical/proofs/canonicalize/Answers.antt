-- `mvcc_canonical::canonicalize` meets its contract. Assumes nothing.
use native.Mathlib.Omega.{arith}
use mathlib.Core.Path.{◌≡◌, sym, ◌∙◌}
use mathlib.Core.List.{List}
use Prim.Native.Nat.{ℕ, ◌-◌, ◌≤◌}
use lib.ListN.{length, take, replicate}
use Rattle.std.specs.Prelude.{Result, Ok, Err}
use Rattle.std.proofs.lemmas.Result.{err_from_is_err_and}
use Rattle.refusal.specs.declared.Refusal.{Refusal}
use Rattle.refusal.specs.declared.Refusal.TheVariants.{Area}
use Rattle.le.specs.Le.{Bytes, store}
use Rattle.mvcc.specs.Decode.{batch_of}
use Rattle.mvcc.specs.declared.MvccCommitBatch.{MvccCommitBatch}
use Rattle.mvcc.proofs.Parts.{report-answer}
use Rattle.mvcc_canonical.proofs.Whole.{Decoded, Copy, count-is, end_is, fits, walk, copied, whole, copy_is, Says, way_out, way_long, way-refused, way-done}
use Rattle.mvcc_canonical.proofs.canonicalize.Goals as goal
use Rattle.mvcc_canonical.proofs.canonicalize.Goals.{then-out-ne-BATCH_BODY_SIZE-via-then-out-ne-BATCH_BODY_SIZE, then-out-ne-BATCH_BODY_SIZE-via-else-out-ne-BATCH_BODY_SIZE+then-body-gt-BATCH_BODY_SIZE}

pub returns-then-out-ne-BATCH_BODY_SIZE : goal.returns-then-out-ne-BATCH_BODY_SIZE
returns-then-out-ne-BATCH_BODY_SIZE c =
    let s = c.args.body.now in
    let out = c.args.out.now in
    let both : Says s out (Err Area) out = elim c.then-out-ne-BATCH_BODY_SIZE.branch [
      | then-out-ne-BATCH_BODY_SIZE-via-then-out-ne-BATCH_BODY_SIZE w ↦ way_out s out w.if-out-ne-BATCH_BODY_SIZE.true
      | then-out-ne-BATCH_BODY_SIZE-via-else-out-ne-BATCH_BODY_SIZE+then-body-gt-BATCH_BODY_SIZE w ↦
          way_long s out w.if-out-ne-BATCH_BODY_SIZE.false w.if-body-gt-BATCH_BODY_SIZE.true
    ] in
    record { value = both.0; out_after = both.1 }

pub returns-in_err-batch : goal.returns-in_err-batch
returns-in_err-batch c =
    let a = c.args in
    let p = err_from_is_err_and c.from_residual.result c.from_residual.ensures.1 in
    let e = report-answer a.body.now c.decode.ensures.value in
    let both = way-refused a.body.now a.out.now c.if-out-ne-BATCH_BODY_SIZE.false c.if-body-gt-BATCH_BODY_SIZE.false (rw c.in_err-batch.was at e) in
    record { value = rw (p.1, p.2) both.0; out_after = both.1 }

-- the body, once it is decoded
known : (s : List ℕ) {d : Result MvccCommitBatch Refusal} {b : MvccCommitBatch} → Bytes s → length s ≤ 4096 → d ≡ batch_of s → d ≡ Ok b → Decoded s b
known s sb m e f = record { bytes = sb; small = m; is = sym e ∙ f }

pub overflow_sub-end : goal.overflow_sub-end
overflow_sub-end c =
    let s = c.args.body.now in
    let k = known s (λ i. (c.type_inv.body i).fits) c.if-body-gt-BATCH_BODY_SIZE.false (report-answer s c.decode.ensures.value) c.in_ok-batch.was in
    let f = fits s k in
    let h = k.small in
    rw (end_is s k) (omega arith)

pub top_bool-requires : goal.top_bool-requires
top_bool-requires c =
    let s = c.args.body.now in
    let k = known s (λ i. (c.type_inv.body i).fits) c.if-body-gt-BATCH_BODY_SIZE.false (report-answer s c.decode.ensures.value) c.in_ok-batch.was in
    rw (end_is s k) (fits s k)

-- what both stores leave
laid : (s : List ℕ) {b : MvccCommitBatch} (k : Decoded s b) (out : List ℕ) {p c1 c2 : List ℕ} → length out ≡ 4096 → p ≡ take b.end s → c1 ≡ store out 0 p
    → c2 ≡ store c1 b.end (replicate (4096 - b.end) 0) → c2 ≡ Copy s k
laid s k out full ep e1 e2 =
    let e = end_is s k in
    copied s k out full (rw (ep, e) at e1) (rw e at e2)

pub returns-then-top_bool-le1 : goal.returns-then-top_bool-le1
returns-then-top_bool-le1 c =
    let a = c.args in
    let s = a.body.now in
    let full = c.if-out-ne-BATCH_BODY_SIZE.false in
    let k = known s (λ i. (c.type_inv.body i).fits) c.if-body-gt-BATCH_BODY_SIZE.false (report-answer s c.decode.ensures.value) c.in_ok-batch.was in
    let l = laid s k a.out.now full c.part.ensures c.write_bytes.ensures.1 c.write_zeros.ensures.1 in
    let both = way-done s a.out.now full k (copy_is s k l c.top_bool.ensures c.if-top_bool-le1.true) in
    record { value = both.0; out_after = both.1 }

pub fix_records-requires : goal.fix_records-requires
fix_records-requires c =
    let s = c.args.body.now in
    let k = known s (λ i. (c.type_inv.body i).fits) c.if-body-gt-BATCH_BODY_SIZE.false (report-answer s c.decode.ensures.value) c.in_ok-batch.was in
    rw (count-is s k) (walk s k)

pub returns : goal.returns
returns c =
    let a = c.args in
    let s = a.body.now in
    let full = c.if-out-ne-BATCH_BODY_SIZE.false in
    let k = known s (λ i. (c.type_inv.body i).fits) c.if-body-gt-BATCH_BODY_SIZE.false (report-answer s c.decode.ensures.value) c.in_ok-batch.was in
    let l = laid s k a.out.now full c.part.ensures c.write_bytes.ensures.1 c.write_zeros.ensures.1 in
    let both = way-done s a.out.now full k (whole s k (rw (count-is s k, l) at c.fix_records.ensures)) in
    record { value = both.0; out_after = both.1 }
