-- `mvcc_build::add_vector` meets its contract. Assumes nothing.
use Prim.Native.Nat.{◌/◌}
use lib.ListN.{length}
use Rattle.mvcc_build.proofs.Laws.{vector-area, vector-cut, vector-way, column-way, vector-bytes}
use Rattle.mvcc.specs.Batch.{vector}
use Rattle.mvcc_build.specs.Build.{elements}
use Rattle.mvcc_build.proofs.add_vector.Goals as goal

pub returns-then-body-ne-BATCH_BODY_SIZE : goal.returns-then-body-ne-BATCH_BODY_SIZE
returns-then-body-ne-BATCH_BODY_SIZE c =
    let a = c.args in let both = vector-area a.b a.body.now a.name.now a.bytes.now c.if-body-ne-BATCH_BODY_SIZE.true in
    record { value = both.0; body_after = both.1 }

pub returns-then-bytes-ne0 : goal.returns-then-bytes-ne0
returns-then-bytes-ne0 c =
    let a = c.args in let both = vector-cut a.b a.body.now a.name.now a.bytes.now c.if-body-ne-BATCH_BODY_SIZE.false c.if-bytes-ne0.true in
    record { value = both.0; body_after = both.1 }

pub returns : goal.returns
returns c =
    let a = c.args in
    let both = vector-way a.b a.body.now a.name.now a.bytes.now c.if-body-ne-BATCH_BODY_SIZE.false c.if-bytes-ne0.false
    (column-way a.b a.body.now a.name.now 5 4 (length a.bytes.now / 4) a.bytes.now (vector (elements a.bytes.now)) (vector-bytes a.bytes.now (λ i. (c.type_inv.bytes i).fits) c.if-bytes-ne0.false) c.is_text.ensures c.add_column.ensures.value c.add_column.ensures.body_after) in
    record { value = both.0; body_after = both.1 }
