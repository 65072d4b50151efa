-- `mvcc_build::add_real_bits` meets its contract. Assumes nothing.
use mathlib.Core.List.{[]}
use Rattle.mvcc_build.proofs.Laws.{column-way, real-bytes}
use Rattle.mvcc.specs.Batch.{real}
use Rattle.mvcc_build.proofs.add_real_bits.Goals as goal

pub returns : goal.returns
returns c =
    let a = c.args in
    let both = column-way a.b a.body.now a.name.now 2 8 a.bits [] (real a.bits) (real-bytes a.bits) c.is_text.ensures c.add_column.ensures.value c.add_column.ensures.body_after in
    record { value = both.0; body_after = both.1 }
