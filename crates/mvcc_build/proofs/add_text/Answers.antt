-- `mvcc_build::add_text` meets its contract. Assumes nothing.
use lib.ListN.{length}
use Rattle.mvcc_build.proofs.Laws.{column-way, text-bytes}
use Rattle.mvcc_build.proofs.Words.{both-tested}
use Rattle.mvcc.specs.Batch.{text}
use Rattle.mvcc_build.proofs.add_text.Goals as goal

pub returns : goal.returns
returns c =
    let a = c.args in
    let both = column-way a.b a.body.now a.name.now 3 4 (length a.value.now) a.value.now (text a.value.now) (text-bytes a.value.now) (both-tested c.is_text.ensures c.is_text-2.ensures) c.add_column.ensures.value c.add_column.ensures.body_after in
    record { value = both.0; body_after = both.1 }
