-- `mvcc_build::add_null` meets its contract. Assumes nothing.
use mathlib.Core.List.{[]}
use Rattle.mvcc_build.proofs.Laws.{column-way, null-bytes}
use Rattle.mvcc.specs.Batch.{null}
use Rattle.mvcc_build.proofs.add_null.Goals as goal

pub returns : goal.returns
returns c =
    let a = c.args in
    let both = column-way a.b a.body.now a.name.now 0 0 0 [] null null-bytes c.is_text.ensures c.add_column.ensures.value c.add_column.ensures.body_after in
    record { value = both.0; body_after = both.1 }
