-- `mvcc_build::add_bool` meets its contract. Assumes nothing.
use mathlib.Core.List.{[]}
use Rattle.mvcc_build.proofs.Laws.{column-way, bool-bytes}
use Rattle.mvcc.specs.Batch.{bool}
use Rattle.mvcc_build.proofs.add_bool.Goals as goal

pub returns : goal.returns
returns c =
    let a = c.args in
    let both = column-way a.b a.body.now a.name.now 4 1 c.from.result [] (bool a.value) (bool-bytes a.value c.from.ensures) c.is_text.ensures c.add_column.ensures.value c.add_column.ensures.body_after in
    record { value = both.0; body_after = both.1 }
