-- `mvcc_build::put_column` meets its contract. Assumes nothing.
use Rattle.mvcc_build.proofs.Laws.{column-stored}
use native.Mathlib.Omega.{arith}
use Rattle.mvcc_build.proofs.put_column.Goals as goal

pub returns : goal.returns
returns c =
    let a = c.args in
    column-stored a.body.now a.at c.requires.0 a.name.now a.tag a.k a.v (omega arith) c.put_text.ensures c.put_number.ensures a.bytes.now c.requires.1 c.put_bytes.ensures
