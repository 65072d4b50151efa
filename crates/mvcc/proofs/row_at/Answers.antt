use Rattle.mvcc.proofs.Laws.{cast-signed}
use Rattle.mvcc.specs.Parts.{row_at}
use Rattle.mvcc.proofs.row_at.Goals as goal

pub returns : goal.returns
unfolding row_at
returns c =
    let f = c.cast_signed-rowid in
    rw (← c.in_ok-op.ensures, ← c.in_ok-table.ensures, ← c.in_ok-n.ensures, cast-signed c.in_ok-n.n (record { sfits = f.type_inv }) f.ensures)
