use Rattle.mvcc.proofs.Laws.{cast-signed}
use Rattle.mvcc.specs.Decode.{integer_at}
use Rattle.mvcc.proofs.integer_at.Goals as goal

pub returns : goal.returns
unfolding integer_at
returns c =
    let f = c.cast_signed in
    rw (← c.in_ok-n.ensures, cast-signed c.in_ok-n.n (record { sfits = f.type_inv }) f.ensures)
