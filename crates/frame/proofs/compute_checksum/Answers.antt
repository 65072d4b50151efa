use Rattle.frame.proofs.Places.{checksum-there}
use Rattle.frame.proofs.compute_checksum.Goals as goal

pub returns : goal.returns
returns c =
    let a = c.args in
    checksum-there a.at a.log.now (rw c.part.ensures at c.sum_over-sum.ensures)
    (rw c.frame_body.ensures at c.sum_over.ensures)
