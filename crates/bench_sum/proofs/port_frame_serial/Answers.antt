use Rattle.frame.proofs.Places.{checksum-there}
use Rattle.bench_sum.proofs.port_frame_serial.Goals as goal

pub returns : goal.returns
returns c =
    checksum-there 0 c.args.log.now (rw c.part.ensures at c.sum_serial-sum.ensures)
    (rw c.frame_body.ensures at c.sum_serial.ensures)
