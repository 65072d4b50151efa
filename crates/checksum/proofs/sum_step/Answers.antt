use Rattle.std.proofs.Common.{◌≡◌, ◌∙◌, arith}
use Rattle.checksum.proofs.sum_step.Goals as goal
use Rattle.checksum.specs.Checksum.{rotated}
use Rattle.checksum.proofs.Blocks.{rotate_left-rotated_by}

pub returns : goal.returns
returns c =
    let e : c.rotate_left.result ≡ rotated c.args.sum = c.rotate_left.ensures ∙ rotate_left-rotated_by 1 c.args.sum (omega arith) (omega arith) in
    rw (e, c.from.ensures)
