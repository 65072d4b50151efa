use Rattle.std.proofs.Common.{◌+◌, ◌*◌, arith}
use Rattle.checksum.proofs.Words.{Twos, twos, fours-fit, eights-fit, word-weight, word_small}
use Rattle.checksum.proofs.weight_8.Goals as goal

pub overflow_add-fours : goal.overflow_add-fours
overflow_add-fours c =
    let known : Twos c.args.w (2 * c.low_bytes.result + c.low_bytes-2.result) =
    twos c.args.w (omega arith) c.low_bytes.ensures.0 c.low_bytes-2.ensures.0 in
    omega (arith, fours-fit (known))

pub overflow_add-eights : goal.overflow_add-eights
overflow_add-eights c =
    let known : Twos c.args.w (2 * c.low_bytes.result + c.low_bytes-2.result) =
    twos c.args.w (omega arith) c.low_bytes.ensures.0 c.low_bytes-2.ensures.0 in
    omega (arith, eights-fit (known))

pub returns : goal.returns
returns c =
    let known : Twos c.args.w (2 * c.low_bytes.result + c.low_bytes-2.result) =
    twos c.args.w (omega arith) c.low_bytes.ensures.0 c.low_bytes-2.ensures.0 in
    (word-weight (known), word_small (known))
