use Rattle.std.proofs.Common.{◌≡◌, ◌+◌, ◌^◌, ◌<◌, sym, refl, ◌∙◌, arith, leb-false, rules}
use Rattle.checksum.proofs.Blocks.{rotate_left-rotated_by, block-summed}
use Rattle.checksum.proofs.Words.{weight-word}
use Rattle.checksum.proofs.sum_8.Goals as goal
use Rattle.checksum.specs.Blocks.{rotated_by}

pub returns : goal.returns
returns c =
    let a = c.args in
    let turned : c.rotate_left-2.result ≡ rotated_by 8 a.sum = c.rotate_left-2.ensures ∙ rotate_left-rotated_by 8 a.sum (omega arith) (omega arith) in
    let fits : c.rotate_left-2.result + c.weight_8-weight.result < 2 ^ 32 =
    rw (c.rotate_left-2.ensures ∙ sym c.rotate_left.ensures) (leb-false _ _ (sym c.carries.ensures ∙ c.if-carries.false)) in
    block-summed 8 a.sum a.bytes.now (omega arith) (search rules) (omega arith) turned
    (weight-word a.bytes.now (search rules) (search rules) c.read_u64.ensures c.weight_8-weight.ensures.0) fits refl
