use native.Mathlib.Omega.{arith}
use lib.Bits.{bit_and}
use lib.Count.{trailing_le}
use Rattle.le.proofs.Fields.{field-whole}
use Rattle.text.proofs.Tops.{front_at}
use borrow.Author.Rules.{rules}
use Rattle.text.proofs.ascii_front.Goals as goal

pub overflow_cast-result : goal.overflow_cast-result
overflow_cast-result c = omega (arith, trailing_le 64 (bit_and c.read_u64-tops.result 0x8080_8080_8080_8080))

pub returns : goal.returns
returns c =
    let a = c.args in (
      omega (arith, trailing_le 64 (bit_and c.read_u64-tops.result 0x8080_8080_8080_8080)),
      front_at a.s.now a.at (search rules) (λ k. omega (arith, c.type_inv.s k))
          (rw (c.read_u64-tops.ensures, field-whole 8 a.at a.s.now (search rules))),
    )
