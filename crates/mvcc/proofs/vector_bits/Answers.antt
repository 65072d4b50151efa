use Rattle.std.proofs.Common.{◌+◌, ◌*◌, ◌≤◌, length, arith}
use Rattle.mvcc.specs.Vector.{bits_at}
use borrow.Author.Tests.{lt-ltb, le-leb}
use Rattle.le.proofs.Fields.{field-whole}
use Rattle.mvcc.proofs.vector_bits.Goals as goal

pub returns-then-i-body : goal.returns-then-i-body
unfolding bits_at
returns-then-i-body c =
    let a = c.args in
    let h : a.start + 4 * a.i + 4 ≤ length a.body.now = omega arith in
    rw (lt-ltb _ _ c.if-i-count.true, le-leb _ _ h, c.read_u32.ensures, field-whole 4 (a.start + 4 * a.i) a.body.now h)
