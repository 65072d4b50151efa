-- `mvcc_build::is_short_ascii` meets its contract. Assumes nothing.
use native.Mathlib.Omega.{arith}
use Prim.Native.Nat.{◌-◌}
use lib.ListN.{length}
use Rattle.le.specs.Le.{Bytes}
use Rattle.mvcc_build.proofs.Words.{and-true, wide-le, word-ascii, ends-ascii}
use Rattle.mvcc_build.proofs.is_short_ascii.Goals as goal

pub returns : goal.returns
returns c =
    let s = c.args.s.now in
    let w = c.width-w.result in
    let b : Bytes s = λ i. omega (arith, c.type_inv.s i) in
    let n = wide-le w c.width-w.ensures.2 in
    λ e.
    let t = and-true c.is_ascii.result c.is_ascii-2.result e in
    ends-ascii s b w n (omega arith) (omega arith)
    (word-ascii s b w n 0 (omega arith) c.word.ensures c.is_ascii.ensures t.0)
    (word-ascii s b w n (length s - w) (omega arith) c.word-2.ensures c.is_ascii-2.ensures t.1)
