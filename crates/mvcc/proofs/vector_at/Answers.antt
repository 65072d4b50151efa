use mathlib.Core.Path.{sym}
use Prim.Native.Nat.{◌+◌, ◌*◌, ◌≤◌}
use native.Mathlib.Omega.{arith}
use borrow.Author.Tests.{le-leb}
use lib.ListN.{length}
use Rattle.mvcc.proofs.Laws.{num-next}
use Rattle.mvcc.specs.Decode.{vector_at}
use Rattle.mvcc.proofs.vector_at.Goals as goal

pub overflow_sub-body : goal.overflow_sub-body
overflow_sub-body c = let a = c.args in num-next 4 a.body.now a.at (sym c.in_ok-n.ensures)

pub returns : goal.returns
unfolding vector_at
returns c =
    let a = c.args in
    let r = c.in_ok-n in
    let h : r.start + r.n * 4 ≤ length a.body.now = omega (arith, num-next 4 a.body.now a.at (sym r.ensures)) in
    rw (← r.ensures, le-leb _ _ h)
