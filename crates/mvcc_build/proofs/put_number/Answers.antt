-- `mvcc_build::put_number` meets its contract. Assumes nothing.
use native.Mathlib.Omega.{arith}
use mathlib.Core.Path.{◌≡◌, refl, sym, ◌∙◌}
use Prim.Native.Nat.{suc, ◌+◌, ◌-◌, ◌%◌}
use lib.ListN.{length-set}
use Rattle.le.specs.Le.{le_bytes}
use Rattle.le.proofs.Fields.{le_bytes-mod}
use Rattle.le.proofs.Stores.{put-none}
use Rattle.mvcc_build.proofs.Laws.{number_more}
use Rattle.mvcc_build.proofs.Words.{number-stored}
use Rattle.mvcc_build.proofs.put_number.Goals as goal

pub returns-then-k-eq8 : goal.returns-then-k-eq8
returns-then-k-eq8 c =
    let a = c.args in
    number-stored a.body.now a.at a.k 8 a.v a.v c.if-k-eq8.true (omega arith) refl c.write_u64.ensures.1

pub returns-then-k-eq4 : goal.returns-then-k-eq4
returns-then-k-eq4 c =
    let a = c.args in
    number-stored a.body.now a.at a.k 4 (a.v % 4294967296) a.v c.if-k-eq4.true (omega arith) (le_bytes-mod 4 a.v) c.write_u32.ensures.1

pub returns-then-k-eq2 : goal.returns-then-k-eq2
returns-then-k-eq2 c =
    let a = c.args in
    number-stored a.body.now a.at a.k 2 (a.v % 65536) a.v c.if-k-eq2.true (omega arith) (le_bytes-mod 2 a.v) c.write_u16.ensures.1

pub loop-i-preserved : goal.loop-i-preserved
loop-i-preserved c =
    let a = c.args in
    let l = c.loop-i in
    let e : a.at + l.i + 1 ≡ a.at + (l.i + 1) = omega arith in
    let f : suc (a.k - (l.i + 1)) ≡ a.k - l.i = omega arith in
    let m = rw (e, f) at (number_more l.body (a.at + l.i) (a.k - (l.i + 1)) l.left (omega arith)) in
    (omega arith, simp length-set l.invariant.1, m ∙ l.invariant.2)

pub returns : goal.returns
unfolding le_bytes
returns c =
    let a = c.args in
    let l = c.loop-i in
    let e : a.k - l.i ≡ 0 = omega arith in
    sym (put-none l.body (a.at + l.i)) ∙ rw e at l.invariant.2
