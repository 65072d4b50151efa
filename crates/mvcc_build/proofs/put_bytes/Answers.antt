-- `mvcc_build::put_bytes` meets its contract. Assumes nothing.
use native.Mathlib.Omega.{arith}
use Rattle.le.specs.Le.{Bytes}
use Rattle.mvcc_build.proofs.Laws.{one-stored}
use Rattle.mvcc_build.proofs.Words.{put-empty, words-stored}
use Rattle.mvcc_build.proofs.put_bytes.Goals as goal

pub returns-then-n-eq0 : goal.returns-then-n-eq0
returns-then-n-eq0 c =
    let a = c.args in
    put-empty a.body.now a.at a.s.now c.if-n-eq0.true

pub returns-then-n-gt16 : goal.returns-then-n-gt16
returns-then-n-gt16 c =
    let a = c.args in
    one-stored a.body.now a.at c.requires.0 a.s.now c.requires.1 c.write_bytes.ensures.1

pub returns : goal.returns
returns c =
    let a = c.args in
    let b : Bytes a.s.now = λ i. omega (arith, c.type_inv.s i) in
    words-stored a.body.now a.at a.s.now b c.width-w.result (omega arith) c.width-w.ensures.0 c.width-w.ensures.1
    c.word.ensures c.word-2.ensures c.put_number.ensures c.put_number-2.ensures
