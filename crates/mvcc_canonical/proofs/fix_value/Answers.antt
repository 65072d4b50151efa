-- `mvcc_canonical::fix_value` meets its contract. Assumes nothing.
use Rattle.mvcc_canonical.proofs.Walk.{value-other, value_set, value-far, value_none}
use Rattle.mvcc_canonical.proofs.fix_value.Goals as goal
use Rattle.mvcc_canonical.proofs.fix_value.Goals.{else-end-gt0-via-then-end-gt0+else-end-out, else-end-gt0-via-else-end-gt0}

pub returns-in_default : goal.returns-in_default
returns-in_default c = value-other c.args.out.now c.args.value c.args.end c.in_default.not-Bool

pub returns-then-end-out : goal.returns-then-end-out
returns-then-end-out c = value_set c.args.out.now c.args.value c.args.end c.in-Bool.is c.if-end-gt0.true c.if-end-out.true c.from.ensures

pub returns-else-end-gt0 : goal.returns-else-end-gt0
returns-else-end-gt0 c =
    let a = c.args in
    elim c.else-end-gt0.branch [
      | else-end-gt0-via-then-end-gt0+else-end-out w ↦ value-far a.out.now a.value a.end c.in-Bool.is w.if-end-out.false
      | else-end-gt0-via-else-end-gt0 w ↦ value_none a.out.now a.value a.end c.in-Bool.is w.if-end-gt0.false
    ]
