use Rattle.std.proofs.Common.{◌∙◌, ap, ℕ, ◌+◌, ◌-◌, drop, length, get_or, arith, sym}
use Rattle.std.proofs.lemmas.List.{get_or-take, get_or-drop}
use Rattle.pager_checkpoint.proofs.Scan.{counted, scanned, from_one}
use Rattle.pager_checkpoint.proofs.count_in_checkpoint.Goals as goal

pub returns-then-end-eq0 : goal.returns-then-end-eq0
returns-then-end-eq0 c = sym (ap length (scanned c.args.count c.args.table.now 0 (omega (arith, c.checkpoint_end-end.ensures, c.if-end-eq0.true))))

pub loop-entry-init : goal.loop-entry-init
loop-entry-init c = (omega arith, omega (arith, ap length (from_one c.args.count c.args.table.now 0)))

pub loop-entry-preserved : goal.loop-entry-preserved
loop-entry-preserved c =
    let e = c.checkpoint_end-end.ensures in
    let l = c.loop-entry in
    let g = get_or-take (c.checkpoint_end-end.result - 1) (drop 1 c.args.table.now) l.entry-index 0 (omega arith) ∙ get_or-drop 1 c.args.table.now l.entry-index 0
    ∙ ap (λ (i : ℕ). get_or c.args.table.now i 0) {x = 1 + l.entry-index} {y = l.entry-index + 1} (omega arith) in
    let k = counted c.args.count c.args.table.now l.n (l.entry-index + 1) (omega arith) (omega arith) (omega arith) (rw g at c.from-n.ensures) in
    (omega (arith, k.0, l.invariant.0), k.1 ∙ l.invariant.1)

pub returns : goal.returns
returns c =
    let e = c.checkpoint_end-end.ensures in
    let l = c.loop-entry in
    let z = ap length (scanned c.args.count c.args.table.now (l.entry-index + 1) (omega arith)) in
    omega (arith, z, l.invariant.1)
