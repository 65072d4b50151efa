use Rattle.std.proofs.Common.{◌∙◌, arith}
use Rattle.pager_state.specs.Pages.{in_checkpoint_by}
use Rattle.pager_state.proofs.Searches.{pages-hit}
use Rattle.pager_checkpoint.proofs.Scan.{hit, scanned, from_first, none-found, one-found}
use Rattle.pager_checkpoint.proofs.next_in_checkpoint.Goals as goal

pub returns-then-end-first : goal.returns-then-end-first
returns-then-end-first c =
    let e = c.checkpoint_end-end.ensures in
    from_first c.args.count c.args.table.now c.args.page c.max-first.ensures ∙ scanned c.args.count c.args.table.now c.max-first.result (omega (arith, c.if-end-first.true))

pub returns-then-table-first-gt1 : goal.returns-then-table-first-gt1
returns-then-table-first-gt1 c =
    let count = c.args.count in
    let t = c.args.table.now in
    let p = c.max-first.result in
    let r = c.max-first.ensures in
    let e = c.checkpoint_end-end.ensures in
    let l = c.if-end-first.false in
    let h = hit count t p (omega (arith, r)) (omega (arith, l)) c.if-table-first-gt1.true in
    (omega (arith, l), from_first count t c.args.page r ∙ pages-hit (in_checkpoint_by count t) p (omega (arith, l)) h)

pub returns-in_err-k : goal.returns-in_err-k
returns-in_err-k c =
    let count = c.args.count in
    let t = c.args.table.now in
    let f = none-found count t c.max-first.result c.checkpoint_end-end.result c.checkpoint_end-end.ensures c.if-end-first.false (rw c.in_err-k.was at c.first_in_log.ensures) in
    rw c.from_residual.ensures (from_first count t c.args.page c.max-first.ensures ∙ f)

pub returns : goal.returns
returns c =
    let count = c.args.count in
    let t = c.args.table.now in
    let r = c.max-first.ensures in
    let f = one-found count t c.max-first.result c.checkpoint_end-end.result c.checkpoint_end-end.ensures c.if-end-first.false c.in_ok-k.k (omega (arith, r)) (rw c.in_ok-k.was at c.first_in_log.ensures) in
    (f.0, from_first count t c.args.page r ∙ f.1)
