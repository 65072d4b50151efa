use Rattle.std.proofs.Common.{ap, ◌∙◌, arith}
use Rattle.pager_state.specs.Pages.{first_of}
use Rattle.pager_differing.proofs.Differing.{place-within, found-staged, none-differs, staged-from, differs-here, same_here}
use Rattle.pager_state.proofs.Held.{slots}
use Rattle.pager_differing.proofs.next_differing.Goals as goal

pub is_differing-requires : goal.is_differing-requires
is_differing-requires c =
    let s = c.args.staged in
    let f = c.in-Some.ensures.found in
    let k = place-within s.pages s.count c.loop-found.from c.in-Some.found.page f.page f.page_lt_page_limit in
    (f.page_lt_page_limit, omega (arith, k, f.index, slots s _ c.well_formed.0))

pub returns-then-is_differing-clause-found : goal.returns-then-is_differing-clause-found
returns-then-is_differing-clause-found c =
    let f = found-staged c.args.staged c.loop-found.from c.in-Some.ensures.found in
    rw c.loop-found.invariant (differs-here c.args.staged _ _ _ _ c.loop-found.from c.in-Some.found f c.is_differing.ensures c.if-is_differing.true)

pub returns-then-is_differing-clause-index_lt_staged_limit : goal.returns-then-is_differing-clause-index_lt_staged_limit
returns-then-is_differing-clause-index_lt_staged_limit c =
    let s = c.args.staged in
    let f = c.in-Some.ensures.found in
    let k = place-within s.pages s.count c.loop-found.from c.in-Some.found.page f.page f.page_lt_page_limit in
    omega (arith, k, f.index, slots s _ c.well_formed.0)

pub loop-found-smaller : goal.loop-found-smaller
loop-found-smaller c =
    let f = found-staged c.args.staged c.loop-found.from c.in-Some.ensures.found in
    omega (arith, f.page_lt_page_limit, staged-from c.args.staged c.args.areas.staging.now c.args.areas.table.now c.args.areas.log.now c.args.areas.main.now c.loop-found.from c.in-Some.found f)

pub loop-found-preserved : goal.loop-found-preserved
loop-found-preserved c =
    let f = found-staged c.args.staged c.loop-found.from c.in-Some.ensures.found in
    c.loop-found.invariant ∙ same_here c.args.staged _ _ _ _ c.loop-found.from c.in-Some.found f c.is_differing.ensures c.if-is_differing.false

pub returns-clause-none : goal.returns-clause-none
returns-clause-none c = ap first_of c.loop-found.invariant ∙ none-differs c.args.staged _ _ _ _ c.loop-found.from c.in_default.ensures.none
