use Rattle.std.proofs.Common.{◌∙◌, ◌-◌, ◌≤◌, ◌<◌, length, drop, ◌*◌, arith, rules, tests}
use lib.ListN.{length-drop}
use lib.Seq.{take_all}
use Rattle.std.proofs.lemmas.Iterator.{IsFirst-from_position, YieldsList-from_slice}
use Rattle.pager_checkpoint.proofs.Blocks.{first-behind}
use Rattle.pager_checkpoint.proofs.first_in_log.Goals as goal

pub returns-in_err-k : goal.returns-in_err-k
returns-in_err-k c =
    let t = c.args.entries.now in
    let s = 32 * c.blocks_without-start.result in
    let found = IsFirst-from_position _ _ c.position.result (λ x. 1 < x) (λ x. x ≤ 1) c.position.ensures.ran (YieldsList-from_slice (drop s t) (c.iter.ensures.rest ∙ take_all (length t - s) (drop s t) (omega (arith, length-drop s t)))) (λ x q h. search (rules, tests)) (λ x q h. search (rules, tests)) in
    let behind = first-behind t s c.blocks_without-start.ensures c.position.result found in
    rw c.from_residual.ensures (rw c.in_err-k.was at behind)

pub returns : goal.returns
returns c =
    let t = c.args.entries.now in
    let s = 32 * c.blocks_without-start.result in
    let found = IsFirst-from_position _ _ c.position.result (λ x. 1 < x) (λ x. x ≤ 1) c.position.ensures.ran (YieldsList-from_slice (drop s t) (c.iter.ensures.rest ∙ take_all (length t - s) (drop s t) (omega (arith, length-drop s t)))) (λ x q h. search (rules, tests)) (λ x q h. search (rules, tests)) in
    let behind = first-behind t s c.blocks_without-start.ensures c.position.result found in
    rw c.in_ok-k.was at behind
