use Rattle.std.proofs.Common.{◌≡◌, true, false, arith, rules, tests}
use Rattle.std.proofs.lemmas.Iterator.{first_from_Range}
use Rattle.pager_state.specs.Overlay.{is_staged}
use Rattle.pager_differing.proofs.Differing.{lack-found}
use Rattle.pager_differing.proofs.first_lacking.Goals as goal

pub returns : goal.returns
returns c =
    let a = c.args in
    let found = first_from_Range _ _ _ c.find.result (λ x. is_staged a.staged x ≡ false) (λ x. is_staged a.staged x ≡ true) c.find.ensures.ran (λ x q h. search (rules, tests)) (λ x q h. search (rules, tests)) in
    lack-found a.staged a.old a.new c.max-start.result c.min-end.result c.find.result (omega (arith, c.max-start.ensures)) (omega (arith, c.min-end.ensures)) found
