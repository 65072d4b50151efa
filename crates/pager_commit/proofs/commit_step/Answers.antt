use mathlib.Core.Path.{◌≡◌, sym, ◌∙◌}
use mathlib.Core.Bool.{true}
use Rattle.pager_state.specs.World.{world, fine}
use Rattle.pager_state.specs.Steps.{step_fine}
use Rattle.pager_commit.proofs.Step.{not-fine, at_other, at-commit}
use Rattle.pager_commit.proofs.commit_step.Goals as goal

pub returns-then-not-are_fine : goal.returns-then-not-are_fine
unfolding fine
returns-then-not-are_fine c =
    let a = c.args in
    let g = a.staging.now in
    let w = world a.pager a.table.now a.log.now a.main.now in
    let both = not-fine g w (sym c.are_fine.ensures ∙ c.if-not-are_fine.true) in
    record { answer_value = both.0; later_after = both.1 }

pub returns-in_default : goal.returns-in_default
unfolding fine
returns-in_default c =
    let a = c.args in
    let g = a.staging.now in
    let w = world a.pager a.table.now a.log.now a.main.now in
    let lengths : step_fine g w ≡ true =
    sym c.are_fine.ensures ∙ c.if-not-are_fine.false in
    let both = at_other g w (lengths) c.in_default.not-Commit in
    record { answer_value = both.0; later_after = both.1 }

pub returns : goal.returns
unfolding fine
returns c =
    let a = c.args in
    let g = a.staging.now in
    let w = world a.pager a.table.now a.log.now a.main.now in
    let lengths : step_fine g w ≡ true =
    sym c.are_fine.ensures ∙ c.if-not-are_fine.false in
    let q = c.frames_step.ensures in
    let both = at-commit g w (lengths) _ _ _ _ c.in-Commit.is (q.answer_value, q.later_after) in
    record { answer_value = both.0; later_after = both.1 }
