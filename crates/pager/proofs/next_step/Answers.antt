use mathlib.Core.Path.{◌≡◌, sym, ◌∙◌}
use mathlib.Core.Bool.{true}
use Rattle.pager_state.specs.World.{world, fine}
use Rattle.pager_state.specs.Steps.{step_fine}
use Rattle.pager.proofs.Steps.{no-step, by-commit, by-checkpoint}
use Rattle.pager.proofs.next_step.Goals as goal

pub returns-then-not-are_fine : goal.returns-then-not-are_fine
unfolding fine
returns-then-not-are_fine c =
    let both = no-step c.args.staging.now (world c.args.pager c.args.table.now c.args.log.now c.args.main.now) (sym c.are_fine.ensures ∙ c.if-not-are_fine.true) in
    record { answer_value = both.0; later_after = both.1 }

pub returns-then-is_commit : goal.returns-then-is_commit
returns-then-is_commit c =
    let l = by-commit c.args.staging.now (world c.args.pager c.args.table.now c.args.log.now c.args.main.now) (sym c.is_commit.ensures ∙ c.if-is_commit.true) in
    record { answer_value = c.commit_step.ensures.answer_value ∙ l.0; later_after = c.commit_step.ensures.later_after ∙ l.1 }

pub returns : goal.returns
unfolding fine
returns c =
    let g = c.args.staging.now in
    let W = world c.args.pager c.args.table.now c.args.log.now c.args.main.now in
    let k : step_fine g W ≡ true = sym c.are_fine.ensures ∙ c.if-not-are_fine.false in
    let l = by-checkpoint g W k (sym c.is_commit.ensures ∙ c.if-is_commit.false) in
    record { answer_value = c.checkpoint_step.ensures.answer_value ∙ l.0; later_after = c.checkpoint_step.ensures.main_after ∙ l.1 }
