use mathlib.Core.Path.{◌≡◌, sym, ◌∙◌}
use mathlib.Core.Bool.{true}
use mathlib.Core.Logic.{⊎_elim}
use Rattle.pager_state.specs.World.{world, fine}
use Rattle.pager_checkpoint.proofs.Checkpointing.{not-fine, at-idle, at-commit, at-checkpoint, at_length, at-empty, at_last}
use Rattle.pager_checkpoint.proofs.checkpoint_step.Goals as goal

pub returns-then-not-is_fine : goal.returns-then-not-is_fine
unfolding fine
returns-then-not-is_fine c =
    let W = world c.args.pager c.args.table.now c.args.log.now c.args.main.now in
    let both = not-fine W (sym c.is_fine.ensures ∙ c.if-not-is_fine.true) in
    record { answer_value = both.0; main_after = both.1 }

pub returns-in-Idle : goal.returns-in-Idle
unfolding fine
returns-in-Idle c =
    let W = world c.args.pager c.args.table.now c.args.log.now c.args.main.now in
    let fi : fine W ≡ true = sym c.is_fine.ensures ∙ c.if-not-is_fine.false in
    let both = ⊎_elim (at-idle W fi) (λ w. at-commit W fi _ _ _ _ w.4) c.in-Idle.is in
    record { answer_value = both.0; main_after = both.1 }

pub returns-in-Checkpoint : goal.returns-in-Checkpoint
unfolding fine
returns-in-Checkpoint c =
    let W = world c.args.pager c.args.table.now c.args.log.now c.args.main.now in
    let fi : fine W ≡ true = sym c.is_fine.ensures ∙ c.if-not-is_fine.false in
    let both = at-checkpoint W fi _ _ _ c.in-Checkpoint.is c.pages_step.ensures.answer_value c.pages_step.ensures.main_after in
    record { answer_value = both.0; main_after = both.1 }

pub returns-in-MainLength : goal.returns-in-MainLength
unfolding fine
returns-in-MainLength c =
    let W = world c.args.pager c.args.table.now c.args.log.now c.args.main.now in
    let fi : fine W ≡ true = sym c.is_fine.ensures ∙ c.if-not-is_fine.false in
    let s = c.length_step.ensures in
    let both = at_length W fi _ _ c.in-MainLength.is s.answer_value s.pager_value s.main_after in
    record { answer_value = both.0; main_after = both.1 }

pub returns-in-LogLength : goal.returns-in-LogLength
unfolding fine
returns-in-LogLength c =
    let W = world c.args.pager c.args.table.now c.args.log.now c.args.main.now in
    let fi : fine W ≡ true = sym c.is_fine.ensures ∙ c.if-not-is_fine.false in
    let s = c.empty_step.ensures in
    let both = at-empty W fi _ _ c.in-LogLength.is s.answer_value s.pager_value s.log_after in
    record { answer_value = both.0; main_after = both.1 }

pub returns-in-LogHeader : goal.returns-in-LogHeader
unfolding fine
returns-in-LogHeader c =
    let W = world c.args.pager c.args.table.now c.args.log.now c.args.main.now in
    let fi : fine W ≡ true = sym c.is_fine.ensures ∙ c.if-not-is_fine.false in
    let s = c.last_step.ensures in
    let both = at_last W fi _ _ c.in-LogHeader.is s.answer_value s.pager_value s.table_after s.log_after in
    record { answer_value = both.0; main_after = both.1 }
