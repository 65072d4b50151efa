use mathlib.Core.Path.{◌≡◌, sym, ◌∙◌}
use mathlib.Core.Bool.{true}
use Rattle.pager_state.specs.World.{world, fine}
use Rattle.pager_state.specs.Steps.{step_fine, nothing_to_checkpoint}
use Rattle.pager_checkpoint.proofs.Checkpointing.{start_area, start-busy, start-read-only, start-nothing, start-begun}
use Rattle.pager_checkpoint.proofs.begin_checkpoint.Goals as goal

pub returns-then-not-are_fine : goal.returns-then-not-are_fine
unfolding fine
returns-then-not-are_fine c =
    let g = c.args.areas.staging.now in
    let W = world c.args.pager c.args.areas.table.now c.args.areas.log.now c.args.areas.main.now in
    c.started.ensures ∙ start_area g W c.args.salt (sym c.are_fine.ensures ∙ c.if-not-are_fine.true)

pub returns-then-is_busy : goal.returns-then-is_busy
unfolding fine
returns-then-is_busy c =
    let g = c.args.areas.staging.now in
    let W = world c.args.pager c.args.areas.table.now c.args.areas.log.now c.args.areas.main.now in
    let fi : step_fine g W ≡ true = sym c.are_fine.ensures ∙ c.if-not-are_fine.false in
    c.started-then-is_busy.ensures ∙ start-busy g W c.args.salt fi (sym c.is_busy.ensures ∙ c.if-is_busy.true)

pub returns-then-is_read_only : goal.returns-then-is_read_only
unfolding fine
returns-then-is_read_only c =
    let g = c.args.areas.staging.now in
    let W = world c.args.pager c.args.areas.table.now c.args.areas.log.now c.args.areas.main.now in
    let fi : step_fine g W ≡ true = sym c.are_fine.ensures ∙ c.if-not-are_fine.false in
    let b = sym c.is_busy.ensures ∙ c.if-is_busy.false in
    c.started-then-is_read_only.ensures ∙ start-read-only g W c.args.salt fi b (sym c.is_read_only.ensures ∙ c.if-is_read_only.true)

pub returns-then-nothing_to_checkpoint : goal.returns-then-nothing_to_checkpoint
unfolding fine nothing_to_checkpoint
returns-then-nothing_to_checkpoint c =
    let g = c.args.areas.staging.now in
    let W = world c.args.pager c.args.areas.table.now c.args.areas.log.now c.args.areas.main.now in
    let fi : step_fine g W ≡ true = sym c.are_fine.ensures ∙ c.if-not-are_fine.false in
    let b = sym c.is_busy.ensures ∙ c.if-is_busy.false in
    let d = sym c.is_read_only.ensures ∙ c.if-is_read_only.false in
    c.started-then-nothing_to_checkpoint.ensures ∙ start-nothing g W c.args.salt fi b d (sym c.nothing_to_checkpoint.ensures ∙ c.if-nothing_to_checkpoint.true)

pub returns : goal.returns
unfolding fine nothing_to_checkpoint
returns c =
    let g = c.args.areas.staging.now in
    let W = world c.args.pager c.args.areas.table.now c.args.areas.log.now c.args.areas.main.now in
    let fi : step_fine g W ≡ true = sym c.are_fine.ensures ∙ c.if-not-are_fine.false in
    let b = sym c.is_busy.ensures ∙ c.if-is_busy.false in
    let d = sym c.is_read_only.ensures ∙ c.if-is_read_only.false in
    c.started-2.ensures ∙ start-begun g W c.args.salt fi b d (sym c.nothing_to_checkpoint.ensures ∙ c.if-nothing_to_checkpoint.false) c.count_in_checkpoint-answer.ensures c.with_wal.ensures
