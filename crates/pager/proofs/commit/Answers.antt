use native.Mathlib.Omega.{arith}
use mathlib.Core.Path.{sym, ◌∙◌}
use Prim.Native.Nat.{◌+◌, ◌-◌}
use Rattle.pager_state.specs.World.{world}
use Rattle.pager_state.specs.Steps.{most_steps}
use Rattle.pager.proofs.Steps.{at_rest}
use Rattle.pager.proofs.Whole.{pages-few, commit-refused, commit-run}
use Rattle.pager.proofs.commit.Goals as goal

pub returns-in_default : goal.returns-in_default
returns-in_default c =
    let g = c.args.staging.now in
    let w = world c.args.pager c.args.table.now c.args.log.now c.args.main.now in
    let e = c.commit_frames-run.ensures in
    record { answer_value = e.answer_value; later_after = commit-refused g w c.args.new_header c.args.salt (sym c.in_default.is ∙ e.answer_value) e.later_after }

-- no checkpoint follows: the steps that are left change nothing
pub returns-then-not-is_busy : goal.returns-then-not-is_busy
returns-then-not-is_busy c =
    let g = c.args.staging.now in
    let w = world c.args.pager c.args.table.now c.args.log.now c.args.main.now in
    let e = c.commit_frames-run.ensures in
    let z = at_rest g (most_steps - (c.in-Ok.pages + 1)) _ (sym c.is_busy.ensures ∙ c.if-not-is_busy.true) in
    record { answer_value = e.answer_value; later_after = commit-run g w c.args.new_header c.args.salt (sym c.in-Ok.is ∙ e.answer_value) e.later_after z }

pub overflow_add-pages : goal.overflow_add-pages
overflow_add-pages c =
    let w = world c.args.pager c.args.table.now c.args.log.now c.args.main.now in
    omega (arith, pages-few c.args.staging.now w c.args.new_header c.args.salt (sym c.in-Ok.is ∙ c.commit_frames-run.ensures.answer_value))

pub shape_of-table : goal.shape_of-table
shape_of-table c = c.run_steps-end.auto.table ∙ c.commit_frames-run.auto.table

pub shape_of-log : goal.shape_of-log
shape_of-log c = c.run_steps-end.auto.log ∙ c.commit_frames-run.auto.log

pub returns : goal.returns
returns c =
    let g = c.args.staging.now in
    let w = world c.args.pager c.args.table.now c.args.log.now c.args.main.now in
    let e = c.commit_frames-run.ensures in
    record { answer_value = e.answer_value; later_after = commit-run g w c.args.new_header c.args.salt (sym c.in-Ok.is ∙ e.answer_value) e.later_after c.run_steps-end.ensures }
