use mathlib.Core.Path.{ap, ◌∙◌}
use Rattle.std.specs.Prelude.{Ok}
use Rattle.pager_state.specs.World.{world}
use Rattle.pager.proofs.Whole.{checkpoint-run, checkpoint-nothing, checkpoint-refused}
use Rattle.pager.proofs.checkpoint.Goals as goal

pub returns-in-Ok-Begun : goal.returns-in-Ok-Begun
returns-in-Ok-Begun c =
    let a = c.args in
    let w = world a.pager a.table.now a.log.now a.main.now in
    let both = checkpoint-run a.staging.now w a.salt c.begin_checkpoint-begun.ensures (c.in-Ok-Begun.is ∙ ap Ok (rw c.in-Ok-Begun.is at c.in-Ok-Begun.field-0-is)) c.answer_of-pages.ensures c.run_steps-end.ensures in
    record { answer_value = both.0; later_after = both.1 }

pub returns-in-Ok-Nothing : goal.returns-in-Ok-Nothing
returns-in-Ok-Nothing c =
    let a = c.args in
    let w = world a.pager a.table.now a.log.now a.main.now in
    let both = checkpoint-nothing a.staging.now w a.salt c.begin_checkpoint-begun.ensures (c.in-Ok-Nothing.is ∙ ap Ok (rw c.in-Ok-Nothing.is at c.in-Ok-Nothing.field-0-is)) in
    record { answer_value = both.0; later_after = both.1 }

pub returns-in-Err : goal.returns-in-Err
returns-in-Err c =
    let a = c.args in
    let w = world a.pager a.table.now a.log.now a.main.now in
    let both = checkpoint-refused a.staging.now w a.salt c.begin_checkpoint-begun.ensures c.in-Err.is in
    record { answer_value = both.0; later_after = both.1 }
