use mathlib.Core.Path.{◌∙◌}
use Rattle.pager_state.specs.World.{world}
use Rattle.pager_checkpoint.proofs.Checkpointing.{last-is, page-told, page-done, head-told, head_done, paged-by, headed-by}
use Rattle.pager_checkpoint.proofs.pages_step.Goals as goal

pub returns-in-Some : goal.returns-in-Some
returns-in-Some c =
    let W = world c.args.pager c.args.table.now c.args.log.now c.args.main.now in
    let e = c.in-Some.ensures in
    let t = last-is W c.in-Some.q c.next_in_checkpoint-in-Some.result c.is_none-last.result c.is_none-last.ensures c.next_in_checkpoint-in-Some.ensures in
    let s = c.page_step.ensures in
    record {
      answer_value = s.answer_value ∙ page-told c.args.salt c.args.answer c.args.page W c.in-Some.q _ e.1 e.0 t;
      main_after = page-done c.args.salt c.args.answer c.args.page W c.in-Some.q e.1 (paged-by c.args.salt c.args.answer W c.in-Some.q s.pager_value s.main_after);
    }

pub returns-in-None : goal.returns-in-None
returns-in-None c =
    let W = world c.args.pager c.args.table.now c.args.log.now c.args.main.now in
    let e = c.in-None.ensures in
    let s = c.header_step.ensures in
    record {
      answer_value = s.answer_value ∙ head-told c.args.salt c.args.answer c.args.page W e;
      main_after = head_done c.args.salt c.args.answer c.args.page W e (headed-by c.args.salt c.args.answer W s.pager_value s.main_after);
    }
