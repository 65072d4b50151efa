use mathlib.Core.Path.{ap, ◌∙◌}
use Rattle.pager_state.specs.Opening.{opened_answer}
use Rattle.pager_open.specs.Given.{how_of, files}
use Rattle.pager_open.proofs.Judged.{files-judged}
use Rattle.pager_open.proofs.judge.Goals as goal

pub returns-in-Ok : goal.returns-in-Ok
returns-in-Ok c =
    let a = c.args in
    let disk = files a.main.now a.main_len a.log.now a.log_len in
    c.judge_behind.ensures ∙ ap opened_answer (files-judged (how_of a.options) disk c.read_header.ensures c.in-Ok.is)

pub returns-in-Err : goal.returns-in-Err
returns-in-Err c =
    let a = c.args in
    let disk = files a.main.now a.main_len a.log.now a.log_len in
    c.refused.ensures ∙ ap opened_answer (files-judged (how_of a.options) disk c.read_header.ensures c.in-Err.is)
