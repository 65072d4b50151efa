use mathlib.Core.Path.{sym, ap, ◌∙◌}
use Rattle.pager_state.specs.Opening.{found_in, opened_answer}
use Rattle.pager_open.specs.Given.{how_of}
use Rattle.pager_open.specs.Judging.{judged_found}
use Rattle.pager_open.proofs.Judged.{log-judged}
use Rattle.wal.proofs.Opening.{open-known}
use Rattle.pager_open.proofs.judge_log.Goals as goal

pub judge_found-requires : goal.judge_found-requires
judge_found-requires c =
    let k = open-known c.args.file.now _ (sym c.open.ensures ∙ c.in-Ok.is) in
    (k.known, k.long, c.requires)

pub returns-in-Ok : goal.returns-in-Ok
returns-in-Ok c =
    let a = c.args in
    let rest = judged_found (how_of a.options) a.storage.len a.storage.header (found_in a.options.clean a.file.now) in
    c.judge_found.ensures ∙ ap opened_answer (log-judged a.file.now rest c.requires c.open.ensures c.in-Ok.is)

pub returns-in-Err : goal.returns-in-Err
returns-in-Err c =
    let a = c.args in
    let rest = judged_found (how_of a.options) a.storage.len a.storage.header (found_in a.options.clean a.file.now) in
    c.refused.ensures ∙ ap opened_answer (log-judged a.file.now rest c.requires c.open.ensures c.in-Err.is)
