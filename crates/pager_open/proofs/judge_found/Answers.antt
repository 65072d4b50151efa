use mathlib.Core.Path.{ap, ◌∙◌}
use Rattle.wal.proofs.Opening.{known_behind}
use Rattle.pager_state.specs.Opening.{opened_answer}
use Rattle.pager_open.specs.Given.{how_of}
use Rattle.pager_open.proofs.Judged.{found-as, found-opens}
use Rattle.pager_open.proofs.judge_found.Goals as goal

pub kept-requires : goal.kept-requires
kept-requires c = (known_behind c.args.file.now c.args.wal c.requires.0, c.requires.2)

pub returns-in-Ok : goal.returns-in-Ok
returns-in-Ok c =
    let a = c.args in
    c.opened_with.ensures
    ∙ ap opened_answer
    (found-opens (how_of a.options) a.storage.len a.storage.header a.file.now c.header_by.ensures c.in-Ok.is c.requires.1 c.requires.0
    c.kept.ensures)

pub returns-in-Err : goal.returns-in-Err
returns-in-Err c =
    let a = c.args in
    c.refused.ensures
    ∙ ap opened_answer (found-as (how_of a.options) a.storage.len a.storage.header a.file.now c.header_by.ensures c.in-Err.is)
