use mathlib.Core.Path.{sym, ap, ◌∙◌}
use Rattle.pager_state.specs.Stores.{File}
use Rattle.pager_state.specs.Opening.{How, opened_answer}
use Rattle.pager_open.specs.Given.{how_of}
use Rattle.pager_open.proofs.Judged.{main-short, log-there, log-absent}
use Rattle.pager_open.proofs.judge_behind.Goals as goal

pub returns-then-not-covers : goal.returns-then-not-covers
returns-then-not-covers c =
    let a = c.args in
    let how : How = how_of a.options in
    let f : File = record { area = a.log.now; len = a.log_len } in
    c.refused.ensures ∙ ap opened_answer (main-short how a.storage.len f a.storage.header (sym c.covers.ensures ∙ c.if-not-covers.true))

pub returns-then-options : goal.returns-then-options
returns-then-options c =
    let a = c.args in
    let how : How = how_of a.options in
    let f : File = record { area = a.log.now; len = a.log_len } in
    rw c.part.ensures at c.judge_log.ensures
    ∙ ap opened_answer (log-there how a.storage.len f a.storage.header (sym c.covers.ensures ∙ c.if-not-covers.false) c.if-options.true)

pub returns : goal.returns
returns c =
    let a = c.args in
    let how : How = how_of a.options in
    let f : File = record { area = a.log.now; len = a.log_len } in
    c.opened_with.ensures
    ∙ ap opened_answer (log-absent how a.storage.len f a.storage.header (sym c.covers.ensures ∙ c.if-not-covers.false) c.if-options.false c.fresh_wal.ensures)
