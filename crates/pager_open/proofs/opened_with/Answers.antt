use mathlib.Core.Path.{sym, ap, ◌∙◌}
use Rattle.pager_state.specs.Opening.{How, opened_answer}
use Rattle.pager_open.specs.Given.{how_of}
use Rattle.pager_open.proofs.Judged.{over, read_only, opens-with}
use Rattle.pager_open.proofs.opened_with.Goals as goal

pub returns-then-not-covers : goal.returns-then-not-covers
returns-then-not-covers c =
    let a = c.args in
    let how : How = how_of a.options in
    c.refused.ensures ∙ ap opened_answer (over how a.storage.len a.storage.header a.wal a.header (sym c.covers.ensures ∙ c.if-not-covers.true))

pub returns-then-is_clean_read_only : goal.returns-then-is_clean_read_only
returns-then-is_clean_read_only c =
    let a = c.args in
    let how : How = how_of a.options in
    let k = sym c.covers.ensures ∙ c.if-not-covers.false in
    c.refused-then-is_clean_read_only.ensures ∙ ap opened_answer (read_only how a.storage.len a.storage.header a.wal a.header k (sym c.is_clean_read_only.ensures ∙ c.if-is_clean_read_only.true))

pub returns : goal.returns
returns c =
    let a = c.args in
    let how : How = how_of a.options in
    let k = sym c.covers.ensures ∙ c.if-not-covers.false in
    rw (c.open_store.ensures, c.opening_of-opening.ensures) (ap opened_answer (opens-with how a.storage.len a.storage.header a.wal a.header k (sym c.is_clean_read_only.ensures ∙ c.if-is_clean_read_only.false)))
