use mathlib.Core.Path.{◌≡◌, ◌∙◌}
use lib.ListN.{length}
use Rattle.page.specs.Page.{page_size}
use Rattle.pager_commit.proofs.Stores.{body-size, frame-stored}
use Rattle.pager_commit.proofs.store_frame.Goals as goal

pub returns : goal.returns
returns c =
    let a = c.args in
    let k = c.requires in
    let bs = c.page_from-body.result.now in
    let b : length bs ≡ page_size = rw c.page_from-body.ensures (body-size a.staging.now a.found.index k.lengths.1 k.page_lt_page_limit.1) in
    let f = frame-stored a.log.now a.wal a.found.page bs k.lengths.0.log b k.wal_value in
    record { value = c.longer.ensures ∙ rw k.wal_value; table_after = c.enter.ensures; log_after = rw (← c.page_from-body.ensures) (c.write_frame.ensures.log_after ∙ f) }
