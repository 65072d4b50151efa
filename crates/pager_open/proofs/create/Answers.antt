use mathlib.Core.Path.{◌≡◌, sym, ◌∙◌}
use mathlib.Core.Bool.{true}
use lib.ListN.{length}
use Rattle.wal.specs.Write.{empty_wal}
use Rattle.pager_state.specs.Opening.{first_header, created_pager}
use Rattle.pager_state.specs.World.{lengths_fine}
use Rattle.pager_open.proofs.Opened.{Fine, lengths}
use Rattle.pager_open.proofs.Created.{create-refused, create-done}
use Rattle.pager_open.proofs.create.Goals as goal

pub returns-then-not-are_fine : goal.returns-then-not-are_fine
returns-then-not-are_fine c =
    let a = c.args in
    let both = create-refused a.table.now a.log.now a.main.now a.staging.now a.salt (sym c.are_fine.ensures ∙ c.if-not-are_fine.true) (rw c.no_store.ensures) in
    record { value = both.0; table_after = both.1.0; log_after = both.1.1.0; main_after = both.1.1.1 }

pub returns : goal.returns
unfolding first_header created_pager empty_wal
returns c =
    let fine : let a = c.args in lengths_fine (length a.table.now) (length a.log.now) 0 (length a.main.now) 0 (length a.staging.now) ≡ true =
    sym c.are_fine.ensures ∙ c.if-not-are_fine.false in
    let sizes : let a = c.args in Fine (length a.table.now) (length a.log.now) 0 (length a.main.now) =
    let a = c.args in
    lengths (length a.table.now) (length a.log.now) 0 (length a.main.now) 0 (length a.staging.now) (fine) in
    let a = c.args in
    let p = rw c.empty_wal.ensures at c.open_store.ensures in
    let both = create-done a.table.now a.log.now a.main.now a.staging.now a.salt (fine) (sizes).area p c.clear_table.ensures c.create.ensures.1 c.store_pages.ensures in
    record { value = both.0; table_after = both.1.0; log_after = both.1.1.0; main_after = both.1.1.1 }
