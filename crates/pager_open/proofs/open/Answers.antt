use mathlib.Core.Path.{◌≡◌, sym, ◌∙◌}
use mathlib.Core.Bool.{true}
use lib.ListN.{length}
use Rattle.pager_state.specs.Stores.{Disk}
use Rattle.pager_state.specs.Opening.{How}
use Rattle.pager_open.specs.Given.{how_of, files}
use Rattle.pager_state.specs.World.{lengths_fine}
use Rattle.pager_open.proofs.Opened.{Fine, lengths, area-refused, judged-refused, judged-opened}
use Rattle.pager_open.proofs.open.Goals as goal

pub returns-then-not-are_fine : goal.returns-then-not-are_fine
returns-then-not-are_fine c =
    let a = c.args in
    let how : How = how_of a.options in
    let d : Disk = files a.main.now a.main_len a.log.now a.log_len in
    let both = area-refused how d a.table.now a.staging.now (sym c.are_fine.ensures ∙ c.if-not-are_fine.true) c.refused.ensures in
    record { result_value = both.0; table_after = both.1.0; log_after = both.1.1 }

pub returns-in_default : goal.returns-in_default
returns-in_default c =
    let fine : let a = c.args in lengths_fine (length a.table.now) (length a.log.now) a.log_len (length a.main.now) a.main_len (length a.staging.now) ≡ true =
    sym c.are_fine.ensures ∙ c.if-not-are_fine.false in
    let a = c.args in
    let how : How = how_of a.options in
    let d : Disk = files a.main.now a.main_len a.log.now a.log_len in
    let both = judged-refused how d a.table.now a.staging.now (fine) c.judge-opened.result c.judge-opened.ensures _ c.in_default.is in
    record { result_value = both.0; table_after = both.1.0; log_after = both.1.1 }

pub returns : goal.returns
returns c =
    let fine : let a = c.args in lengths_fine (length a.table.now) (length a.log.now) a.log_len (length a.main.now) a.main_len (length a.staging.now) ≡ true =
    sym c.are_fine.ensures ∙ c.if-not-are_fine.false in
    let sizes : let a = c.args in Fine (length a.table.now) (length a.log.now) a.log_len (length a.main.now) =
    let a = c.args in
    lengths (length a.table.now) (length a.log.now) a.log_len (length a.main.now) a.main_len (length a.staging.now) (fine) in
    let a = c.args in
    let how : How = how_of a.options in
    let d : Disk = files a.main.now a.main_len a.log.now a.log_len in
    let t = rw c.part.ensures at c.fill_table.ensures in
    let both = judged-opened how d a.table.now a.staging.now (fine) c.judge-opened.result c.judge-opened.ensures c.in-Ok.is (sizes).area t c.store_log.ensures in
    record { result_value = both.0; table_after = both.1.0; log_after = both.1.1 }
