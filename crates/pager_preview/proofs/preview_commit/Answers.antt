use Rattle.std.proofs.lemmas.Result.{err_from_is_err_and}
use Rattle.pager_state.specs.World.{world}
use Rattle.pager_state.proofs.Held.{held-slots}
use Rattle.pager_preview.proofs.Judged.{refused-shown, begun-fits, begun-shown}
use Rattle.pager_preview.proofs.preview_commit.Goals as goal

pub returns-in_err-judged : goal.returns-in_err-judged
returns-in_err-judged c =
    let a = c.args.areas in
    let w = world c.args.pager a.table.now a.log.now a.main.now in
    let p = err_from_is_err_and c.from_residual.result c.from_residual.ensures.1 in
    λ salt. rw (p.1, p.2) (refused-shown a.staging.now w c.args.new_header c.in_err-judged.ensures.answer_value salt)

pub end_of-requires : goal.end_of-requires
end_of-requires c =
    let a = c.args.areas in
    let w = world c.args.pager a.table.now a.log.now a.main.now in
    let j = c.in_ok-judged.ensures in
    let fits = begun-fits a.staging.now w c.args.new_header j.answer_value j.begins.pages in
    record { pages_bound = fits.0; page_count_le_page_limit = fits.1 }

pub returns : goal.returns
returns c =
    let a = c.args.areas in
    let w = world c.args.pager a.table.now a.log.now a.main.now in
    let j = c.in_ok-judged.ensures in
    begun-shown a.staging.now w c.args.new_header j.answer_value j.begins.pages (held-slots c.args.pager _ c.well_formed.0) c.end_of.ensures
