use Rattle.pager_state.specs.declared.Pager.{Pager}
use Rattle.capi_answers.specs.Answers.{found_as}
use Rattle.capi.proofs.Calls.{by}
use Rattle.pager_state.specs.World.{world}
use Rattle.pager_state.specs.Overlay.{find_page}
use Rattle.capi.proofs.store.lateenbael_find_page.Goals as goal

pub returns : goal.returns
returns c =
    let a = c.args in
    by found_as (λ (p : Pager). find_page (world p a.table.now a.log.now a.main.now) a.staging.now a.page_num) c.from.ensures c.find_page.ensures c.found_as.ensures
