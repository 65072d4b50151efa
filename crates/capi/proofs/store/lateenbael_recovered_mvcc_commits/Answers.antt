use Rattle.pager_state.specs.declared.Pager.{Pager}
use Rattle.capi_answers.specs.Answers.{recovered_as}
use Rattle.capi.proofs.Calls.{by}
use Rattle.pager_state.specs.Batches.{next_recovered}
use Rattle.capi.proofs.store.lateenbael_recovered_mvcc_commits.Goals as goal

pub returns : goal.returns
returns c =
    let a = c.args in
    by recovered_as (λ (p : Pager). next_recovered p a.log.now a.index) c.from.ensures c.recovered_mvcc_commits.ensures c.recovered_as.ensures
