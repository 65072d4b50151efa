use Rattle.pager_state.specs.declared.Pager.{Pager}
use Rattle.capi_answers.specs.Answers.{commit_begun_as}
use Rattle.capi.proofs.Calls.{by}
use Rattle.pager_state.specs.World.{world}
use Rattle.pager_state.specs.Steps.{begin_commit}
use Rattle.pager_state.specs.declared.Outcome.{Outcome}
use Rattle.capi.proofs.store.lateenbael_begin_commit.Goals as goal

pub returns : goal.returns
returns c =
    let a = c.args in
    by (λ (x : Outcome (Unit {0})). commit_begun_as x.answer x.pager) (λ (p : Pager). begin_commit a.staging.now (world p a.table.now a.log.now a.main.now) a.new_header a.salt) c.from.ensures c.begin_commit.ensures c.commit_begun_as.ensures
