use Rattle.pager_state.specs.declared.Pager.{Pager}
use Rattle.capi_answers.specs.Answers.{checkpoint_begun_as}
use Rattle.capi.proofs.Calls.{by}
use Rattle.pager_state.specs.World.{world}
use Rattle.pager_state.specs.Steps.{begin_checkpoint}
use Rattle.pager_state.specs.declared.CheckpointStart.{CheckpointStart}
use Rattle.pager_state.specs.declared.Outcome.{Outcome}
use Rattle.capi.proofs.store.lateenbael_begin_checkpoint.Goals as goal

pub returns : goal.returns
returns c =
    let a = c.args in
    by (λ (x : Outcome CheckpointStart). checkpoint_begun_as x.answer x.pager) (λ (p : Pager). begin_checkpoint a.staging.now (world p a.table.now a.log.now a.main.now) a.salt) c.from.ensures c.begin_checkpoint.ensures c.checkpoint_begun_as.ensures
