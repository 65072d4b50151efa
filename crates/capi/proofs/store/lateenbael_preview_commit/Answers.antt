use Prim.Native.Nat.{ℕ}
use Rattle.pager_state.specs.World.{world}
use Rattle.pager_state.specs.declared.Pager.{Pager}
use Rattle.pager_preview.specs.Preview.{preview_commit}
use Rattle.capi_answers.specs.Answers.{previewed_as}
use Rattle.capi.proofs.Calls.{by}
use Rattle.capi.proofs.store.lateenbael_preview_commit.Goals as goal

pub returns : goal.returns
returns c =
    let a = c.args in
    λ (salt : ℕ). by previewed_as (λ (p : Pager). preview_commit a.staging.now (world p a.table.now a.log.now a.main.now) a.new_header salt) c.from.ensures (c.preview_commit.ensures salt) c.previewed_as.ensures
