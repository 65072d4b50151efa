use native.Mathlib.Omega.{arith}
use mathlib.Core.Path.{◌∙◌}
use Prim.Native.Nat.{◌≤◌}
use lib.ListN.{length}
use Rattle.pager_checkpoint.proofs.Checkpointing.{body-of-page, length-page}
use Rattle.pager_checkpoint.proofs.page_step.Goals as goal

pub store_bytes-len-requires : goal.store_bytes-len-requires
store_bytes-len-requires c =
    let b = body-of-page c.args.table.now c.args.log.now c.args.page c.frame_of.ensures c.frame_body-bytes.ensures in
    let n : length c.frame_body-bytes.result.now ≤ 4096 = rw b (length-page c.args.table.now c.args.log.now c.args.page) in
    omega (arith, n)

pub returns : goal.returns
returns c =
    let b = body-of-page c.args.table.now c.args.log.now c.args.page c.frame_of.ensures c.frame_body-bytes.ensures in
    record { answer_value = rw b; pager_value = c.with_main-next.ensures ∙ rw (c.store_bytes-len.ensures.0, b); main_after = c.store_bytes-len.ensures.1 ∙ rw b }
