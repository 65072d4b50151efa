use native.Mathlib.Omega.{arith}
use mathlib.Core.Path.{◌≡◌, ◌∙◌}
use Prim.Native.Nat.{ℕ}
use Rattle.wal.specs.Write.{empty_wal, truncated_header}
use Rattle.wal.proofs.Encoding.{length-encode_wal_header}
use Rattle.pager_checkpoint.proofs.Checkpointing.{truncated-as, truncated-log}
use Rattle.pager_checkpoint.proofs.last_step.Goals as goal

pub returns-in_default : goal.returns-in_default
returns-in_default c =
    let t = truncated-as c.args.log.now c.args.pager.wal c.args.salt c.requires in
    let z : ◌≡◌ {A = ℕ} 0 1 = cc (t, c.truncate.ensures.0, c.in_default.is) in
    absurd (omega arith)

pub returns : goal.returns
returns c =
    let l = c.args.log.now in
    let v = c.args.pager.wal in
    let t = truncated-as l v c.args.salt c.requires in
    let e : c.in-Ok.wal ≡ empty_wal (truncated_header v.header c.args.salt) = cc (t, c.truncate.ensures.0, c.in-Ok.is) in
    let n = length-encode_wal_header (truncated_header v.header c.args.salt) in
    record { answer_value = rw n; pager_value = c.with_wal-next.ensures ∙ rw e; table_after = c.checkpoint_table.ensures; log_after = c.truncate.ensures.1 ∙ truncated-log l v c.args.salt c.requires }
