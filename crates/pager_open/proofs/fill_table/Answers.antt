use mathlib.Core.Path.{ap, ◌∙◌}
use Prim.Native.Nat.{ℕ, ◌+◌, ◌*◌}
use native.Mathlib.Omega.{arith}
use Rattle.frame.specs.declared.FrameHeader.{FrameHeader}
use Rattle.pager_state.specs.Commit.{with_entry}
use Rattle.pager_state.specs.Opening.{table_of}
use Rattle.pager_open.proofs.Front.{front-all}
use Rattle.pager_open.proofs.Table.{entering-on}
use Rattle.pager_open.proofs.fill_table.Goals as goal

pub loop-index-preserved : goal.loop-index-preserved
loop-index-preserved c =
    let l = c.loop-index in
    let n = ap (λ (x : FrameHeader). x.page_num) c.read_frame_header-header.ensures in
    λ h e. entering-on h c.args.file.now l.table l.index (l.invariant h e) (omega arith) (c.enter_frame.ensures ∙ ap (λ (p : ℕ). with_entry l.table p (32 + 4112 * l.index)) n)

pub returns : goal.returns
returns c =
    let l = c.loop-index in
    l.invariant c.args.main_header c.clear_table.ensures ∙ ap (table_of c.args.main_header) (front-all c.args.file.now l.index (omega arith))
