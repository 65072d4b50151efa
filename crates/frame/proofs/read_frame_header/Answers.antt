use mathlib.Core.Path.{◌≡◌}
use native.Mathlib.Omega.{arith}
use Prim.Native.Nat.{ℕ, ◌+◌, ◌≤◌}
use Rattle.le.specs.Le.{whole_field}
use Rattle.frame.specs.Frame.{frame_at, frame_header}
use Rattle.frame.proofs.Places.{heading-field}
use Rattle.frame.proofs.read_frame_header.Goals as goal

pub returns : goal.returns
unfolding frame_header
returns c =
    let a = c.args in
    let read : (k : ℕ) → k + 4 ≤ 16 → whole_field 4 k c.part-heading.result.now ≡ whole_field 4 k (frame_at a.at a.log.now) =
    λ k h. rw c.part-heading.ensures (heading-field a.at a.log.now k h) in
    rw (
      c.read_u32.ensures,
      c.read_u32-2.ensures,
      c.read_u32-3.ensures,
      c.read_u32-4.ensures,
      read 0 (omega arith),
      read 4 (omega arith),
      read 8 (omega arith),
      read 12 (omega arith),
    )
