use native.Mathlib.Omega.{arith}
use mathlib.Core.Path.{◌≡◌}
use Prim.Native.Nat.{◌+◌, ◌-◌}
use lib.ListN.{length}
use Rattle.text.proofs.ends_open.Goals as goal

pub returns : goal.returns
returns c =
    let n = length c.args.s.now in
    let e : n - 3 + 1 ≡ n - 2 = omega arith in
    let f : n - 3 + 2 ≡ n - 1 = omega arith in
    rw (e, f) c.is_open.ensures
