use mathlib.Core.Path.{sym, ◌∙◌}
use Prim.Native.Nat.{◌+◌, ◌≤◌}
use native.Mathlib.Omega.{arith}
use lib.ListN.{length, drop_of_length-le}
use lib.Seq.{take-nil}
use Rattle.frame.proofs.Places.{body-there}
use Rattle.frame.proofs.frame_body.Goals as goal

pub returns-then-log-at : goal.returns-then-log-at
returns-then-log-at c =
    let a = c.args in
    let past : length a.log.now ≤ a.at + 16 = omega arith in
    rw (body-there a.at a.log.now, drop_of_length-le a.log.now past) (sym (take-nil 4096))

pub returns : goal.returns
returns c =
    let a = c.args in
    c.part.ensures ∙ sym (body-there a.at a.log.now)
