use mathlib.Core.Path.{sym, ap, ◌∙◌}
use Prim.Native.Nat.{min}
use Rattle.pager_state.proofs.Slots.{find-take}
use Rattle.pager_state.proofs.find_among.Goals as goal

pub returns : goal.returns
returns c =
    let a = c.args in
    record { value = c.min.ensures ∙ ap (min a.n) c.find.ensures ∙ sym (find-take a.s.now a.n a.p); s_len = c.find-arg-1.given }
