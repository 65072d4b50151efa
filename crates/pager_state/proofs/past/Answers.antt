use mathlib.Core.Path.{sym, ◌∙◌}
use Rattle.pager_state.proofs.Slots.{block_none}
use Rattle.pager_state.proofs.past.Goals as goal

pub returns-then-is_none_of : goal.returns-then-is_none_of
returns-then-is_none_of c =
    let a = c.args in
    λ h. rw (sym (block_none a.s.now a.p a.at a.k c.requires h) ∙ sym c.is_none_of.ensures ∙ c.if-is_none_of.true)

pub returns-else-is_none_of : goal.returns-else-is_none_of
returns-else-is_none_of c =
    let a = c.args in
    λ h. rw (sym (block_none a.s.now a.p a.at a.k c.requires h) ∙ sym c.is_none_of.ensures ∙ c.if-is_none_of.false)
