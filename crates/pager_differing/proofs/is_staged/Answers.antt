use Rattle.pager_state.proofs.Held.{slots}
use Rattle.pager_differing.proofs.Differing.{by-slot}
use Rattle.pager_differing.proofs.is_staged.Goals as goal

pub returns : goal.returns
returns c =
    let a = c.args in
    by-slot a.staged (slots a.staged _ c.well_formed.0) a.page c.find_among.ensures.value c.min-slots.ensures
