use Rattle.pager_state.specs.Overlay.{slot_of}
use Rattle.pager_state.proofs.slot_of.Goals as goal

pub returns : goal.returns
unfolding slot_of
returns c = c.find_in.ensures.value
