use mathlib.Core.Path.{refl}
use Rattle.pager_state.specs.Opening.{opens_as, empty_staged}
use Rattle.pager_open.proofs.open_store.Goals as goal

pub returns : goal.returns
unfolding opens_as empty_staged
returns c = refl
