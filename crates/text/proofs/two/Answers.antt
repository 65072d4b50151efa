use Rattle.text.specs.Utf8.{two}
use Rattle.text.proofs.two.Goals as goal

pub returns : goal.returns
unfolding two
returns c = cc
