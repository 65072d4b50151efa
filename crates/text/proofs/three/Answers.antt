use Rattle.text.specs.Utf8.{three}
use Rattle.text.proofs.three.Goals as goal

pub returns : goal.returns
unfolding three
returns c = rw (c.continues-2.ensures, c.continues.ensures, c.pair-3.ensures, c.pair-2.ensures, c.pair.ensures, c.pair-p.ensures)
