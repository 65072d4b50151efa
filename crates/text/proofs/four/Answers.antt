use Rattle.text.specs.Utf8.{four}
use Rattle.text.proofs.four.Goals as goal

pub returns : goal.returns
unfolding four
returns c = rw (c.continues-3.ensures, c.continues-2.ensures, c.continues.ensures, c.pair-2.ensures, c.pair.ensures, c.pair-p.ensures)
