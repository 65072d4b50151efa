use mathlib.Core.Path.{◌≡◌, refl}
use mathlib.Core.Bool.{Bool, true, false, not, beq}
use Rattle.le.specs.Choice.{pick}
use Rattle.text.specs.Windows.{fits}
use Rattle.text.proofs.fits.Goals as goal

same : (x y : Bool) → beq x y ≡ pick x y (not y)
same true true = refl
same true false = refl
same false true = refl
same false false = refl

pub returns : goal.returns
unfolding fits
returns c = rw (same c.is_open.result c.continues.result, c.highest.ensures, c.lowest.ensures, c.continues.ensures, c.is_open.ensures)
