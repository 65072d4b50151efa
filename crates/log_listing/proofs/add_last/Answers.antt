use Rattle.log_listing.proofs.Pieces.{added-most}
use Rattle.log_listing.proofs.Lines.{count-added, none-added}
use native.Mathlib.Omega.{arith}
use Rattle.log_listing.proofs.add_last.Goals as goal

pub returns-in-Some : goal.returns-in-Some
returns-in-Some c = count-added _ _ c.in-Some.is c.add_number.ensures

pub returns-in-None : goal.returns-in-None
returns-in-None c = none-added _ c.in-None.is (added-most (omega arith) c.add_text.ensures)
