use Rattle.log_listing.proofs.Lines.{Lines}
use Rattle.log_listing.proofs.add_frames.Given as goal

abbrev pub invariant-loop-i : goal.invariant-loop-i
invariant-loop-i l = Lines l.file l.initial.out l.at l.out l.end l.i
