use Rattle.std.proofs.Common.{◌≡◌, true, false, ◌+◌, ◌≤◌}
use Rattle.text.specs.Windows.{fits_from, AllFit, Begun}
use Rattle.text.proofs.judge_block.Given as goal

abbrev pub invariant-loop-j : goal.invariant-loop-j
invariant-loop-j l = record {
  few : l.begun ≤ l.j;
  fit : l.all ≡ true → AllFit l.s l.from l.j;
  ill : l.all ≡ false → fits_from l.s l.from ≡ false;
  counted : Begun l.s (l.from + 3) (l.from + 3 + l.j) l.begun;
}
