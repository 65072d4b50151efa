use Rattle.std.proofs.Common.{◌≡◌, true, false, ◌+◌, ◌-◌, ◌*◌, ◌/◌, ◌≤◌}
use Rattle.text.specs.Windows.{fits_from, AllFit, Begun}
use Rattle.text.proofs.judge_window.Given as goal

abbrev pub invariant-loop-j : goal.invariant-loop-j
invariant-loop-j l = record {
  even : l.twice / 2 * 2 ≡ l.twice;
  few : l.twice / 2 ≤ l.j;
  fit : l.all ≡ true → AllFit l.s l.from l.j;
  ill : l.all ≡ false → fits_from l.s l.from ≡ false;
  counted : Begun l.s (l.from + 3 + l.skip) (l.from + 3 + l.skip + (l.j - l.skip)) (l.twice / 2);
}
