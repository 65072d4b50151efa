use Rattle.std.proofs.Common.{◌≡◌, ◌≤◌, length, drop}
use Rattle.std.specs.Slice.Iter.{chunks_exact_rest, chunks_exact_size}
use Rattle.text.specs.Walk.{Ascii}
use Rattle.text.proofs.skip.Given as goal

abbrev pub invariant-loop-block : goal.invariant-loop-block
invariant-loop-block l = record {
  from : l.start ≤ l.at;
  inside : l.at ≤ length l.s;
  passed : Ascii l.s l.start l.at;
  rest : chunks_exact_rest l.block-iterator ≡ drop l.at l.s;
  size : chunks_exact_size l.block-iterator ≡ l.n;
}
