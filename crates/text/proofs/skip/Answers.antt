use Rattle.std.proofs.Common.{◌≡◌, length, sym, ◌∙◌, arith}
use Rattle.std.specs.Slice.Iter.{chunks_exact_rest}
use Rattle.text.proofs.skip.Goals as goal
use Rattle.text.proofs.Laws.{ascii-part, ascii-joined, part-inside, part-rest}

pub loop-block-preserved : goal.loop-block-preserved
loop-block-preserved c =
    let v = c.loop-block in
    let i = v.invariant in
    let s = c.args.s.now in
    let q = c.in-Some.ensures.steps in
    let u = chunks_exact_rest c.next.new.self in
    let e = sym i.rest ∙ q.1.0 in
    let n : length c.in-Some.block.now ≡ c.args.n = q.1.1 ∙ i.size in
    record {
      from = omega (arith, i.from);
      inside = rw n at (part-inside s c.in-Some.block.now u v.at e i.inside);
      passed = ascii-joined s _ v.at _ i.passed (ascii-part s c.in-Some.block.now u v.at e _ (c.is_ascii.ensures c.if-not-is_ascii.false) (omega (arith, n)));
      rest = rw n at (part-rest s c.in-Some.block.now u v.at e);
      size = q.0 ∙ i.size;
    }
