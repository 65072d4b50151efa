use Rattle.std.proofs.Common.{◌≡◌, ◌*◌, ◌/◌, length, take, ◌∙◌, rules}
use Rattle.std.specs.List.{fold}
use Rattle.checksum.specs.Checksum.{sum_from}
use Rattle.checksum.proofs.Sums.{fold-first_chunks, sum_from-cut}
use Rattle.checksum.proofs.sum_eights.Goals as goal

pub returns : goal.returns
returns c =
    let a = c.args in
    let l = a.bytes.now in
    let e : c.fold-sum.result ≡ fold sum_from a.start c.as_chunks.result.0.now = search rules in
    let f : c.fold-sum.result ≡ sum_from a.start (take (length l / 8 * 8) l) =
    e ∙ rw c.as_chunks.ensures.front (fold-first_chunks 8 (length l / 8) a.start l) in
    c.sum_serial.ensures ∙ rw (f, c.as_chunks.ensures.back) (sum_from-cut (length l / 8 * 8) a.start l)
