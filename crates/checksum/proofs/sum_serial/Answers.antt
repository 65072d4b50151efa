use Rattle.std.proofs.Common.{◌≡◌, ◌∙◌, rules}
use Rattle.std.specs.List.{fold}
use Rattle.checksum.specs.Checksum.{sum_step}
use Rattle.checksum.proofs.Sums.{fold-sum_step}
use Rattle.checksum.proofs.sum_serial.Goals as goal

pub returns : goal.returns
returns c =
    let e : c.fold.result ≡ fold sum_step c.args.start c.args.bytes.now = search rules in
    e ∙ fold-sum_step c.args.start c.args.bytes.now
