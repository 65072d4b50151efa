-- What a preview of a commit tells. Assumes nothing.
use Rattle.history.specs.Run.{start}
use Rattle.history.proofs.GuardNew.{new-made}
use Rattle.history.proofs.GuardHistories.{made-history}
use Rattle.commit_preview.specs.CommitPreview.{CommitPreview}
use Rattle.commit_preview.proofs.Foretold.{told, foretold}

pub commit-preview : CommitPreview
commit-preview =
    record {
      told = told;
      foretold = λ t l m g salt f small es typed h next other. foretold _ (made-history es (start t l m g salt) (new-made t l m g salt f)).slots h next other;
    }
