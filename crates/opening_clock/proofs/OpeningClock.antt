-- The clock that a clean opening takes. Assumes nothing.
use Rattle.history.proofs.GuardFound.{accepted-found, cut-found}
use Rattle.opening_clock.specs.OpeningClock.{OpeningClock}
use Rattle.opening_clock.proofs.Found.{opening, no-older}
use Rattle.opening_clock.proofs.NewStore.{falls}

pub opening-clock : OpeningClock
opening-clock =
    record {
      openings = opening;
      opened = λ t l m g salt f small es typed o lent e. no-older _ (accepted-found t l m g salt f small es typed o lent e);
      reopened = λ t l m g salt f small es typed c j k attempts lent z. no-older _ (cut-found t l m g salt f small es typed c j k attempts lent z);
      falls = falls;
    }
