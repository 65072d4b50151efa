use native.Mathlib.Omega.{arith}
use mathlib.Core.Path.{refl, ◌∙◌}
use Rattle.le.proofs.Stores.{store-put}
use Rattle.log_listing.proofs.add_text.Goals as goal

pub returns : goal.returns
returns c = record { most = omega arith; place = refl; bytes = c.write_bytes.ensures.1 ∙ store-put _ _ _ c.requires }
