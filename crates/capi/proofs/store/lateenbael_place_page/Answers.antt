use mathlib.Core.Path.{ap, ◌∙◌}
use Rattle.std.specs.Prelude.{Ok}
use Rattle.capi_answers.specs.Answers.{found_as}
use Rattle.capi.proofs.store.lateenbael_place_page.Goals as goal

pub returns : goal.returns
returns c = c.found_as.ensures ∙ ap (λ x. found_as (Ok x)) c.place_page.ensures
