-- What an opening comes to: the open store, or a refusal. The call answers it as an `Outcome`,
-- beside a refusal with a store without pages (`opened_answer`).
use Rattle.refusal.specs.declared.Refusal.{Refusal}
use Rattle.pager_state.specs.declared.Pager.{Pager}

pub data Opens : Type 0 where
  Opened : Pager → Opens
  Refused : Refusal → Opens
