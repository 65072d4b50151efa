-- What the check of a text answers, in numbers: 0 and how many scalar values it has, or document 01's number of the refusal and 0.
use Rattle.std.specs.Prelude.{ℕ, Option, Some, None}
use Rattle.refusal.specs.Refusal.{number}
use Rattle.refusal.specs.declared.Refusal.TheVariants.{Text}
use Rattle.capi.specs.declared.texts.TextAnswer.{TextAnswer}

abbrev pub text_numbers : Option ℕ → TextAnswer
text_numbers (Some n) = record { refusal = 0; chars = n }
text_numbers None = record { refusal = number Text; chars = 0 }
