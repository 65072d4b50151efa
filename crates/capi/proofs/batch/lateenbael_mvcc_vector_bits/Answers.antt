use mathlib.Core.Path.{sym, ap, ◌∙◌}
use Rattle.capi.specs.Batch.{element_numbers}
use Rattle.capi.proofs.batch.lateenbael_mvcc_vector_bits.Goals as goal

pub returns-in-Some : goal.returns-in-Some
returns-in-Some c = ap element_numbers (sym c.in-Some.is ∙ c.vector_bits.ensures)

pub returns-in-None : goal.returns-in-None
returns-in-None c = ap element_numbers (sym c.in-None.is ∙ c.vector_bits.ensures)
