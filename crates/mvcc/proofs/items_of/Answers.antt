use native.Mathlib.Omega.{arith}
use Rattle.mvcc.proofs.items_of.Goals as goal

pub overflow_add-result : goal.overflow_add-result
overflow_add-result c = omega (arith, rw c.in-Present.is at c.requires)

pub returns-in-Tombstone : goal.returns-in-Tombstone
returns-in-Tombstone c = rw c.in-Tombstone.is

pub returns-in-Present : goal.returns-in-Present
returns-in-Present c = rw c.in-Present.is
