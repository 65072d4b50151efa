-- What is known of a refusal by its row.
use mathlib.Core.Path.{◌≡◌, refl}
use native.Mathlib.Omega.{arith}
use Rattle.std.specs.Prelude.{Option, None, Some}
use Rattle.refusal.specs.Refusal.{number, number_of}
use Rattle.refusal.specs.declared.Refusal.{Refusal}
use Rattle.refusal.specs.declared.Refusal.TheVariants as refusal

-- no row has the number 0
pub numbered : (r : Refusal) → number r ≡ 0 → ⊥
numbered refusal.Area e = omega arith
numbered refusal.Short e = omega arith
numbered refusal.Magic e = omega arith
numbered refusal.Version e = omega arith
numbered refusal.PageSize e = omega arith
numbered refusal.Limit e = omega arith
numbered refusal.MainShort e = omega arith
numbered refusal.PageZero e = omega arith
numbered refusal.Busy e = omega arith
numbered refusal.ReadOnly e = omega arith
numbered refusal.Page e = omega arith
numbered refusal.Staging e = omega arith
numbered refusal.NewHeader e = omega arith
numbered (refusal.Joining n) e = omega arith
numbered refusal.LogFull e = omega arith
numbered refusal.Clock e = omega arith
numbered refusal.Truncated e = omega arith
numbered refusal.Tag e = omega arith
numbered refusal.Text e = omega arith
numbered refusal.Fit e = omega arith
numbered refusal.NoRecord e = omega arith

-- a judgement whose number is 0 is no refusal
pub accepted : (v : Option Refusal) → number_of v ≡ 0 → v ≡ None
accepted None e = refl
accepted (Some r) e = absurd (numbered r e)
