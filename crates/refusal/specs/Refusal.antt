-- Document 01's table of refusals, and how a call is judged by it.
use Rattle.std.specs.Prelude.{Option, None, Some, Bool, true, false, ℕ}
use Rattle.refusal.specs.declared.Row.{Row}
use Rattle.refusal.specs.declared.Refusal.{Refusal}
use Rattle.refusal.specs.declared.Refusal.TheVariants as refusal

-- ---- the table

-- a row's number; 14 has the "lowest page" besides, the others 0
abbrev pub plain : ℕ → Row
plain n = record { number = n; page = 0 }

abbrev pub row_of : Refusal → Row
row_of refusal.Area = plain 1
row_of refusal.Short = plain 2
row_of refusal.Magic = plain 3
row_of refusal.Version = plain 4
row_of refusal.PageSize = plain 5
row_of refusal.Limit = plain 6
row_of refusal.MainShort = plain 7
row_of refusal.PageZero = plain 8
row_of refusal.Busy = plain 9
row_of refusal.ReadOnly = plain 10
row_of refusal.Page = plain 11
row_of refusal.Staging = plain 12
row_of refusal.NewHeader = plain 13
row_of (refusal.Joining n) = record { number = 14; page = n }
row_of refusal.LogFull = plain 15
row_of refusal.Clock = plain 16
row_of refusal.Truncated = plain 17
row_of refusal.Tag = plain 18
row_of refusal.Text = plain 19
row_of refusal.Fit = plain 20
row_of refusal.NoRecord = plain 21

abbrev pub number : Refusal → ℕ
number r = (row_of r).number

abbrev pub lowest_page : Refusal → ℕ
lowest_page r = (row_of r).page

-- ---- judging: none is no refusal

-- the refusal unless a condition is met, before what is judged behind it: so "lowest number first" is the order of the lines
abbrev pub unless : Bool → Refusal → Option Refusal → Option Refusal
unless true r rest = rest
unless false r rest = Some r

-- the first of two judgements
abbrev pub first : Option Refusal → Option Refusal → Option Refusal
first None rest = rest
first (Some r) rest = Some r

abbrev pub accepts : Option Refusal → Bool
accepts None = true
accepts (Some r) = false

-- the number of a judgement; 0 is no refusal
abbrev pub number_of : Option Refusal → ℕ
number_of None = 0
number_of (Some r) = number r

-- the answer that a judgement comes to: the result, or the refusal as the answer has it
abbrev pub answered : {A : Type 0} → (Refusal → A) → A → Option Refusal → A
answered refused result None = result
answered refused result (Some r) = refused r
