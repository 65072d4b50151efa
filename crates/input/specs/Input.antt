-- What reading answers. No contract can say which bytes a read brings.
use Rattle.std.specs.Prelude.{List, ℕ, ◌≤◌, length, Result, IfOk}

-- the bytes that were read lie in the buffer
abbrev pub Within : {E : Type 0} → List ℕ → Result ℕ E → Type 0
Within buf r = IfOk r (λ n. n ≤ length buf)
