-- A choice by a test, and two tests at once: what every definition with refusals is made of.
use Rattle.std.specs.Prelude.{Bool, true, false}

-- the first where the test holds, otherwise the second
abbrev pub pick : {A : Type 0} → Bool → A → A → A
pick true a b = a
pick false a b = b

-- both tests hold
abbrev pub both : Bool → Bool → Bool
both true b = b
both false b = false
