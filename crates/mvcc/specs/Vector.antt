-- The elements of a vector: "count (4) and f32s". Index i is there if it is below the count and its 4 bytes lie in the body.
use Rattle.std.specs.Prelude.{List, ℕ, ◌+◌, ◌*◌, leb, ltb, length, Option, Some, None}
use Rattle.std.specs.Float.{binary32}
use Rattle.std.specs.Float.Ieee.{nan_bits, of_bits}
use Rattle.le.specs.Choice.{pick, both}
use Rattle.le.specs.Le.{field}
use Rattle.mvcc.specs.declared.Element.{Element}
use Rattle.mvcc.specs.declared.Element.TheVariants as element

unfoldable pub bits_at : List ℕ → ℕ → ℕ → ℕ → Option ℕ
bits_at s start count i =
    pick (both (ltb i count) (leb (start + 4 * i + 4) (length s))) (Some (field 4 (start + 4 * i) s)) None

-- "A float is its bits": a NaN's bits as they are, any others as the float that has them
unfoldable pub float_of : Option ℕ → Option Element
float_of (Some n) = Some (pick (nan_bits binary32 n) (element.Nan n) (element.Real (of_bits binary32 n)))
float_of None = None

unfoldable pub element_at : List ℕ → ℕ → ℕ → ℕ → Option Element
element_at s start count i = float_of (bits_at s start count i)
