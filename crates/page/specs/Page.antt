-- A page of the main file: its size, one that holds a header, and the page 1 that creation writes.
use Rattle.std.specs.Prelude.{Err, Ok, Result, List, ◌∷◌, ◌++◌, ℕ, eqb, length, replicate}
use Rattle.refusal.specs.declared.Refusal.{Refusal}
use Rattle.refusal.specs.declared.Refusal.TheVariants as refusal
use Rattle.le.specs.Choice.{pick}
use Rattle.le.specs.Le.{le_bytes}

-- "page 4,096 bytes"
abbrev pub page_size : ℕ
page_size = 4096

-- a page that has only a header's 32 bytes in front: "the rest is written zero"
abbrev pub front_page : List ℕ → List ℕ
front_page front = front ++ replicate 4064 0

-- `TablePage::empty` behind the page heading of 7 bytes (type 2, next page 0, payload length 0):
-- no slot, and the cells begin at the end of the payload, 4,089
unfoldable pub empty_table_page : List ℕ
empty_table_page = (2 ∷ le_bytes 4 0) ++ (le_bytes 2 0 ++ (le_bytes 2 0 ++ (le_bytes 2 4089 ++ replicate 4085 0)))

-- a page is written where the area lent for it has a page's length; what that answers, and the area afterwards
abbrev pub empty_answer : List ℕ → Result (Unit {0}) Refusal
empty_answer l = pick (eqb (length l) page_size) (Ok tt) (Err refusal.Area)

abbrev pub empty_after : List ℕ → List ℕ
empty_after l = pick (eqb (length l) page_size) empty_table_page l
