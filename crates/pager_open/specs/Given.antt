-- What creation and the openings are handed, as the definitions of `pager_state` take it.
use Rattle.std.specs.Prelude.{Bool, List, ℕ}
use Rattle.pager_state.specs.Stores.{Disk}
use Rattle.pager_state.specs.Opening.{How}
use Rattle.pager_state.specs.declared.AccessMode.{AccessMode}
use Rattle.pager_open.specs.declared.OpenOptions.{OpenOptions}

-- "who also says whether a log exists"; true is the clean opening
abbrev pub how : Bool → AccessMode → Bool → ℕ → How
how clean access exists salt = record { clean = clean; access = access; exists = exists; salt = salt }

abbrev pub how_of : OpenOptions → How
how_of o = how o.clean o.access_mode o.log_exists o.salt

-- the two files, each with its area and length
abbrev pub files : List ℕ → ℕ → List ℕ → ℕ → Disk
files main main_len log log_len = record { main = record { area = main; len = main_len }; log = record { area = log; len = log_len } }
