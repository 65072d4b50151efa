-- How a header is judged, the main file's and the log's alike.
use Rattle.std.specs.Prelude.{Option, None, Bool}
use Rattle.refusal.specs.Refusal.{unless}
use Rattle.refusal.specs.declared.Refusal.{Refusal}
use Rattle.refusal.specs.declared.Refusal.TheVariants as refusal

-- what is fine of a header's bytes: their length, the leading ones, the version and the page size
pub record Tests : Type 0 where
  pub long : Bool
  pub leading : Bool
  pub version : Bool
  pub paged : Bool

abbrev pub header_refusal : Tests → Option Refusal
header_refusal t =
    unless t.long refusal.Short
    (unless t.leading refusal.Magic
    (unless t.version refusal.Version
    (unless t.paged refusal.PageSize None)))
