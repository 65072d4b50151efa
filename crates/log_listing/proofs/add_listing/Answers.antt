use mathlib.Core.Path.{sym, ◌∙◌}
use Rattle.log_listing.proofs.Lines.{long-added, listing-added}
use Rattle.wal.proofs.Opening.{open-known}
use Rattle.log_listing.proofs.add_listing.Goals as goal

pub returns-then-file-gt-LISTED_SIZE : goal.returns-then-file-gt-LISTED_SIZE
returns-then-file-gt-LISTED_SIZE c = long-added _ c.if-file-gt-LISTED_SIZE.true c.add_refused.ensures

pub add_opened-requires : goal.add_opened-requires
add_opened-requires c =
    let k = open-known c.args.file.now _ (sym c.open.ensures ∙ c.in-Ok.is) in
    (c.if-file-gt-LISTED_SIZE.false, k.known, c.requires)

pub returns-in-Ok : goal.returns-in-Ok
returns-in-Ok c = listing-added _ _ c.if-file-gt-LISTED_SIZE.false (sym c.open.ensures ∙ c.in-Ok.is) c.add_opened.ensures

pub returns-in-Err : goal.returns-in-Err
returns-in-Err c = listing-added _ _ c.if-file-gt-LISTED_SIZE.false (sym c.open.ensures ∙ c.in-Err.is) c.add_refused-in-Err.ensures
