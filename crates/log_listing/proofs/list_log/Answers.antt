use borrow.Author.Tests.{le-leb, lt-leb}
use native.Mathlib.Nat.{zero-add}
use Rattle.log_listing.specs.Answer.{listed_answer, listed_after}
use Rattle.log_listing.proofs.list_log.Goals as goal

pub returns-then-out-lt-LISTING_SIZE : goal.returns-then-out-lt-LISTING_SIZE
unfolding listed_answer listed_after
returns-then-out-lt-LISTING_SIZE c = (rw (lt-leb _ _ c.if-out-lt-LISTING_SIZE.true), rw (lt-leb _ _ c.if-out-lt-LISTING_SIZE.true))

pub returns : goal.returns
unfolding listed_answer listed_after
returns c =
    let a = c.add_listing.ensures in
    let t = le-leb _ _ c.if-out-lt-LISTING_SIZE.false in
    (rw (t, a.place, zero-add), rw t a.bytes)
