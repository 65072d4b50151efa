use borrow.Author.Tests.{le-leb, lt-leb}
use Rattle.pager_state.specs.Opening.{main_header_of}
use Rattle.pager_open.proofs.read_header.Goals as goal

pub returns-then-main_len-lt-PAGE_SIZE : goal.returns-then-main_len-lt-PAGE_SIZE
unfolding main_header_of
returns-then-main_len-lt-PAGE_SIZE c = rw (lt-leb _ _ c.if-main_len-lt-PAGE_SIZE.true)

pub returns : goal.returns
unfolding main_header_of
returns c = rw (le-leb _ _ c.if-main_len-lt-PAGE_SIZE.false) (rw c.part.ensures at c.decode_header.ensures)
