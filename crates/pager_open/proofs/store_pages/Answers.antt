use Rattle.pager_open.proofs.Created.{pages-stored}
use Rattle.pager_open.proofs.store_pages.Goals as goal

pub returns : goal.returns
returns c =
    let a = c.args in
    pages-stored a.main.now a.header c.requires c.encode_header.ensures.1 c.empty.ensures.1
