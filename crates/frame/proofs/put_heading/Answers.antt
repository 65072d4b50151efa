use Rattle.frame.proofs.Stores.{heading-written}
use Rattle.frame.proofs.put_heading.Goals as goal

pub returns : goal.returns
returns c =
    let a = c.args in
    heading-written a.log.now a.at a.start.page_num a.start.commit_page_count a.start.salt c.requires c.write_u32.ensures.1
    c.write_u32-2.ensures.1 c.write_u32-3.ensures.1
