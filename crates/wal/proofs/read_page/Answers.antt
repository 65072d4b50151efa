use Rattle.std.proofs.Common.{sym, ap, ◌∙◌}
use Rattle.wal.specs.Read.{page_at}
use Rattle.wal.proofs.Reading.{read_found}
use Rattle.wal.proofs.read_page.Goals as goal

pub returns-in-Some : goal.returns-in-Some
returns-in-Some c =
    let a = c.args in
    let l = a.file.now in
    c.part.ensures ∙ ap (page_at l) (sym c.in-Some.is ∙ c.find_page.ensures) ∙ sym (read_found l a.wal.last_commit_offset a.page_num)

pub returns-in-None : goal.returns-in-None
returns-in-None c =
    let a = c.args in
    let l = a.file.now in
    ap (page_at l) (sym c.in-None.is ∙ c.find_page.ensures) ∙ sym (read_found l a.wal.last_commit_offset a.page_num)
