use mathlib.Core.Path.{refl, ◌∙◌}
use lib.ListN.{take}
use Rattle.pager_commit.specs.Parts.{marked_pages}
use Rattle.pager_commit.proofs.Whole.{run-committed}
use Rattle.pager_commit.proofs.run_frames.Goals as goal

pub returns : goal.returns
returns c =
    let a = c.args in
    let q = c.store_frames-last.auto in
    let e = c.store_frames-last.ensures in
    let z = c.store_commit_frame-wal.ensures in
    λ m b. run-committed a.staging.now m a.pager a.header a.salt a.judged.now.pages a.table.now a.log.now (marked_pages (take a.pager.staged.count a.judged.now.marks)) (e.fact a.pager m refl b) b.right (record { table = q.table ∙ c.requires.lengths.0.table; log = q.log ∙ c.requires.lengths.0.log }) e.result_value z.value c.committed.ensures z.table_after z.log_after
