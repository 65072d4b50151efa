use native.Mathlib.Omega.{arith}
use lib.ListN.{take}
use mathlib.Core.Path.{sym}
use Rattle.pager_state.proofs.Searches.{lowest}
use Rattle.pager_state.proofs.Walks.{none_found}
use Rattle.pager_state.specs.World.{page_limit}
use Rattle.pager_differing.specs.Differing.{is_in}
use Rattle.pager_differing.proofs.Differing.{place-within}
use Rattle.pager_commit.proofs.Whole.{loop-start, loop-room, loop-lent, loop-frame, loop-end}
use Rattle.pager_commit.proofs.store_frames.Goals as goal

pub loop-found-init : goal.loop-found-init
loop-found-init c =
    let a = c.args in
    loop-start (take a.n a.marks.now) a.staging.now a.first a.table.now a.log.now c.requires.marks_len.1

pub store_frame-wal-requires : goal.store_frame-wal-requires
store_frame-wal-requires c =
    let a = c.args in
    let M = take a.n a.marks.now in
    let f = c.in-Some.ensures.found in
    let k = place-within a.marks.now a.n c.loop-found.page c.in-Some.found.page f.page f.page_lt_page_limit in
    let i = c.loop-found.invariant in
    record {
      page_lt_page_limit = (f.page_lt_page_limit, omega (arith, k, f.index, c.requires.marks_len.0));
      lengths = (loop-lent M a.staging.now a.first a.table.now a.log.now i c.requires.lengths.0, c.requires.lengths.1);
      wal_value = loop-room M a.staging.now a.first a.table.now a.log.now i;
    }

pub loop-found-smaller : goal.loop-found-smaller
loop-found-smaller c =
    let a = c.args in
    let f = c.in-Some.ensures.found in
    let p = lowest (is_in (take a.n a.marks.now)) c.loop-found.page c.in-Some.found.page f.page f.page_lt_page_limit in
    omega (arith, p.from, p.below)

pub loop-found-preserved : goal.loop-found-preserved
loop-found-preserved c =
    let a = c.args in
    let M = take a.n a.marks.now in
    let f = c.in-Some.ensures.found in
    let s = c.store_frame-wal.ensures in
    let p = lowest (is_in M) c.loop-found.page c.in-Some.found.page f.page f.page_lt_page_limit in
    let k = place-within a.marks.now a.n c.loop-found.page c.in-Some.found.page f.page f.page_lt_page_limit in
    loop-frame M a.staging.now a.first a.table.now a.log.now c.loop-found.invariant c.requires.lengths.0 c.requires.lengths.1 c.in-Some.found p f.index (omega (arith, k, f.index, c.requires.marks_len.0)) c.store_frame-wal.auto.table c.store_frame-wal.auto.log s.value s.table_after s.log_after

pub returns : goal.returns
returns c =
    let a = c.args in
    let M = take a.n a.marks.now in
    let z = none_found (is_in M) c.loop-found.page page_limit (sym c.in_default.ensures.none) (omega arith) in
    record { fact = loop-end M a.staging.now a.first a.table.now a.log.now c.loop-found.invariant z; result_value = loop-room M a.staging.now a.first a.table.now a.log.now c.loop-found.invariant }
