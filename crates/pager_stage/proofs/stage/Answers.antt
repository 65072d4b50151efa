use mathlib.Core.Path.{◌∙◌}
use Prim.Native.Nat.{◌+◌, ◌*◌, ◌≤◌, ◌<◌}
use native.Mathlib.Omega.{arith}
use lib.ListN.{length}
use borrow.Author.Tests.{eq-eqb, ne_eqb, lt-ltb, le-ltb}
use Rattle.le.proofs.Stores.{store-put}
use Rattle.refusal.specs.declared.Refusal.TheVariants as refusal
use Rattle.pager_state.specs.World.{staged_limit}
use Rattle.pager_state.specs.Overlay.{slots, slot_of}
use Rattle.pager_state.specs.Staging.{stage_refusal, with_slot}
use Rattle.pager_stage.proofs.Staging.{refuses, stages}
use Rattle.pager_stage.proofs.stage.Goals as goal

pub returns-then-staging-ne-STAGING_AREA : goal.returns-then-staging-ne-STAGING_AREA
unfolding stage_refusal
returns-then-staging-ne-STAGING_AREA c =
    let A = c.args in
    let both = refuses A.busy (slots A.count A.pages.now) A.staging.now A.page_num A.bytes.now refusal.Area (rw (ne_eqb _ _ c.if-staging-ne-STAGING_AREA.true))
    c.refused_in.ensures.0 (rw c.refused_in.ensures.1) in
    record { answer_value = both.0; pages_after = both.1.0; staging_after = both.1.1 }

pub returns-then-bytes-ne-PAGE_SIZE : goal.returns-then-bytes-ne-PAGE_SIZE
unfolding stage_refusal
returns-then-bytes-ne-PAGE_SIZE c =
    let A = c.args in
    let both = refuses A.busy (slots A.count A.pages.now) A.staging.now A.page_num A.bytes.now refusal.Area (rw (eq-eqb _ _ c.if-staging-ne-STAGING_AREA.false, ne_eqb _ _ c.if-bytes-ne-PAGE_SIZE.true))
    c.refused_in-then-bytes-ne-PAGE_SIZE.ensures.0 (rw c.refused_in-then-bytes-ne-PAGE_SIZE.ensures.1) in
    record { answer_value = both.0; pages_after = both.1.0; staging_after = both.1.1 }

pub returns-then-busy : goal.returns-then-busy
unfolding stage_refusal
returns-then-busy c =
    let A = c.args in
    let both = refuses A.busy (slots A.count A.pages.now) A.staging.now A.page_num A.bytes.now refusal.Busy (rw (eq-eqb _ _ c.if-staging-ne-STAGING_AREA.false, eq-eqb _ _ c.if-bytes-ne-PAGE_SIZE.false, c.if-busy.true))
    c.refused_in-then-busy.ensures.0 (rw c.refused_in-then-busy.ensures.1) in
    record { answer_value = both.0; pages_after = both.1.0; staging_after = both.1.1 }

pub returns-then-page_num : goal.returns-then-page_num
unfolding stage_refusal
returns-then-page_num c =
    let A = c.args in
    let both = refuses A.busy (slots A.count A.pages.now) A.staging.now A.page_num A.bytes.now refusal.Page (rw (eq-eqb _ _ c.if-staging-ne-STAGING_AREA.false, eq-eqb _ _ c.if-bytes-ne-PAGE_SIZE.false, c.if-busy.false, le-ltb _ _ c.if-page_num.true))
    c.refused_in-then-page_num.ensures.0 (rw c.refused_in-then-page_num.ensures.1) in
    record { answer_value = both.0; pages_after = both.1.0; staging_after = both.1.1 }

pub returns-then-slot-ge-STAGED_PAGES : goal.returns-then-slot-ge-STAGED_PAGES
unfolding stage_refusal slot_of
returns-then-slot-ge-STAGED_PAGES c =
    let A = c.args in
    let f : staged_limit ≤ slot_of (slots A.count A.pages.now) A.page_num = rw (← c.find_in-slot.ensures.value) c.if-slot-ge-STAGED_PAGES.true in
    let both = refuses A.busy (slots A.count A.pages.now) A.staging.now A.page_num A.bytes.now refusal.Staging
    (rw (eq-eqb _ _ c.if-staging-ne-STAGING_AREA.false, eq-eqb _ _ c.if-bytes-ne-PAGE_SIZE.false, c.if-busy.false, lt-ltb _ _ c.if-page_num.false, le-ltb _ _ f))
    c.refused_in-then-slot-ge-STAGED_PAGES.ensures.0 (rw c.refused_in-then-slot-ge-STAGED_PAGES.ensures.1) in
    record { answer_value = both.0; pages_after = both.1.0; staging_after = both.1.1 }

pub returns : goal.returns
unfolding stage_refusal slot_of with_slot
returns c =
    let A = c.args in
    let e = c.find_in-slot.ensures.value in
    let f : slot_of (slots A.count A.pages.now) A.page_num < staged_limit = rw (← e) c.if-slot-ge-STAGED_PAGES.false in
    let g = c.if-staging-ne-STAGING_AREA.false in
    let n = c.if-bytes-ne-PAGE_SIZE.false in
    let h : 4096 * c.find_in-slot.result + length A.bytes.now ≤ length A.staging.now = omega (arith, g, n, c.if-slot-ge-STAGED_PAGES.false) in
    let both = stages A.busy (slots A.count A.pages.now) A.staging.now A.page_num A.bytes.now
    (rw (eq-eqb _ _ g, eq-eqb _ _ n, c.if-busy.false, lt-ltb _ _ c.if-page_num.false, lt-ltb _ _ f))
    (rw (c.max.ensures, ← e)) (c.write_bytes.ensures.1 ∙ store-put _ _ _ h ∙ rw e) in
    record { answer_value = both.0; pages_after = both.1.0; staging_after = both.1.1 }
