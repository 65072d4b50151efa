use mathlib.Core.Path.{◌≡◌, sym, ◌∙◌}
use mathlib.Core.Bool.{false}
use native.Mathlib.Omega.{arith}
use mathlib.Core.List.{List}
use lib.ListN.{length}
use Rattle.std.specs.Prelude.{Err, Option, Some, None, IfSome, IfNone}
use Rattle.refusal.specs.declared.Refusal.TheVariants as refusal
use Rattle.header.specs.declared.DbHeader.{DbHeader}
use Rattle.wal.specs.Write.{has_room}
use Rattle.pager_state.specs.World.{World, world, page_limit, staged_limit, staging_area}
use Rattle.pager_state.specs.Pages.{pages_from, first_of, differs}
use Rattle.pager_state.proofs.Searches.{lowest}
use Rattle.pager_state.proofs.Walks.{none_found}
use Rattle.pager_state.specs.Overlay.{slot_of}
use Prim.Native.Nat.{ℕ, ◌<◌}
use Rattle.pager_differing.specs.Differing.{Found}
use Rattle.pager_differing.specs.declared.Slot.{Slot}
use Rattle.pager_commit.proofs.Step.{Stepped, frame_refused, frame-stepped, commit-frame-refused, commit-frame-stepped}
use Rattle.pager_commit.proofs.frames_step.Goals as goal

-- no room: whichever store is next
no_room : (g : List ℕ) (h : DbHeader) (salt answer page : ℕ) (w : World) → length g ≡ staging_area → has_room w.pager.wal ≡ false → (r : Option Slot)
    → IfNone r (first_of (pages_from (differs g w) page) ≡ page_limit) → IfSome r (λ s. Found (first_of (pages_from (differs g w) page)) (slot_of w.pager.staged) s)
    → IfSome r (λ s. s.index < staged_limit) → Stepped g h salt answer page w (Err refusal.Area) w
no_room g h salt answer page w n o None e f b =
    commit-frame-refused g h salt answer page w (none_found (differs g w) page page_limit (sym e) (omega arith)) o
no_room g h salt answer page w n o (Some s) e f b =
    frame_refused g h salt answer page w s (lowest (differs g w) page s.page f.page f.page_lt_page_limit).split f.index b n o

pub returns-then-not-fits_in : goal.returns-then-not-fits_in
returns-then-not-fits_in c =
    let a = c.args in
    let g = a.staging.now in
    let w = world a.pager a.table.now a.log.now a.main.now in
    let f = c.next_differing-found.ensures in
    let both = no_room g a.header a.salt a.answer a.page w c.requires.1 (sym c.fits_in.ensures ∙ c.if-not-fits_in.true) c.next_differing-found.result f.none f.found f.index_lt_staged_limit in
    record { answer_value = both.0; later_after = both.1 }

pub returns : goal.returns
returns c =
    let a = c.args in
    let g = a.staging.now in
    let w = world a.pager a.table.now a.log.now a.main.now in
    let f = c.in-Some.ensures in
    let q = c.frame_step.ensures in
    let both = frame-stepped g a.header a.salt a.answer a.page w c.in-Some.found (lowest (differs g w) a.page c.in-Some.found.page f.found.page f.found.page_lt_page_limit).split f.found.index f.index_lt_staged_limit c.requires.1 (sym c.fits_in.ensures ∙ c.if-not-fits_in.false) q.answer_value q.pager_value q.table_after q.log_after in
    record { answer_value = both.0; later_after = both.1 }

pub returns-in_default : goal.returns-in_default
returns-in_default c =
    let a = c.args in
    let g = a.staging.now in
    let w = world a.pager a.table.now a.log.now a.main.now in
    let q = c.commit_frame_step.ensures in
    let both = commit-frame-stepped g a.header a.salt a.answer a.page w (none_found (differs g w) a.page page_limit (sym c.in_default.ensures.none) (omega arith)) (sym c.fits_in.ensures ∙ c.if-not-fits_in.false) q.answer_value q.pager_value q.table_after q.log_after in
    record { answer_value = both.0; later_after = both.1 }
