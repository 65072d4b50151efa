-- The numbers of answers agree with the definitions that the pager's contracts cite.
use mathlib.Core.Path.{◌≡◌, refl}
use mathlib.Core.Bool.{Bool, true, false}
use mathlib.Core.List.{List}
use Prim.Native.Nat.{ℕ, ◌+◌, ◌≤◌}
use native.Mathlib.Omega.{arith}
use borrow.Author.Tests.{leb-true}
use lib.Dec.{leb}
use Rattle.std.specs.Prelude.{Err, Ok, Result}
use Rattle.refusal.specs.declared.Refusal.{Refusal}
use Rattle.le.specs.Choice.{pick}
use Rattle.page.specs.Page.{page_size}
use Rattle.wal.specs.Recovery.{wal_area}
use Rattle.pager_state.specs.World.{World}
use Rattle.pager_state.specs.Overlay.{bytes_at, find_page, find_refusal, read_page}
use Rattle.pager_state.specs.declared.Pager.{Pager}
use Rattle.pager_state.specs.declared.PageFound.{PageFound}
use Rattle.pager_state.specs.declared.PageFound.TheVariants as found
use Rattle.pager_state.specs.declared.Step.TheVariants as step
use Rattle.pager_state.specs.declared.Step.{Step}
use Rattle.capi_numbers.specs.Numbers.{store_of}
use Rattle.capi_answers.specs.Answers.{page, found_as, bytes_in, counted_as, stepped_as}

-- ---- a step, done or not, gives the store after it

pub step-store : (a : Result Step Refusal) (p : Pager) → (stepped_as a p).store ≡ store_of p
step-store (Ok step.Idle) p = refl
step-store (Ok (step.Stored x)) p = refl
step-store (Ok (step.Last x n)) p = refl
step-store (Err r) p = refl

-- so does a call in one
pub commit-store : (a : Result ℕ Refusal) (p : Pager) → (counted_as a p).store ≡ store_of p
commit-store (Ok n) p = refl
commit-store (Err r) p = refl

pub checkpoint-store : (a : Result ℕ Refusal) (p : Pager) → (counted_as a p).store ≡ store_of p
checkpoint-store (Ok n) p = refl
checkpoint-store (Err r) p = refl

-- ---- "Page reads answer with the page's own bytes": what a host finds at the place that it is told

log-bytes : (w : World) (g : List ℕ) (at : ℕ) (b : Bool) → (pick b (page 0 1 at) (page 1 0 0)).refusal ≡ 0
    → bytes_in w g (pick b (page 0 1 at) (page 1 0 0)) ≡ bytes_at w g (Ok (found.Log at))
log-bytes w g at true e = refl
log-bytes w g at false e = absurd (omega (arith, e))

found-bytes : (w : World) (g : List ℕ) (f : Result PageFound Refusal) → (found_as f).refusal ≡ find_refusal f → bytes_in w g (found_as f) ≡ bytes_at w g f
found-bytes w g (Ok (found.Staged at)) e = refl
found-bytes w g (Ok (found.Log at)) e = log-bytes w g at (leb (at + page_size) wal_area) e
found-bytes w g (Ok (found.Main at)) e = refl
found-bytes w g (Ok found.Nothing) e = refl
found-bytes w g (Err r) e = refl

-- unless a made-up table names a place with no whole page behind it, which alone is told as a refusal of the host's own
pub page-read : (w : World) (g : List ℕ) (n : ℕ) → (found_as (find_page w g n)).refusal ≡ find_refusal (find_page w g n)
    → bytes_in w g (found_as (find_page w g n)) ≡ read_page w g n
unfolding read_page
page-read w g n = found-bytes w g (find_page w g n)

-- whatever the table says: a place that is told in the log has a whole page behind it
placed : (at : ℕ) (b : Bool) → leb (at + page_size) wal_area ≡ b → (pick b (page 0 1 at) (page 1 0 0)).area ≡ 1
    → (pick b (page 0 1 at) (page 1 0 0)).at + page_size ≤ wal_area
placed at true e h = leb-true (at + page_size) wal_area e
placed at false e h = absurd (omega (arith, h))

pub log-place : (f : Result PageFound Refusal) → (found_as f).area ≡ 1 → (found_as f).at + page_size ≤ wal_area
log-place (Ok (found.Log at)) h = placed at (leb (at + page_size) wal_area) refl h
log-place (Ok (found.Staged at)) h = absurd (omega (arith, h))
log-place (Ok (found.Main at)) h = absurd (omega (arith, h))
log-place (Ok found.Nothing) h = absurd (omega (arith, h))
log-place (Err r) h = absurd (omega (arith, h))
