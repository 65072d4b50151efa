-- Staging a page, and dropping what is staged.
use Rattle.std.specs.Prelude.{Option, None, Err, Ok, Result, Bool, not, List, ℕ, ◌+◌, max, ltb, eqb, length, set}
use Rattle.le.specs.Choice.{pick, both}
use Rattle.le.specs.Le.{put}
use Rattle.page.specs.Page.{page_size}
use Rattle.refusal.specs.Refusal.{unless, accepts, answered}
use Rattle.refusal.specs.declared.Refusal.{Refusal}
use Rattle.refusal.specs.declared.Refusal.TheVariants as refusal
use Rattle.pager_state.specs.World.{page_limit, staged_limit, staging_fine, busy, busy_refusal, with_staged, none_staged}
use Rattle.pager_state.specs.Overlay.{slot_of, staged_at}
use Rattle.pager_state.specs.declared.Staged.{Staged}
use Rattle.pager_state.specs.declared.Pager.{Pager}
use Rattle.pager_state.specs.declared.Outcome.{Outcome}

-- ---- staging, by what it takes of a store: whether something is part done, and the staged pages

-- refusals 1; 9; 11 "staging above 1,023"; 12 when `staged_limit` other pages are staged
unfoldable pub stage_refusal : Bool → Staged → List ℕ → ℕ → List ℕ → Option Refusal
stage_refusal busy s g n bytes =
    unless (both (staging_fine g) (eqb (length bytes) page_size)) refusal.Area
    (unless (not busy) refusal.Busy
    (unless (ltb n page_limit) refusal.Page
    (unless (ltb (slot_of s n) staged_limit) refusal.Staging None)))

abbrev pub stage_answer : Bool → Staged → List ℕ → ℕ → List ℕ → Result (Unit {0}) Refusal
stage_answer busy s g n bytes = answered Err (Ok tt) (stage_refusal busy s g n bytes)

-- the slots with page n in slot i
unfoldable pub with_slot : Staged → ℕ → ℕ → Staged
with_slot s i n = record { count = max s.count (i + 1); pages = set s.pages i n }

-- "that page is staged anew"; a refusal leaves the staged pages
unfoldable pub staged_after : Bool → Staged → List ℕ → ℕ → List ℕ → Staged
staged_after busy s g n bytes = pick (accepts (stage_refusal busy s g n bytes)) (with_slot s (slot_of s n) n) s

-- and the staging area
unfoldable pub staging_bytes : Bool → Staged → List ℕ → ℕ → List ℕ → List ℕ
staging_bytes busy s g n bytes = pick (accepts (stage_refusal busy s g n bytes)) (put g (staged_at s n) bytes) g

-- ---- of a store

abbrev pub stage_page : Pager → List ℕ → ℕ → List ℕ → Outcome (Unit {0})
stage_page p g n bytes =
    record {
      answer = stage_answer (busy p) p.staged g n bytes;
      pager = with_staged p (staged_after (busy p) p.staged g n bytes);
    }

abbrev pub stage_after : Pager → List ℕ → ℕ → List ℕ → List ℕ
stage_after p g n bytes = staging_bytes (busy p) p.staged g n bytes

-- ---- "A call that drops the staging"

unfoldable pub clear_staged : Pager → Outcome (Unit {0})
clear_staged p =
    record {
      answer = answered Err (Ok tt) (busy_refusal p);
      pager = pick (accepts (busy_refusal p)) (with_staged p (none_staged p.staged)) p;
    }
