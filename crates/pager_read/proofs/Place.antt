-- A page of a store, judged by may_read and found by place_page, is what find_page answers.
use mathlib.Core.Path.{◌≡◌, refl, sym, ap, ◌∙◌}
use mathlib.Core.Bool.{not}
use mathlib.Core.List.{List}
use Prim.Native.Nat.{ℕ, zero, suc, ◌*◌, ◌≤◌, ◌<◌, min}
use native.Mathlib.Omega.{arith}
use borrow.Author.Tests.{lt-ltb, le-ltb, le-leb, ne_eqb}
use lib.Dec.{eqb}
use lib.ListN.{length, take, length-take}
use Rattle.std.specs.Prelude.{Option, None, Some, Err, Ok}
use Rattle.le.specs.Choice.{both}
use Rattle.page.specs.Page.{page_size}
use Rattle.refusal.specs.Refusal.{answered}
use Rattle.refusal.specs.declared.Refusal.{Refusal}
use Rattle.pager_state.specs.World.{world, fine, fine_by, staging_fine, busy, staged_limit}
use Rattle.pager_state.specs.Overlay.{find_in, slots, slot_of, is_staged, below, place_page, read_refusal_by, read_refusal, find_page}
use Rattle.pager_state.specs.declared.Pager.{Pager}
use Rattle.pager_state.specs.declared.PageFound.{PageFound}
use Rattle.pager_state.specs.declared.PageFound.TheVariants as found
use Rattle.pager_read.specs.Reading.{may_read, read_end, read_as}

-- ---- what place_page finds

module _ (count n k : ℕ) (s t : List ℕ) (e : length s ≡ staged_limit) {slot : ℕ} (b : slot ≡ find_in (take k s) n) where
  taken : length (take k s) ≡ min k staged_limit
  taken = length-take k s ∙ ap (min k) e

  pub placed : slot < k → slot < staged_limit → found.Staged (page_size * slot) ≡ place_page count (slots k s) t n
  unfolding place_page is_staged slot_of
  placed g h = rw (sym b, taken, lt-ltb slot (min k staged_limit) (omega arith))

  pub not-placed : {r : PageFound} → min k staged_limit ≤ slot → r ≡ below count t n → r ≡ place_page count (slots k s) t n
  unfolding place_page is_staged slot_of
  not-placed h e = rw (sym b, taken, le-ltb slot (min k staged_limit) h) e

-- from there on it finds nothing
pub none-behind : (count n k : ℕ) (s t : List ℕ) → read_end count k ≤ n → n < 4294967296 → place_page count (slots k s) t n ≡ found.Nothing
unfolding read_end place_page is_staged slot_of below
none-behind count n zero s t h l = rw (le-leb count n h)
none-behind count n (suc k) s t h l =
    let e : 4294967296 ≤ n = rw (ne_eqb (suc k) 0 (λ z. omega (arith, z))) at h in
    absurd (omega (arith, e, l))

-- ---- beside find_page

allowed : (v : Option Refusal) (f : PageFound) → answered Err (Ok f) v ≡ read_as (answered Err (Ok tt) v) f
allowed None f = refl
allowed (Some r) f = refl

-- of a store's own numbers, j telling whether something is part done
pub place-find :
    (p : Pager) (t l m g : List ℕ) (n j : ℕ) → not (eqb j 0) ≡ busy p
    → let count = p.current_header.page_count in
    find_page (world p t l m) g n ≡ read_as (may_read count j p.wal.len p.storage.len t l m g) (place_page count p.staged t n)
unfolding may_read find_page read_refusal fine
place-find p t l m g n j e =
    let count = p.current_header.page_count in
    rw e (allowed (read_refusal_by (both (fine_by p (length t) (length l) (length m)) (staging_fine g)) (busy p)) (place_page count p.staged t n))
