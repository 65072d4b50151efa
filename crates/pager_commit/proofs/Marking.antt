-- What storing a frame leaves of the marks. Assumes nothing.
use mathlib.Core.Path.{◌≡◌, refl, sym, ◌∙◌}
use mathlib.Core.Bool.{Bool, true, false}
use mathlib.Core.List.{List}
use Prim.Native.Nat.{ℕ, ◌+◌, ◌≤◌, ◌<◌}
use native.Mathlib.Omega.{arith}
use borrow.Author.Tests.{leb-true}
use lib.Dec.{leb}
use lib.ListN.{length, set}
use Rattle.le.specs.Choice.{pick, both}
use Rattle.le.specs.Le.{put}
use Rattle.page.specs.Page.{page_size}
use Rattle.frame.specs.Frame.{frame_size}
use Rattle.pager_state.specs.World.{world, page_limit}
use Rattle.pager_state.specs.Overlay.{find_in, slot_of, is_staged, frame_of, in_log, on_main, entry, log_bytes, committed_in}
use Rattle.pager_state.specs.Pages.{differs_in}
use Rattle.pager_state.specs.Commit.{with_entry}
use Rattle.pager_state.specs.Steps.{stands_before}
use Rattle.pager_state.specs.declared.Pager.{Pager}
use Rattle.pager_state.specs.declared.Staged.{Staged}
use Rattle.pager_state.proofs.Entries.{frame-other, log-other, main-other, part-before}
use Rattle.pager_state.proofs.Before.{before-staged}
use Rattle.pager_differing.specs.Differing.{is_in, slot_differs}
use Rattle.pager_differing.proofs.Differing.{differs-slot}
use Rattle.pager_commit.specs.Parts.{Begun}

-- among the marks stand just the pages from `page` on that differ, each in its slot; and a frame stored at len or behind changes no
-- bytes that a staged page from there on is compared with
pub record Marking (g m : List ℕ) (s : Staged) (len : ℕ) (t l marks : List ℕ) (page : ℕ) : Type 0 where
  pub same : (n : ℕ) → page ≤ n → n < page_limit → is_in marks n ≡ differs_in s g t l m n
  pub slot : (n : ℕ) → n < page_limit → is_in marks n ≡ true → find_in marks n ≡ slot_of s n
  pub still : (n : ℕ) → page ≤ n → n < page_limit → is_staged s n ≡ true → stands_before t n len ≡ true

-- before the first
pub marking-begun : (g m : List ℕ) (p : Pager) (t l : List ℕ) {marks : List ℕ} → Begun g (world p t l m) marks
    → Marking g m p.staged p.wal.len t l marks 0
marking-begun g m p t l b =
    record {
      same = λ n a h. b.marked.same n h;
      slot = b.marked.slot;
      still = λ n a h o. before-staged t p.wal.len p.staged b.before n o;
    }

-- the bytes that another page was committed with stay, where its frame stands before the new one
module _ (t l m : List ℕ) (q x at : ℕ) (bs : List ℕ) (len : ℕ) (a : len ≤ at) (b : at ≤ length l) where
  committed-by : (n : ℕ) → (n ≡ q → ⊥) → (o : Bool) → in_log t n ≡ o → pick o (leb (frame_of t n + frame_size) len) true ≡ true
      → committed_in (set t q x) (put l at bs) m n ≡ committed_in t l m n
  unfolding committed_in log_bytes
  committed-by n d true s e =
      let h : frame_of t n + frame_size ≤ len = leb-true _ _ e in
      rw (log-other t q x n d, s, frame-other t q x n d) (part-before l at bs (frame_of t n + 16) page_size (omega (arith, h, a)) b)
  committed-by n d false s e = rw (log-other t q x n d, s, main-other t q x n d)

  committed-other : (n : ℕ) → (n ≡ q → ⊥) → stands_before t n len ≡ true → committed_in (set t q x) (put l at bs) m n ≡ committed_in t l m n
  committed-other n d e = committed-by n d (in_log t n) refl e

module _ {g m : List ℕ} {s : Staged} {len : ℕ} {t l marks : List ℕ} {page : ℕ} (k : Marking g m s len t l marks page) (q at : ℕ) (bs : List ℕ) (h : page ≤ q)
    (a : len ≤ at) (b : at ≤ length l) where
  apart : (n : ℕ) → q + 1 ≤ n → n ≡ q → ⊥
  apart n c e = omega (arith, c, e)

  differs-still : (n : ℕ) → q + 1 ≤ n → n < page_limit → (o : Bool) → is_staged s n ≡ o
      → both o (slot_differs g (with_entry t q at) (put l at bs) m n (slot_of s n)) ≡ both o (slot_differs g t l m n (slot_of s n))
  unfolding slot_differs
  differs-still n c d true o = rw (committed-other t l m q (entry at (on_main t q)) at bs len a b n (apart n c) (k.still n (omega (arith, h, c)) d o))
  differs-still n c d false o = refl

  same_after : (n : ℕ) → q + 1 ≤ n → n < page_limit → is_in marks n ≡ differs_in s g (with_entry t q at) (put l at bs) m n
  same_after n c d =
      k.same n (omega (arith, h, c)) d
      ∙ differs-slot s g t l m n
      ∙ sym (differs-slot s g (with_entry t q at) (put l at bs) m n ∙ differs-still n c d (is_staged s n) refl)

  still_after : (n : ℕ) → q + 1 ≤ n → n < page_limit → is_staged s n ≡ true → stands_before (with_entry t q at) n len ≡ true
  still_after n c d e =
      rw (log-other t q (entry at (on_main t q)) n (apart n c), frame-other t q (entry at (on_main t q)) n (apart n c)) (k.still n (omega (arith, h, c)) d e)

  -- the marks from the next page on
  pub marking-frame : Marking g m s len (with_entry t q at) (put l at bs) marks (q + 1)
  marking-frame = record { same = same_after; slot = k.slot; still = still_after }
