-- Laws of the page table: what entering a frame and checkpointing leave, and the bytes of another page after a frame. Assumes nothing.
use mathlib.Core.Path.{◌≡◌, refl, sym, ap, ◌∙◌}
use mathlib.Core.Bool.{Bool, true, false}
use mathlib.Core.List.{List, [], ◌∷◌}
use Prim.Native.Nat.{ℕ, zero, suc, ◌+◌, ◌*◌, ◌/◌, ◌%◌, ◌≤◌, ◌<◌}
use native.Mathlib.Omega.{arith}
use borrow.Author.Tests.{eqb-true, eqb-false, eq-eqb}
use lib.Dec.{leb, eqb}
use lib.ListN.{length, get_or, set, take, drop, length-set}
use lib.Seq.{get_or-set_same, get_or-set_other}
use Rattle.le.specs.Choice.{pick}
use Rattle.le.specs.Le.{put}
use Rattle.le.proofs.Fields.{drop-take}
use Rattle.le.proofs.Compare.{no_test}
use Rattle.le.proofs.Stores.{take_put}
use Rattle.pager_state.specs.World.{World, page_limit}
use Rattle.pager_state.specs.Overlay.{frame_of, in_log, on_main, entry, log_bytes, committed_in, committed_bytes}
use Rattle.pager_state.specs.Checkpoint.{checkpointed_from}
use Rattle.pager_state.specs.Commit.{with_entry}

-- ---- entering a frame

module _ (t : List ℕ) (q x n : ℕ) (d : n ≡ q → ⊥) where
  -- the other pages' entries stay
  pub frame-other : frame_of (set t q x) n ≡ frame_of t n
  unfolding frame_of
  frame-other = rw (get_or-set_other t q n x 0 d)

  pub log-other : in_log (set t q x) n ≡ in_log t n
  unfolding in_log
  log-other = rw frame-other

  pub main-other : on_main (set t q x) n ≡ on_main t n
  unfolding on_main
  main-other = rw (get_or-set_other t q n x 0 d)

pub get_d_past : (l : List ℕ) (n : ℕ) → length l ≤ n → get_or l n 0 ≡ 0
get_d_past [] n h = refl
get_d_past (a ∷ l) zero h = absurd (omega arith)
get_d_past (a ∷ l) (suc n) h = get_d_past l n (omega arith)

-- behind the table's end no page has one
pub log-past : (t : List ℕ) (n : ℕ) → length t ≤ n → in_log t n ≡ false
unfolding in_log frame_of
log-past t n h = rw (get_d_past t n h)

-- an entry's flag is 0 or 1
pub flag_small : (b : Bool) → pick b 1 0 < 2
flag_small true = omega arith
flag_small false = omega arith

flag-back : (at : ℕ) (b : Bool) → eqb ((2 * at + pick b 1 0) % 2) 1 ≡ b
flag-back at true = eq-eqb ((2 * at + 1) % 2) 1 (omega arith)
flag-back at false =
    let e : (2 * at + 0) % 2 ≡ 0 = omega arith in
    rw e

-- the page's own
pub frame-own : (t : List ℕ) (q at : ℕ) → q < length t → frame_of (with_entry t q at) q ≡ at
unfolding frame_of
frame-own t q at h =
    let e : get_or (with_entry t q at) q 0 ≡ entry at (on_main t q) = get_or-set_same t q (entry at (on_main t q)) 0 h in
    rw e (omega (arith, flag_small (on_main t q)))

pub main-own : (t : List ℕ) (q at : ℕ) → q < length t → on_main (with_entry t q at) q ≡ on_main t q
unfolding on_main
main-own t q at h =
    let e : get_or (with_entry t q at) q 0 ≡ entry at (on_main t q) = get_or-set_same t q (entry at (on_main t q)) 0 h in
    rw e (flag-back at (on_main t q))

pub length-entered : (t : List ℕ) (q at : ℕ) → length (with_entry t q at) ≡ length t
length-entered t q at = length-set t q (entry at (on_main t q))

-- the frames that the table names for the pages that P names lie below `at`
abbrev pub Below : (ℕ → Bool) → List ℕ → ℕ → Type 0
Below P t at = (n : ℕ) → n < page_limit → P n ≡ true → in_log t n ≡ true → frame_of t n + 4112 ≤ at

-- .. and with one entered there, below its end
module _ (P : ℕ → Bool) (t : List ℕ) (q at : ℕ) (l : q < length t) (b : Below P t at) where
  below_at : (n : ℕ) → n < page_limit → P n ≡ true → in_log (with_entry t q at) n ≡ true → (s : Bool) → eqb n q ≡ s
      → frame_of (with_entry t q at) n + 4112 ≤ at + 4112
  below_at n h o i true s =
      let e : frame_of (with_entry t q at) n ≡ at = rw (eqb-true n q s) (frame-own t q at l) in
      omega arith
  below_at n h o i false s =
      let d = eqb-false n q s in
      let y : frame_of t n + 4112 ≤ at = b n h o (sym (log-other t q (entry at (on_main t q)) n d) ∙ i) in
      omega (arith, frame-other t q (entry at (on_main t q)) n d)

  pub below-entered : Below P (with_entry t q at) (at + 4112)
  below-entered n h o i = below_at n h o i (eqb n q) refl

-- ---- the bytes of another page after a frame

-- a part in front of a store
pub part-before : (l : List ℕ) (at : ℕ) (bs : List ℕ) (i k : ℕ) → i + k ≤ at → at ≤ length l → take k (drop i (put l at bs)) ≡ take k (drop i l)
part-before l at bs i k h e = sym (drop-take i k (put l at bs)) ∙ ap (drop i) (take_put (i + k) l at bs h e) ∙ drop-take i k l

module _ (v w : World) (q x at : ℕ) (bs : List ℕ) (t : v.table ≡ set w.table q x) (l : v.log ≡ put w.log at bs) (m : v.main ≡ w.main)
    (a : at ≤ length w.log) (n : ℕ) (d : n ≡ q → ⊥) (b : in_log w.table n ≡ true → frame_of w.table n + 4112 ≤ at) where
  bytes-at : (s : Bool) → in_log w.table n ≡ s → committed_bytes v n ≡ committed_bytes w n
  unfolding committed_in log_bytes
  bytes-at true s =
      rw (t, l, log-other w.table q x n d, s, frame-other w.table q x n d)
      (part-before w.log at bs (frame_of w.table n + 16) 4096 (omega (arith, b s)) a)
  bytes-at false s = rw (t, m, log-other w.table q x n d, s, main-other w.table q x n d)

  pub bytes-other : committed_bytes v n ≡ committed_bytes w n
  bytes-other = bytes-at (in_log w.table n) refl

-- ---- checkpointing

entry-small : (count n x : ℕ) (a b c : Bool) → pick a 0 (pick b 0 (pick c 0 1)) ≤ 1
entry-small count n x true b c = omega arith
entry-small count n x false true c = omega arith
entry-small count n x false false true = omega arith
entry-small count n x false false false = omega arith

checkpointed-small : (count k : ℕ) (t : List ℕ) (n : ℕ) → get_or (checkpointed_from count k t) n 0 ≤ 1
unfolding checkpointed_from
checkpointed-small count k [] n = omega arith
checkpointed-small count k (x ∷ xs) zero = entry-small count k x (eqb k 0) (leb count k) (eqb x 0)
checkpointed-small count k (x ∷ xs) (suc n) = checkpointed-small count (suc k) xs n

-- no page is in the log then
pub checkpointed-none : (count k : ℕ) (t : List ℕ) (n : ℕ) → in_log (checkpointed_from count k t) n ≡ false
unfolding in_log frame_of
checkpointed-none count k t n =
    let e : get_or (checkpointed_from count k t) n 0 / 2 ≡ 0 = omega (arith, checkpointed-small count k t n) in
    rw e

pub checkpointed-below : (P : ℕ → Bool) (count k : ℕ) (t : List ℕ) (at : ℕ) → Below P (checkpointed_from count k t) at
checkpointed-below P count k t at n h o i = no_test (sym (checkpointed-none count k t n) ∙ i)

pub length-checkpointed : (count k : ℕ) (t : List ℕ) → length (checkpointed_from count k t) ≡ length t
unfolding checkpointed_from
length-checkpointed count k [] = refl
length-checkpointed count k (x ∷ xs) = ap suc (length-checkpointed count (suc k) xs)
