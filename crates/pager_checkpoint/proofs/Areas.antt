-- What the stores of a checkpoint leave in a file's area. Assumes nothing.
use mathlib.Core.Path.{◌≡◌, sym, ap, ◌∙◌}
use mathlib.Core.List.{List, ◌++◌}
use mathlib.Core.Logic.{⊎_elim}
use Prim.Native.Nat.{ℕ, ◌+◌, ◌-◌, ◌≤◌, ◌<◌, max}
use native.Mathlib.Omega.{arith}
use native.Mathlib.Nat.{zero-add}
use borrow.Author.Tests.{eq-eqb}
use lib.ListN.{length, take, drop, replicate, length-replicate, length-take}
use Rattle.le.specs.Le.{put, store}
use Rattle.le.proofs.Tests.{le-or-lt}
use Rattle.le.proofs.Stores.{store-put}
use Rattle.header.specs.Header.{encode_header, encode_after}
use Rattle.header.specs.declared.DbHeader.{DbHeader}
use Rattle.header.proofs.Encoding.{length-encode_header}
use Rattle.pager_state.specs.Stores.{grown, put_file}
use Rattle.pager_state.proofs.Stored.{grown-none, length-grown}
use Rattle.pager_checkpoint.specs.CheckpointStep.{file_in, header_put}

-- ---- zeros

pub grow-none : (l : List ℕ) (len to : ℕ) → to ≤ len → l ≡ grown (file_in l len) to
grow-none l len to h = sym (grown-none (file_in l len) to h)

pub grow-more : (l : List ℕ) (len to : ℕ) {m : List ℕ} → len < to → to ≤ length l → m ≡ store l len (replicate (to - len) 0) → m ≡ grown (file_in l len) to
unfolding grown
grow-more l len to h k e =
    let n = length-replicate {A = ℕ} (to - len) 0 in
    e ∙ store-put l len (replicate (to - len) 0) (omega (arith, n))

-- the area keeps its length
grown-length : (l : List ℕ) (len to : ℕ) → to ≤ length l → length (grown (file_in l len) to) ≡ length l
grown-length l len to h =
    ⊎_elim (λ k. ap length (grown-none (file_in l len) to k)) (λ k. length-grown (file_in l len) to (omega (arith, k)) h) (le-or-lt to len)

-- ---- bytes

module _ (l : List ℕ) (len at : ℕ) (bs : List ℕ) where
  pub bytes-stored : {m o : List ℕ} {r : ℕ} → at + length bs ≤ length l → m ≡ grown (file_in l len) at → o ≡ store m at bs
      → r ≡ max len (at + length bs) → (r ≡ (put_file (file_in l len) at bs).len) × (o ≡ (put_file (file_in l len) at bs).area)
  unfolding put_file
  bytes-stored h e f g =
      let n : length (grown (file_in l len) at) ≡ length l = grown-length l len at (omega arith) in
      (g, f ∙ rw e (store-put (grown (file_in l len) at) at bs (rw n h)))

-- ---- the main header, written where it lies

front-put : (l bs : List ℕ) → length bs ≡ 4096 → bs ++ drop 4096 l ≡ put l 0 bs
unfolding put
front-put l bs n = rw (n, zero-add)

pub header-stored : (l : List ℕ) (len : ℕ) (h : DbHeader) {x : List ℕ} {r : ℕ} → 4096 ≤ length l → x ≡ encode_after h (take 4096 l)
    → r ≡ max len 4096 → (r ≡ (header_put l len h).len) × (x ++ drop 4096 l ≡ (header_put l len h).area)
unfolding put_file
header-stored l len h {x} k e f =
    let n : length (encode_header h) ≡ 4096 = length-encode_header h in
    let t : length (take 4096 l) ≡ 4096 = simp length-take (omega arith) in
    let p : x ≡ encode_header h = e ∙ rw (eq-eqb (length (take 4096 l)) 4096 t) in
    (f ∙ rw n, rw (p, front-put l (encode_header h) n, ← grow-none l len 0 (omega arith)))
