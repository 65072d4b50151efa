-- What whole and cut stores leave of a file, where they begin inside it. Assumes nothing.
use mathlib.Core.Path.{◌≡◌, refl, sym, ap, ◌∙◌}
use mathlib.Core.List.{List, ◌++◌}
use mathlib.Core.Logic.{◌⊎◌, inl, inr, ⊎_elim}
use Prim.Native.Nat.{ℕ, zero, suc, ◌+◌, ◌-◌, ◌*◌, max, min, ◌≤◌, ◌<◌}
use native.Mathlib.Omega.{arith}
use borrow.Author.Tests.{lt-ltb, le-ltb}
use lib.ListN.{length, take, drop}
use lib.Seq.{take_all, length-take-le}
use Rattle.le.specs.Le.{put}
use Rattle.le.proofs.Tests.{le-or-lt}
use Rattle.le.proofs.Fields.{drop-take}
use Rattle.le.proofs.Stores.{put-none, take_put, drop-put, part-put}
use Rattle.page.specs.Page.{page_size}
use Rattle.wal.specs.Header.{header_size}
use Rattle.wal.proofs.Writing.{file-longer}
use Rattle.pager_state.specs.Overlay.{page_from}
use Rattle.pager_state.specs.Stores.{File, content, grown, put_file, len_file, reach, put_front}

-- a store that begins inside the file or at its end
abbrev pub putting : File → ℕ → List ℕ → File
putting f at xs = record { area = put f.area at xs; len = max f.len (at + length xs) }

abbrev pub lasting : File → ℕ → File
lasting f n = record { area = f.area; len = n }

pub same-file : {f g : File} → f.area ≡ g.area → f.len ≡ g.len → f ≡ g
same-file {f} {g} a n = λ i. record { area = a i; len = n i }

pub grown-none : (f : File) (n : ℕ) → n ≤ f.len → grown f n ≡ f.area
unfolding grown
grown-none f n h = let z : n - f.len ≡ 0 = omega arith in rw z (put-none f.area f.len)

pub put-file : (f : File) (at : ℕ) (xs : List ℕ) → at ≤ f.len → put_file f at xs ≡ putting f at xs
unfolding put_file
put-file f at xs h = rw (grown-none f at h)

pub put-front : (f : File) (at : ℕ) (bs : List ℕ) (n : ℕ) → at ≤ f.len → put_front f at bs n ≡ putting f at (take n bs)
unfolding put_front
put-front f at bs zero h = same-file (sym (put-none f.area at)) (omega arith)
put-front f at bs (suc n) h = put-file f at (take (suc n) bs) h

pub len-file : (f : File) (n : ℕ) → n ≤ f.len → len_file f n ≡ lasting f n
unfolding len_file
len-file f n h = rw (grown-none f n h)

-- ---- how much of a store a cut leaves

pub reach-behind : (at : ℕ) (bs : List ℕ) (k : ℕ) → header_size ≤ at → reach at bs k ≡ min k (length bs)
unfolding reach
reach-behind at bs k h = rw (le-ltb (at + min k (length bs)) header_size (omega arith))

pub reach-none : (bs : List ℕ) (k : ℕ) → k < header_size → reach 0 bs k ≡ 0
unfolding reach
reach-none bs k h = rw (lt-ltb (0 + min k (length bs)) header_size (omega arith))

pub reach-front : (bs : List ℕ) (k : ℕ) → header_size ≤ k → header_size ≤ length bs → reach 0 bs k ≡ min k (length bs)
unfolding reach
reach-front bs k h l = rw (le-ltb (0 + min k (length bs)) header_size (omega arith))

pub take_min : (k : ℕ) (bs : List ℕ) → take (min k (length bs)) bs ≡ take k bs
take_min k bs =
    ⊎_elim
    (λ h. let e : min k (length bs) ≡ k = omega arith in rw e)
    (λ h. let e : min k (length bs) ≡ length bs = omega arith in rw (e, take_all k bs (omega arith), take_all (length bs) bs (omega arith)))
    (le-or-lt k (length bs))

-- ---- bytes appended to a file

pub appended : (f : File) (xs : List ℕ) → f.len ≤ length f.area → content (putting f f.len xs) ≡ content f ++ xs
appended f xs h =
    let e : max f.len (f.len + length xs) ≡ f.len + length xs = omega arith in
    rw e (file-longer (length xs) f.area f.len xs refl h)

pub length-content : (f : File) → f.len ≤ length f.area → length (content f) ≡ f.len
length-content f h = length-take-le f.len f.area h

-- ---- pages of the main file

module _ (m : List ℕ) (i : ℕ) (xs : List ℕ) (h : length xs ≤ page_size) (k : page_size * i ≤ length m) where
  pub page-other : (n : ℕ) → (n ≡ i → ⊥) → page_from (page_size * n) (put m (page_size * i) xs) ≡ page_from (page_size * n) m
  page-other n ne =
      ⊎_elim
      (λ lt. sym (drop-take (page_size * n) page_size (put m (page_size * i) xs))
      ∙ ap (drop (page_size * n)) (take_put (page_size * n + page_size) m (page_size * i) xs (below lt) k)
      ∙ drop-take (page_size * n) page_size m)
      (λ le. ap (take page_size) (drop-put (page_size * n) m (page_size * i) xs (above le) k))
      (le-or-lt (suc n) i)
    where
      below : n < i → page_size * n + page_size ≤ page_size * i
      below lt = omega arith

      above : i < suc n → page_size * i + length xs ≤ page_size * n
      above le = let q : n ≡ i → ⊥ = ne in after (le-or-lt n i)
        where
          after : (n ≤ i) ⊎ (i < n) → page_size * i + length xs ≤ page_size * n
          after (inl p) = absurd (ne (omega arith))
          after (inr p) = omega arith

  pub page-same : length xs ≡ page_size → page_from (page_size * i) (put m (page_size * i) xs) ≡ xs
  page-same e = part-put page_size m (page_size * i) xs e k
