-- Laws of the one store operation. Assumes nothing.
use mathlib.Core.Path.{◌≡◌, sym, ap, ◌∙◌}
use mathlib.Core.Bool.{true, false}
use mathlib.Core.List.{List, [], ◌∷◌, ◌++◌, append_assoc, append-nil}
use mathlib.Core.Logic.{⊎_elim}
use Prim.Native.Nat.{ℕ, ◌+◌, ◌-◌, ◌/◌, ◌%◌, ◌^◌, ◌≤◌, ◌<◌}
use native.Mathlib.Nat.{div-one, add_assoc, add-zero, zero-add}
use native.Mathlib.Numerals.{add-one}
use native.Mathlib.Omega.{arith}
use borrow.Author.Tests.{le-leb, lt-leb}
use lib.Dec.{leb}
use lib.ListN.{length, take, drop, get_or, set, length-append, length-take, length-drop, take-append-drop, replicate, replicate-append-replicate, length-replicate}
use lib.Seq.{drop-length, drop-drop, set_split, take-suc, take-append_seam, take_at, drop_at, drop-append-add, take-append-le, take-take}
use borrow.Rule.Slice.PartMut.{put_mid}
use Rattle.std.specs.Int.{bytes_low_first}
use Rattle.std.specs.Prelude.{Err, Ok, Result}
use Rattle.refusal.specs.declared.Refusal.{Refusal}
use Rattle.refusal.specs.declared.Refusal.TheVariants as refusal
use Rattle.le.specs.Le.{le_bytes, put, store}
use Rattle.le.specs.Answers.{stored_of}
use Rattle.le.proofs.Tests.{le-or-lt}
use Rattle.le.proofs.Fields.{length-le_bytes, le_bytes-mod, le_bytes-split, bytes_low_first-le_bytes}

-- ---- putting bytes where they fit

pub length-put : (l : List ℕ) (at : ℕ) (xs : List ℕ) → at + length xs ≤ length l → length (put l at xs) ≡ length l
unfolding put
length-put l at xs h = simp (length-append, length-take, length-drop) (omega arith)

-- nothing stored
pub put-none : (l : List ℕ) (at : ℕ) → put l at [] ≡ l
unfolding put
put-none l at = rw (add-zero, take-append-drop)

-- a store over all of a list
pub put_all : (l xs : List ℕ) → length xs ≡ length l → put l 0 xs ≡ xs
unfolding put
put_all l xs e = rw (zero-add, e, drop-length, append-nil)

-- two stores side by side are one
pub put-put : (l : List ℕ) (at : ℕ) (xs ys : List ℕ) → at + length xs ≤ length l
    → put (put l at xs) (at + length xs) ys ≡ put l at (xs ++ ys)
unfolding put
put-put l at xs ys h =
    let d : List ℕ = drop (at + length xs) l in
    let e : length (take at l ++ xs) ≡ at + length xs = simp (length-append, length-take) (omega arith) in
    let f : take at l ++ (xs ++ d) ≡ take at l ++ xs ++ d = sym (append_assoc (take at l) xs d) in
    let g : drop (at + length xs + length ys) (take at l ++ xs ++ d) ≡ drop (length ys) d =
    ap (λ (k : ℕ). drop (k + length ys) (take at l ++ xs ++ d)) (sym e) ∙ drop-append-add (take at l ++ xs) d (length ys) in
    rw (f, take_at (take at l ++ xs) d (at + length xs) e, g)
    (simp (append_assoc, drop-drop, length-append, add_assoc))

-- the store after another, with the first one's length given
pub put_next : (n : ℕ) (l : List ℕ) (at : ℕ) (xs ys : List ℕ) → length xs ≡ n → at + n ≤ length l
    → put (put l at xs) (at + n) ys ≡ put l at (xs ++ ys)
put_next n l at xs ys e h = rw e at (put-put l at xs ys (rw e h))

-- the store before another
pub put-before : (n : ℕ) (l : List ℕ) (at : ℕ) (xs ys : List ℕ) → length xs ≡ n → at + n ≤ length l
    → put (put l (at + n) ys) at xs ≡ put l at (xs ++ ys)
unfolding put
put-before n l at xs ys e h =
    let t : take at (take (at + n) l ++ (ys ++ drop (at + n + length ys) l)) ≡ take at l =
    take-append-le at (take (at + n) l) (ys ++ drop (at + n + length ys) l) (rw length-take (omega arith)) ∙ take-take at (at + n) l (omega arith) in
    let k : length (take (at + n) l) ≡ at + n = rw length-take (omega arith) in
    rw (e, t, drop_at (take (at + n) l) (ys ++ drop (at + n + length ys) l) (at + n) k)
    (simp (append_assoc, length-append, e, add_assoc))

-- what was stored is read back
pub get-put : (l : List ℕ) (at : ℕ) (xs : List ℕ) → at ≤ length l → take (length xs) (drop at (put l at xs)) ≡ xs
unfolding put
get-put l at xs h =
    let e : length (take at l) ≡ at = simp length-take (omega arith) in
    rw (drop_at (take at l) (xs ++ drop (at + length xs) l) at e, take-append_seam)

-- bytes in front of a store, and behind it, stay
pub take_put : (m : ℕ) (l : List ℕ) (at : ℕ) (xs : List ℕ) → m ≤ at → at ≤ length l → take m (put l at xs) ≡ take m l
unfolding put
take_put m l at xs h k =
    take-append-le m (take at l) (xs ++ drop (at + length xs) l) (rw length-take (omega arith)) ∙ take-take m at l h

pub drop-put : (m : ℕ) (l : List ℕ) (at : ℕ) (xs : List ℕ) → at + length xs ≤ m → at ≤ length l → drop m (put l at xs) ≡ drop m l
unfolding put
drop-put m l at xs h k =
    let e : length (take at l ++ xs) ≡ at + length xs = simp (length-append, length-take) (omega arith) in
    let r : at + length xs + (m - (at + length xs)) ≡ m = omega arith in
    let d : drop (at + length xs + (m - (at + length xs))) (take at l ++ xs ++ drop (at + length xs) l) ≡ drop (at + length xs + (m - (at + length xs))) l =
    ap (λ (i : ℕ). drop (i + (m - (at + length xs))) (take at l ++ xs ++ drop (at + length xs) l)) (sym e)
    ∙ drop-append-add (take at l ++ xs) (drop (at + length xs) l) (m - (at + length xs))
    ∙ drop-drop (m - (at + length xs)) (at + length xs) l in
    rw (← append_assoc) (rw r at d)

-- a store over an earlier one hides it
put-alike : (l m : List ℕ) (at : ℕ) (xs : List ℕ) → take at m ≡ take at l → drop (at + length xs) m ≡ drop (at + length xs) l
    → put m at xs ≡ put l at xs
unfolding put
put-alike l m at xs t d = rw (t, d)

pub put-over : (l : List ℕ) (a b : ℕ) (xs ys : List ℕ) → b ≤ a → a + length xs ≤ b + length ys → a ≤ length l
    → put (put l a xs) b ys ≡ put l b ys
put-over l a b xs ys h k i = put-alike l (put l a xs) b ys (take_put b l a xs h i) (drop-put (b + length ys) l a xs k i)

-- bytes that lie there already need no store
pub put-there : (n : ℕ) (l : List ℕ) (at : ℕ) (xs : List ℕ) → at + length xs + n ≤ length l
    → put l at (xs ++ take n (drop (at + length xs) l)) ≡ put l at xs
unfolding put
put-there n l at xs h =
    let k : length (take n (drop (at + length xs) l)) ≡ n = simp (length-take, length-drop) (omega arith) in
    let e : at + length xs + n ≡ at + (length xs + n) = add_assoc at (length xs) n in
    let d : take n (drop (at + length xs) l) ++ drop (at + (length xs + n)) l ≡ drop (at + length xs) l =
    rw (← e, ← drop-drop n (at + length xs) l) (take-append-drop n (drop (at + length xs) l)) in
    rw (length-append, k, append_assoc, d)

-- ---- byte by byte

pub set-put : (l : List ℕ) (i b : ℕ) → i < length l → set l i b ≡ put l i (b ∷ [])
unfolding put
set-put l i b h = rw (set_split l i b, add-one)

-- one byte more behind those stored
pub put-more : (n : ℕ) (l : List ℕ) (at : ℕ) (xs : List ℕ) (b : ℕ) → length xs ≡ n → at + n < length l
    → set (put l at xs) (at + n) b ≡ put l at (xs ++ (b ∷ []))
put-more n l at xs b e h =
    let j : at + n < length (put l at xs) = rw (length-put l at xs (rw e (omega arith))) h in
    rw (set-put (put l at xs) (at + n) b j, put_next n l at xs (b ∷ []) e (omega arith))

-- one byte more of a copy
pub put_copy : (l : List ℕ) (at : ℕ) (src : List ℕ) (i : ℕ) → at + length src ≤ length l → i < length src
    → set (put l at (take i src)) (at + i) (get_or src i 0) ≡ put l at (take (i + 1) src)
put_copy l at src i h k =
    rw (put-more i l at (take i src) (get_or src i 0) (simp length-take (omega arith)) (omega arith), add-one, take-suc src i 0)

-- one zero more
pub put-zero : (l : List ℕ) (at i : ℕ) → at + i < length l
    → set (put l at (replicate i 0)) (at + i) 0 ≡ put l at (replicate (i + 1) 0)
put-zero l at i h =
    rw (put-more i l at (replicate i 0) 0 (length-replicate {A = ℕ} i 0) h, ← replicate-append-replicate {A = ℕ} i 1 0)

-- what was stored is found at the length it has
pub part-put : (n : ℕ) (l : List ℕ) (at : ℕ) (xs : List ℕ) → length xs ≡ n → at ≤ length l → take n (drop at (put l at xs)) ≡ xs
part-put n l at xs e h = rw e at (get-put l at xs h)

-- ---- fields

-- a field of n + m bytes stored as one of n and one of m
pub put-split : (n m : ℕ) (l : List ℕ) (at v : ℕ) → at + n ≤ length l
    → put (put l at (le_bytes n (v % 256 ^ n))) (at + n) (le_bytes m (v / 256 ^ n)) ≡ put l at (le_bytes (n + m) v)
put-split n m l at v h =
    rw (le_bytes-mod, le_bytes-split n m v) (put_next n l at (le_bytes n v) (le_bytes m (v / 256 ^ n)) (length-le_bytes n v) h)

-- ---- through a part of the slice

-- what a slice holds once the part of n bytes from `at` on holds ys
pub put_mid-put : (l : List ℕ) (at n : ℕ) (xs : List ℕ) {ys : List ℕ} → ys ≡ xs → length xs ≡ n → put_mid at (at + n - at) l ys ≡ put l at xs
unfolding put
put_mid-put l at n xs e f =
    let k : at + n - at ≡ n = omega arith in
    rw (e, f, k, drop-drop)

-- ---- total stores

pub store-put : (l : List ℕ) (at : ℕ) (xs : List ℕ) → at + length xs ≤ length l → store l at xs ≡ put l at xs
unfolding store
store-put l at xs h = rw (le-leb _ _ h)

pub store-none : (l : List ℕ) (at : ℕ) (xs : List ℕ) → length l < at + length xs → store l at xs ≡ l
unfolding store
store-none l at xs h = rw (lt-leb _ _ h)

pub length-store : (l : List ℕ) (at : ℕ) (xs : List ℕ) → length (store l at xs) ≡ length l
length-store l at xs =
    ⊎_elim (λ h. rw (store-put l at xs h) (length-put l at xs h)) (λ h. rw (store-none l at xs h))
    (le-or-lt (at + length xs) (length l))

-- a store of k bytes right behind n that were stored from `at` on
pub store-next : (n k : ℕ) (l : List ℕ) (at : ℕ) (xs ys : List ℕ) {m r : List ℕ} → length xs ≡ n → length ys ≡ k → at + n + k ≤ length l
    → m ≡ put l at xs → r ≡ store m (at + n) ys → r ≡ put l at (xs ++ ys)
store-next n k l at xs ys {m} e f h p q =
    let w : length m ≡ length l = rw p (length-put l at xs (rw e (omega arith))) in
    let g : at + n + length ys ≤ length m = rw (f, w) h in
    q ∙ store-put m (at + n) ys g ∙ rw p (put_next n l at xs ys e (omega arith))

-- what a store of n bytes that passed the test answers and leaves, and one that did not
module _ (l : List ℕ) (at n : ℕ) (xs : List ℕ) (e : length xs ≡ n) where
  pub stored : {m : List ℕ} → leb (at + n) (length l) ≡ true → m ≡ put l at xs → (Ok tt ≡ stored_of l at n) × (m ≡ store l at xs)
  unfolding store
  stored t p = (rw t, rw (e, t) p)

  pub refused : leb (at + n) (length l) ≡ false → (Err refusal.Area ≡ stored_of l at n) × (l ≡ store l at xs)
  unfolding store
  refused t = (rw t, rw (e, t))

-- a store of the n bytes of a number, as `to_le_bytes` gives them
pub stored-bytes : (l : List ℕ) (at n v : ℕ) {xs m : List ℕ} {r : (Result (Unit {0}) Refusal)} → xs ≡ bytes_low_first 0 n v → r ≡ stored_of l at (length xs)
    → m ≡ store l at xs → (r ≡ stored_of l at n) × (m ≡ store l at (le_bytes n v))
stored-bytes l at n v {xs} e p q =
    let one : v / 256 ^ 0 ≡ v = div-one v in
    let f : xs ≡ le_bytes n v = rw one at (e ∙ bytes_low_first-le_bytes n 0 v) in
    let k : length xs ≡ n = rw f (length-le_bytes n v) in
    (rw k at p, rw f at q)
