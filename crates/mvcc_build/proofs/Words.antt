-- Laws of words: the top places of ASCII bytes, and two words that overlap. Assumes nothing.
use mathlib.Core.Path.{◌≡◌, refl, sym, ap, ◌∙◌}
use mathlib.Core.Bool.{Bool, true, false, ◌&&◌}
use mathlib.Core.List.{List, [], ◌∷◌}
use mathlib.Core.Logic.{inl, inr, ⊎_elim}
use Prim.Native.Nat.{ℕ, zero, suc, ◌+◌, ◌-◌, ◌*◌, ◌/◌, ◌%◌, ◌≤◌, ◌<◌}
use native.Mathlib.Omega.{arith}
use borrow.Author.Tests.{eqb-true}
use lib.Bits.{bit_and, and_block, and_high}
use lib.Dec.{eqb}
use lib.ListN.{length, take, drop, get_or, length-take, length-drop, take-append-drop}
use lib.Seq.{take-add, take_all, length-take-le, get_or-take, get_or-drop}
use Rattle.le.specs.Le.{Bytes, le_of, le_bytes, field, whole_field, put, store}
use Rattle.le.specs.Choice.{both}
use Rattle.le.proofs.Fields.{le_bytes-field, field-whole, length-le_bytes}
use Rattle.le.proofs.Stores.{put-none, put_next, put-over, length-put, store-put}
use Rattle.le.proofs.Tests.{le-or-lt}
use Rattle.text.specs.Utf8.{well_formed}
use Rattle.text.specs.Walk.{Ascii}
use Rattle.text.proofs.Laws.{over-ascii, at-end}
use Rattle.mvcc_build.specs.Words.{Wide}

-- ---- two tests at once

and_both : (x y : Bool) → (x && y) ≡ both x y
and_both true y = refl
and_both false y = refl

pub both-tested : {x y a b : Bool} → x ≡ a → y ≡ b → (x && y) ≡ both a b
both-tested {x} {y} {a} {b} e f = rw (e, f) (and_both a b)

pub and-true : (x y : Bool) → (x && y) ≡ true → (x ≡ true) × (y ≡ true)
and-true true y e = (refl, e)
and-true false y e = let z : ◌≡◌ {A = ℕ} 0 1 = cc in absurd (omega arith)

-- ---- widths

pub narrow : (w : ℕ) → Wide w → (w ≡ 8 → ⊥) → (w ≡ 4 → ⊥) → (w ≡ 2 → ⊥) → w ≡ 1
narrow w (inl e) a b c = absurd (a e)
narrow w (inr (inl e)) a b c = absurd (b e)
narrow w (inr (inr (inl e))) a b c = absurd (c e)
narrow w (inr (inr (inr e))) a b c = e

pub wide-le : (w : ℕ) → Wide w → w ≤ 8
wide-le w (inl e) = omega arith
wide-le w (inr (inl e)) = omega arith
wide-le w (inr (inr (inl e))) = omega arith
wide-le w (inr (inr (inr e))) = omega arith

-- a word of the width that was tested
pub word_read : (s : List ℕ) (at w k : ℕ) {r : ℕ} → w ≡ k → at + w ≤ length s → r ≡ whole_field k at s → r ≡ field w at s
word_read s at w k e h f = rw e (f ∙ field-whole k at s (rw e at h))

-- ---- ASCII

unfoldable tops : ℕ → ℕ
tops zero = 0
tops (suc n) = tops n * 256 + 128

-- the top place of the first byte, and those of the others
top-clear : (b x m : ℕ) → b < 256 → bit_and (b + 256 * x) (m * 256 + 128) ≡ 0 → (b < 0x80) × (bit_and x m ≡ 0)
top-clear b x m h e =
    let f : b + 256 * x ≡ x * 256 + b = omega arith in
    let g : bit_and x m * 256 + b / 128 % 2 * 128 ≡ 0 = rw (f, and_block 8 x m b 128 h (omega arith), and_high b 1 7) at e in
    (omega arith, omega arith)

tops-clear : (xs : List ℕ) (n : ℕ) → length xs ≤ n → ((i : ℕ) → i < length xs → get_or xs i 0 < 256) → bit_and (le_of xs) (tops n) ≡ 0 → Ascii xs 0 (length xs)
unfolding le_of tops
tops-clear [] n h b e k l m = absurd (omega arith)
tops-clear (x ∷ xs) zero h b e k l m = absurd (omega arith)
tops-clear (x ∷ xs) (suc n) h b e zero l m = (top-clear x (le_of xs) (tops n) (b 0 (omega arith)) e).0
tops-clear (x ∷ xs) (suc n) h b e (suc k) l m =
    tops-clear xs n (omega arith) (λ i j. b (suc i) (omega arith)) (top-clear x (le_of xs) (tops n) (b 0 (omega arith)) e).1 k (omega arith) (omega arith)

module _ (s : List ℕ) (bytes : Bytes s) (w : ℕ) (small : w ≤ 8) where
  -- a word without top places is ASCII
  pub word-ascii : (at : ℕ) {v : ℕ} {r : Bool} → at + w ≤ length s → v ≡ field w at s → r ≡ eqb (bit_and v 0x8080_8080_8080_8080) 0 → r ≡ true
      → Ascii s at (at + w)
  unfolding tops
  word-ascii at {v} h e f t k l m =
      let n : length (take w (drop at s)) ≡ w = length-take-le w (drop at s) (rw length-drop (omega arith)) in
      let b : (i : ℕ) → i < length (take w (drop at s)) → get_or (take w (drop at s)) i 0 < 256 = λ i j. rw (get_or-take w (drop at s) i 0 (rw n at j), get_or-drop at s i 0) (bytes (at + i)) in
      let z : bit_and v (tops 8) ≡ 0 = eqb-true (bit_and v (tops 8)) 0 (sym f ∙ t) in
      let g : at + (k - at) ≡ k = omega arith in
      let q : k - at < w = omega arith in
      rw (get_or-take w (drop at s) (k - at) 0 q, get_or-drop at s (k - at) 0, g) at (tops-clear (take w (drop at s)) 8 (rw n small) b (rw e at z) (k - at) (omega arith) (rw n q))

  -- what two words cover
  pub ends-ascii : length s ≤ 2 * w → w ≤ length s → Ascii s 0 (0 + w) → Ascii s (length s - w) (length s - w + w) → Ascii s 0 (length s)
  ends-ascii h j f g k l m = ⊎_elim (λ i. g k i (omega arith)) (λ i. f k l (omega arith)) (le-or-lt (length s - w) k)

pub ascii-text : (s : List ℕ) → Ascii s 0 (length s) → well_formed s ≡ true
ascii-text s f = sym (over-ascii s 0 (length s) f (omega arith) (omega arith) (omega arith) (omega arith)).same ∙ at-end s (length s) (omega arith)

-- ---- stores

pub put-empty : (l : List ℕ) (at : ℕ) (s : List ℕ) → length s ≡ 0 → l ≡ put l at s
put-empty l at [] h = sym (put-none l at)
put-empty l at (x ∷ s) h = absurd (omega arith)

-- a number of the width that was tested
pub number-stored : (l : List ℕ) (at k w u v : ℕ) {r : List ℕ} → k ≡ w → at + k ≤ length l → le_bytes w u ≡ le_bytes w v
    → r ≡ store l at (le_bytes w u) → r ≡ put l at (le_bytes k v)
number-stored l at k w u v e h f p =
    let g : at + length (le_bytes w u) ≤ length l = rw (length-le_bytes w u, ← e) h in
    p ∙ store-put l at (le_bytes w u) g ∙ rw (e, f)

-- the first w bytes and the last w, which reach them or overlap them, are all
put-ends : (l : List ℕ) (at : ℕ) (s : List ℕ) (i w : ℕ) → at + length s ≤ length l → i ≤ w → w ≤ length s
    → put (put l at (take w s)) (at + i) (drop i s) ≡ put l at s
put-ends l at s i w h j k =
    let m = put l at (take i s) in
    let x = take (w - i) (drop i s) in
    let n : length (take i s) ≡ i = length-take-le i s (omega arith) in
    let d : i + (w - i) ≡ w = omega arith in
    let e : put m (at + i) x ≡ put l at (take w s) =
    put_next i l at (take i s) x n (omega arith) ∙ ap (put l at) (rw d at (sym (take-add i (w - i) s))) in
    let f : length m ≡ length l = length-put l at (take i s) (rw n (omega arith)) in
    let o : put (put m (at + i) x) (at + i) (drop i s) ≡ put m (at + i) (drop i s) =
    put-over m (at + i) (at + i) x (drop i s) (omega arith) (simp (length-take, length-drop) (omega arith)) (rw f (omega arith)) in
    rw e at o ∙ put_next i l at (take i s) (drop i s) n (omega arith) ∙ ap (put l at) (take-append-drop i s)

module _ (l : List ℕ) (at : ℕ) (s : List ℕ) (bytes : Bytes s) (w : ℕ) (fits : at + length s ≤ length l) (le : w ≤ length s) (ge : length s ≤ 2 * w) where
  pub words-stored : {u v : ℕ} {m r : List ℕ} → u ≡ field w 0 s → v ≡ field w (length s - w) s → m ≡ put l at (le_bytes w u)
      → r ≡ put m (at + (length s - w)) (le_bytes w v) → r ≡ put l at s
  words-stored e f p q =
      let a : le_bytes w (field w 0 s) ≡ take w s = le_bytes-field w 0 s bytes (omega arith) in
      let i = length s - w in
      let b : le_bytes w (field w i s) ≡ take w (drop i s) = le_bytes-field w i s bytes (omega arith) in
      let c : take w (drop i s) ≡ drop i s = take_all w (drop i s) (rw length-drop (omega arith)) in
      q ∙ rw (p, e, f, a, b, c) (put-ends l at s i w fits (omega arith) le)
