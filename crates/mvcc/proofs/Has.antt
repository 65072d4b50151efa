-- Bytes that stand at a place of a body, and the fields read there. Assumes nothing.
use mathlib.Core.Path.{◌≡◌, sym, ap, ◌∙◌}
use mathlib.Core.List.{List, [], ◌∷◌, ◌++◌, append_assoc}
use Prim.Native.Nat.{ℕ, ◌+◌, ◌%◌, ◌^◌, ◌≤◌, ◌<◌}
use native.Mathlib.Omega.{arith}
use borrow.Author.Tests.{le-leb}
use lib.ListN.{length, take, drop, length-append, length-drop}
use lib.Seq.{drop-drop, drop-append_seam, take-append_seam}
use Rattle.le.specs.Le.{le_bytes, field}
use Rattle.le.proofs.Fields.{length-le_bytes, field-front}
use Rattle.mvcc.specs.Answer.{taken}
use Rattle.mvcc.specs.Decode.{num_at}

-- bs stand at `at` in s
pub record Has (s : List ℕ) (at : ℕ) (bs : List ℕ) : Type 0 where
  pub within : at ≤ length s
  pub rest : List ℕ
  pub is : drop at s ≡ bs ++ rest

pub has_left : {s : List ℕ} {at : ℕ} (a b : List ℕ) → Has s at (a ++ b) → Has s at a
has_left a b h = record { within = h.within; rest = b ++ h.rest; is = h.is ∙ append_assoc a b h.rest }

pub has-room : {s : List ℕ} {at : ℕ} (a : List ℕ) → Has s at a → at + length a ≤ length s
has-room {s} {at} a h = omega (arith, simp (length-drop, length-append) at (ap length h.is), h.within)

pub has_right : {s : List ℕ} {at : ℕ} (a b : List ℕ) → Has s at (a ++ b) → Has s (at + length a) b
has_right {s} {at} a b h = record {
  within = has-room a (has_left a b h);
  rest = h.rest;
  is = sym (drop-drop (length a) at s) ∙ ap (drop (length a)) (h.is ∙ append_assoc a b h.rest) ∙ drop-append_seam a (b ++ h.rest);
}

-- what stands behind n bytes
pub has-after : (n : ℕ) {s : List ℕ} {at : ℕ} (a b : List ℕ) → length a ≡ n → Has s at (a ++ b) → Has s (at + n) b
has-after n a b e h = rw e at (has_right a b h)

pub has-next : (b : ℕ) {s bs : List ℕ} {at : ℕ} → Has s at (b ∷ bs) → Has s (at + 1) bs
has-next b {bs = bs} h = has_right (b ∷ []) bs h

-- the bytes themselves
pub has_part : (a : List ℕ) {s : List ℕ} {at : ℕ} → Has s at a → take (length a) (drop at s) ≡ a
has_part a h = rw h.is (take-append_seam a h.rest)

module _ (k v : ℕ) {s : List ℕ} {at : ℕ} (b : v < 256 ^ k) (h : Has s at (le_bytes k v)) where
  pub has-field : field k at s ≡ v
  has-field = rw h.is (field-front k v h.rest b)

  pub has-num : num_at k s at ≡ taken v (at + k)
  unfolding num_at
  has-num =
      let r : at + k ≤ length s = omega (arith, has-room (le_bytes k v) h, length-le_bytes k v) in
      rw (le-leb (at + k) (length s) r, has-field)

-- one byte b in front of others
pub has-byte : (b : ℕ) {s bs : List ℕ} {at : ℕ} → b < 256 → Has s at (b ∷ bs) → num_at 1 s at ≡ taken b (at + 1)
unfolding le_bytes
has-byte b {s} {bs} {at} h g =
    let e : b % 256 ≡ b = omega arith in
    has-num 1 b h (record { within = g.within; rest = bs ++ g.rest; is = g.is ∙ ap (λ (x : ℕ). x ∷ (bs ++ g.rest)) (sym e) })
