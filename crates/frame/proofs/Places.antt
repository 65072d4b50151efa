-- The parts of a frame by their place in the log. Assumes nothing.
use mathlib.Core.Path.{◌≡◌, sym, ◌∙◌}
use mathlib.Core.Bool.{true, false}
use mathlib.Core.List.{List, ◌++◌}
use mathlib.Core.Logic.{⊎_elim}
use Prim.Native.Nat.{ℕ, ◌+◌, ◌≤◌, ◌<◌}
use native.Mathlib.Omega.{arith}
use borrow.Author.Tests.{eq-eqb, ne_eqb}
use lib.Dec.{leb, eqb}
use lib.ListN.{length, take, drop, length-take, length-drop}
use lib.Seq.{take-take, drop-drop}
use Rattle.le.specs.Le.{field, whole_field}
use Rattle.le.proofs.Tests.{le-or-lt}
use Rattle.le.proofs.Fields.{drop-take, field-part, field-whole, field_cut}
use Rattle.checksum.specs.Checksum.{sum_from}
use Rattle.checksum.proofs.Sums.{sum_from-append}
use Rattle.frame.specs.Frame.{frame_at, body_of, checksum_of, intact, intact_at}

module _ (at : ℕ) (l : List ℕ) where
  heading-there : (k : ℕ) → k + 4 ≤ 16 → at + k + 4 ≤ length l → whole_field 4 k (take 16 (drop at l)) ≡ whole_field 4 k (frame_at at l)
  heading-there k h i =
      let a : k + 4 ≤ length (take 16 (drop at l)) = rw (length-take, length-drop) (omega arith) in
      let b : k + 4 ≤ length (frame_at at l) = rw (length-take, length-drop) (omega arith) in
      field-whole 4 k (take 16 (drop at l)) a ∙ field-part 4 k 16 at l h ∙ sym (field-part 4 k 4112 at l (omega arith)) ∙ sym (field-whole 4 k (frame_at at l) b)

  heading-cut : (k : ℕ) → k + 4 ≤ 16 → length l < at + k + 4 → whole_field 4 k (take 16 (drop at l)) ≡ whole_field 4 k (frame_at at l)
  heading-cut k h i =
      let a : length (take 16 (drop at l)) < k + 4 = rw (length-take, length-drop) (omega arith) in
      let b : length (frame_at at l) < k + 4 = rw (length-take, length-drop) (omega arith) in
      field_cut 4 k (take 16 (drop at l)) a ∙ sym (field_cut 4 k (frame_at at l) b)

  -- a field of the heading
  pub heading-field : (k : ℕ) → k + 4 ≤ 16 → whole_field 4 k (take 16 (drop at l)) ≡ whole_field 4 k (frame_at at l)
  heading-field k h = ⊎_elim (heading-there k h) (heading-cut k h) (le-or-lt (at + k + 4) (length l))

  -- .. of a whole frame
  pub field-inside : (k : ℕ) → k + 4 ≤ 4112 → at + 4112 ≤ length l → whole_field 4 k (frame_at at l) ≡ field 4 k (frame_at at l)
  field-inside k h i =
      let b : k + 4 ≤ length (frame_at at l) = rw (length-take, length-drop) (omega arith) in
      field-whole 4 k (frame_at at l) b

  pub body-there : body_of (frame_at at l) ≡ take 4096 (drop (at + 16) l)
  unfolding body_of
  body-there = drop-take 16 4096 (drop at l) ∙ rw drop-drop

  pub checksum-parts : checksum_of (frame_at at l) ≡ sum_from 0 (take 12 (drop at l) ++ body_of (frame_at at l))
  unfolding checksum_of body_of
  checksum-parts = rw (take-take 12 4112 (drop at l) (omega arith))

  -- the sum carried over the heading, then over the body
  pub checksum-there : {s r : ℕ} → s ≡ sum_from 0 (take 12 (drop at l)) → r ≡ sum_from s (body_of (frame_at at l)) → r ≡ checksum_of (frame_at at l)
  checksum-there e f = f ∙ rw (checksum-parts, sum_from-append, ← e)

-- each way that the test of a frame can end
module _ (l : List ℕ) (at salt : ℕ) where
  pub outside : leb (at + 4112) (length l) ≡ false → false ≡ intact_at l at salt
  unfolding intact_at
  outside t = rw t

  pub other-salt : leb (at + 4112) (length l) ≡ true → (field 4 8 (frame_at at l) ≡ salt → ⊥) → false ≡ intact_at l at salt
  unfolding intact_at intact
  other-salt t n = rw (t, ne_eqb (field 4 8 (frame_at at l)) salt n)

  pub by-sum : leb (at + 4112) (length l) ≡ true → field 4 8 (frame_at at l) ≡ salt
      → eqb (field 4 12 (frame_at at l)) (checksum_of (frame_at at l)) ≡ intact_at l at salt
  unfolding intact_at intact
  by-sum t e = rw (t, eq-eqb (field 4 8 (frame_at at l)) salt e)
