-- A batch cut after any byte: what is whole before the cut reads as in the batch, what is not is refused. Assumes nothing.
use mathlib.Core.Path.{◌≡◌, refl, sym, ap, ◌∙◌}
use mathlib.Core.Bool.{Bool, true, false}
use mathlib.Core.List.{List, [], ◌∷◌, ◌++◌}
use Prim.Native.Nat.{ℕ, zero, suc, ◌+◌, ◌-◌, ◌*◌, ◌≤◌}
use native.Mathlib.Nat.{zero-add}
use native.Mathlib.Omega.{arith}
use borrow.Author.Tests.{le-leb, leb-true}
use lib.Dec.{eqb}
use lib.ListN.{length, take, drop, length-take}
use Rattle.le.specs.Choice.{pick}
use Rattle.le.specs.Le.{field}
use Rattle.le.proofs.Fields.{drop-take, part-part, field-part}
use Rattle.text.specs.Utf8.{well_formed}
use Rattle.refusal.specs.declared.Refusal.TheVariants.{Truncated}
use Rattle.mvcc.specs.Answer.{Answer, taken, refused, then, many}
use Rattle.mvcc.specs.Decode.{fits_in, num_at, text_of, text_at, integer_at, real_at, text_value_at, bool_at, vector_at, tagged_at, value_at, column_at, present_at, judged_at, record_at}
use Rattle.mvcc.specs.declared.TextPlace.{TextPlace}
use Rattle.mvcc.specs.declared.Value.{Value}
use Rattle.mvcc.specs.declared.Value.TheVariants as value
use Rattle.mvcc.specs.declared.RowID.{RowID}
use Rattle.mvcc.proofs.Sound.{When, pick-test}
use Rattle.mvcc.proofs.Has.{Has}

-- ---- what is taken of the one is taken of the other

abbrev pub Stable : {A : Type 0} → Answer A → Answer A → Type 0
Stable x y = When (λ (a : _) (next : ℕ). y ≡ taken a next) x

then-stable : {A B : Type 0} (x y : Answer A) (f g : A → ℕ → Answer B) → Stable x y → ((a : A) (next : ℕ) → Stable (f a next) (g a next))
    → Stable (then x f) (then y g)
then-stable (taken a next) y f g p h = rw p (h a next)
then-stable (refused k) y f g p h = tt

pick-both : {A : Type 0} (P : A → A → Type 0) (b : Bool) {x y v w : A} → P x v → P y w → P (pick b x y) (pick b v w)
pick-both P true p q = p
pick-both P false p q = q

many-stable : {A : Type 0} (f g : ℕ → Answer A) → ((at : ℕ) → Stable (f at) (g at)) → (k at : ℕ) → Stable (many f k at) (many g k at)
unfolding many
many-stable f g h zero at = refl
many-stable f g h (suc k) at =
    then-stable (f at) (g at) _ _ (h at) (λ a next. then-stable (many f k next) (many g k next) _ _ (many-stable f g h k next) (λ rest end. refl))

take_more : (bs rest : List ℕ) (j : ℕ) → take (length bs + j) (bs ++ rest) ≡ bs ++ take j rest
take_more [] rest j = let e : 0 + j ≡ j = omega arith in rw e
take_more (b ∷ bs) rest j = let e : length (b ∷ bs) + j ≡ suc (length bs + j) = omega arith in rw (e, take_more bs rest j)

module _ (whole : List ℕ) (m : ℕ) (small : m ≤ length whole) where
  abbrev s : List ℕ
  s = take m whole

  pub cut-length : length s ≡ m
  cut-length = rw length-take (omega (arith, small))

  same-part : (n at : ℕ) → at + n ≤ length s → take n (drop at s) ≡ take n (drop at whole)
  same-part n at h = rw zero-add at (part-part n at m 0 whole (omega (arith, h, cut-length)))

  pub same-field : (n at : ℕ) → at + n ≤ length s → field n at s ≡ field n at whole
  same-field n at h = rw zero-add at (field-part n at m 0 whole (omega (arith, h, cut-length)))

  pub fits-too : (n at : ℕ) → at + n ≤ length s → fits_in whole at n ≡ true
  fits-too n at h = le-leb (at + n) (length whole) (omega (arith, h, cut-length, small))

  pub num-stable : (k at : ℕ) → Stable (num_at k s at) (num_at k whole at)
  unfolding num_at
  num-stable k at =
      pick-test (λ (x : Answer ℕ). Stable x (pick (fits_in whole at k) (taken (field k at whole) (at + k)) (refused Truncated))) (fits_in s at k)
      (λ e. let h = leb-true (at + k) (length s) e in rw (fits-too k at h, same-field k at h))
      (λ e. tt)

  text-of-stable : (at n : ℕ) → Stable (text_of s at n) (text_of whole at n)
  unfolding text_of
  text-of-stable at n =
      pick-test (λ (x : Answer TextPlace). Stable x (text_of whole at n)) (fits_in s at n)
      (λ e.
      let h = leb-true (at + n) (length s) e in
      pick-test (λ (x : Answer TextPlace). Stable x (text_of whole at n)) (well_formed (take n (drop at s)))
      (λ w. let v = rw (same-part n at h) at w in rw (fits-too n at h, v, same-part n at h))
      (λ w. tt))
      (λ e. tt)

  pub text-stable : (k at : ℕ) → Stable (text_at k s at) (text_at k whole at)
  unfolding text_at
  text-stable k at = then-stable (num_at k s at) (num_at k whole at) _ _ (num-stable k at) (λ n next. text-of-stable next n)

  vector-stable : (at : ℕ) → Stable (vector_at s at) (vector_at whole at)
  unfolding vector_at
  vector-stable at =
      then-stable (num_at 4 s at) (num_at 4 whole at) _ _ (num-stable 4 at) (λ n start.
      pick-test
      (λ (x : Answer Value). Stable x (pick (fits_in whole start (n * 4)) (taken (value.Vector start n) (start + n * 4)) (refused Truncated)))
      (fits_in s start (n * 4))
      (λ e. rw (fits-too (n * 4) start (leb-true _ _ e)))
      (λ e. tt))

  tagged-stable : (tag at : ℕ) → Stable (tagged_at s tag at) (tagged_at whole tag at)
  unfolding tagged_at integer_at real_at text_value_at bool_at
  tagged-stable tag at =
      pick-both Stable (eqb tag 0) refl
      (pick-both Stable (eqb tag 1) (then-stable (num_at 8 s at) (num_at 8 whole at) _ _ (num-stable 8 at) (λ n next. refl))
      (pick-both Stable (eqb tag 2) (then-stable (num_at 8 s at) (num_at 8 whole at) _ _ (num-stable 8 at) (λ n next. refl))
      (pick-both Stable (eqb tag 3) (then-stable (text_at 4 s at) (text_at 4 whole at) _ _ (text-stable 4 at) (λ p next. refl))
      (pick-both Stable (eqb tag 4) (then-stable (num_at 1 s at) (num_at 1 whole at) _ _ (num-stable 1 at) (λ n next. refl))
      (pick-both Stable (eqb tag 5) (vector-stable at) tt)))))

  pub column-stable : (at : ℕ) → Stable (column_at s at) (column_at whole at)
  unfolding column_at value_at
  column-stable at =
      then-stable (text_at 2 s at) (text_at 2 whole at) _ _ (text-stable 2 at) (λ n next.
      then-stable (value_at s next) (value_at whole next) _ _
      (then-stable (num_at 1 s next) (num_at 1 whole next) _ _ (num-stable 1 next) (λ tag from. tagged-stable tag from))
      (λ v end. refl))

  judged-stable : (op : ℕ) (r : RowID) (at : ℕ) → Stable (judged_at s op r at) (judged_at whole op r at)
  unfolding judged_at present_at
  judged-stable op r at =
      pick-both Stable (eqb op 0) refl
      (pick-both Stable (eqb op 1)
      (then-stable (num_at 2 s at) (num_at 2 whole at) _ _ (num-stable 2 at) (λ count first.
      then-stable (many (column_at s) count first) (many (column_at whole) count first) _ _
      (many-stable (column_at s) (column_at whole) column-stable count first) (λ columns end. refl)))
      tt)

  pub record-stable : (at : ℕ) → Stable (record_at s at) (record_at whole at)
  unfolding record_at
  record-stable at =
      then-stable (num_at 1 s at) (num_at 1 whole at) _ _ (num-stable 1 at) (λ op named.
      then-stable (text_at 2 s named) (text_at 2 whole named) _ _ (text-stable 2 named) (λ t next.
      then-stable (num_at 8 s next) (num_at 8 whole next) _ _ (num-stable 8 next) (λ n rest. judged-stable op _ rest)))

  -- ---- bytes that stand before the cut

  pub has-cut : (bs : List ℕ) {at : ℕ} → Has whole at bs → at + length bs ≤ m → Has s at bs
  has-cut bs {at} h r =
      let j : ℕ = m - (at + length bs) in
      let e : at + (length bs + j) ≡ m = omega (arith, r) in
      record {
        within = omega (arith, r, cut-length);
        rest = take j h.rest;
        is = ap (λ (k : ℕ). drop at (take k whole)) (sym e) ∙ drop-take at (length bs + j) whole ∙ ap (take (length bs + j)) h.is ∙ take_more bs h.rest j;
      }
