-- A body's heading: what it is refused for, and that decoding refuses it for the same. Assumes nothing.
use mathlib.Core.Path.{◌≡◌, refl, sym, ap, ◌∙◌}
use mathlib.Core.Bool.{Bool, true, false}
use mathlib.Core.List.{List}
use Prim.Native.Nat.{ℕ, ◌≤◌, ◌<◌}
use native.Mathlib.Omega.{arith}
use borrow.Author.Tests.{le-leb, lt-leb, eq-eqb, ne_eqb}
use lib.Dec.{leb, eqb}
use lib.ListN.{length}
use Rattle.std.specs.Prelude.{Option, None, Some, Result, Ok, Err}
use Rattle.le.specs.Le.{whole_field, field}
use Rattle.le.proofs.Fields.{field-whole}
use Rattle.le.proofs.Compare.{no_test}
use Rattle.refusal.specs.Refusal.{unless, first, accepts, number_of, answered}
use Rattle.refusal.proofs.Judged.{row_back}
use Rattle.refusal.specs.declared.Refusal.{Refusal}
use Rattle.refusal.specs.declared.Refusal.TheVariants.{Short, Magic}
use Rattle.mvcc.specs.Decode.{batch_magic, batch_of}
use Rattle.mvcc.specs.Seen.{heading_refusal, heading_judged, refusal_in, decode_refusal, refusal_of, decodes}
use Rattle.mvcc.specs.declared.MvccCommitBatch.{MvccCommitBatch}

-- ---- the heading by its tests

module _ (s : List ℕ) where
  pub heading-short : length s < 18 → Err Short ≡ heading_judged s
  unfolding heading_refusal
  heading-short h = rw (lt-leb 18 (length s) h)

  pub heading-alien : 18 ≤ length s → (whole_field 8 0 s ≡ batch_magic → ⊥) → Err Magic ≡ heading_judged s
  unfolding heading_refusal
  heading-alien h m = rw (le-leb 18 (length s) h, ne_eqb (field 8 0 s) batch_magic (λ e. m (field-whole 8 0 s (omega arith) ∙ e)))

  pub heading-fine : 18 ≤ length s → whole_field 8 0 s ≡ batch_magic → (Ok tt) ≡ heading_judged s
  unfolding heading_refusal
  heading-fine h m = rw (le-leb 18 (length s) h, eq-eqb (field 8 0 s) batch_magic (sym (field-whole 8 0 s (omega arith)) ∙ m))

-- the judgement that an answer tells
abbrev pub heading_row : Result Unit Refusal → Option Refusal
heading_row (Ok u) = None
heading_row (Err r) = Some r

pub heading-told : (s : List ℕ) {x : Result Unit Refusal} → x ≡ heading_judged s → heading_refusal s ≡ heading_row x
heading-told s e = sym (ap heading_row e ∙ row_back Err (Ok tt) heading_row refl (λ r. refl) (heading_refusal s))

-- ---- decoding refuses it first

answered-first : (d : Result MvccCommitBatch Refusal) (v : Option Refusal) → refusal_in (answered Err d v) ≡ first v (refusal_in (answered Err d v))
answered-first d None = refl
answered-first d (Some r) = refl

accepted-first : (v w : Option Refusal) → w ≡ first v w → accepts w ≡ true → v ≡ None
accepted-first None w e a = refl
accepted-first (Some r) w e a = no_test (sym (ap accepts e) ∙ a)

-- the heading's numbers are 2 and 3
unnumbered : (a b : Bool) (w : Option Refusal) → w ≡ first (unless a Short (unless b Magic None)) w → (number_of w ≡ 2 → ⊥) → (number_of w ≡ 3 → ⊥)
    → unless a Short (unless b Magic None) ≡ None
unnumbered false b w e l m = absurd (l (ap number_of e))
unnumbered true false w e l m = absurd (m (ap number_of e))
unnumbered true true w e l m = refl

module _ (s : List ℕ) where
  pub decode-first : decode_refusal s ≡ first (heading_refusal s) (decode_refusal s)
  unfolding decode_refusal batch_of
  decode-first = answered-first _ (heading_refusal s)

  -- so the heading of a body that decodes is fine
  pub decodes-heading : decodes s ≡ true → heading_refusal s ≡ None
  unfolding decodes
  decodes-heading d = accepted-first (heading_refusal s) (decode_refusal s) decode-first d

  -- and so is that of one whose number is neither 2 nor 3
  pub heading-none : (refusal_of s ≡ 2 → ⊥) → (refusal_of s ≡ 3 → ⊥) → heading_refusal s ≡ None
  unfolding refusal_of heading_refusal
  heading-none l m = unnumbered (leb 18 (length s)) (eqb (field 8 0 s) batch_magic) (decode_refusal s) decode-first l m
