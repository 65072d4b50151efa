use mathlib.Core.Path.{◌≡◌, sym, ap, ◌∙◌}
use mathlib.Core.Bool.{true, false}
use mathlib.Core.List.{List}
use Prim.Native.Nat.{ℕ, ◌-◌, ◌≤◌}
use native.Mathlib.Omega.{arith}
use lib.ListN.{length, take, drop, length-take}
use lib.Seq.{take-add, take-take}
use Rattle.le.specs.Choice.{both}
use Rattle.le.specs.Le.{same_bytes}
use Rattle.le.proofs.Compare.{same-append, starts-same}
use Rattle.header.specs.Header.{magic}
use Rattle.header.proofs.has_magic.Goals as goal

-- the magic bytes are there where both halves are
halves : (l : List ℕ) → 16 ≤ length l → same_bytes (take 16 l) magic ≡ both (same_bytes (take 8 l) (take 8 magic)) (same_bytes (take 8 (drop 8 l)) (drop 8 magic))
unfolding magic
halves l h =
    let e : length (take 8 l) ≡ length (take 8 magic) = rw length-take (omega arith) in
    rw (take-add 8 8 l) (same-append (take 8 l) (take 8 magic) (take 8 (drop 8 l)) (drop 8 magic) e)

pub returns-then-not-starts_with : goal.returns-then-not-starts_with
unfolding magic
returns-then-not-starts_with c =
    let l = c.args.page.now in
    let f : same_bytes (take 8 l) (take 8 magic) ≡ false = sym (starts-same l (take 8 magic)) ∙ sym c.starts_with.ensures.value ∙ c.if-not-starts_with.true in
    rw (halves l (omega arith), f)

pub returns : goal.returns
unfolding magic
returns c =
    let l = c.args.page.now in
    let f : same_bytes (take 8 l) (take 8 magic) ≡ true = sym (starts-same l (take 8 magic)) ∙ sym c.starts_with.ensures.value ∙ c.if-not-starts_with.false in
    let m = take (length l - 8) (drop 8 l) in
    let e : take 8 m ≡ take 8 (drop 8 l) = take-take 8 (length l - 8) (drop 8 l) (omega arith) in
    rw (halves l (omega arith), f) (c.starts_with-2.ensures.value ∙ starts-same m (drop 8 magic) ∙ ap (λ (k : List ℕ). same_bytes k (drop 8 magic)) e)
