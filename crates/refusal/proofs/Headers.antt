-- Each way that decoding a header can end, the main file's or the log's, from the tests that lead there. Assumes nothing.
use mathlib.Core.Path.{◌≡◌}
use mathlib.Core.Bool.{true, false}
use Rattle.refusal.specs.Refusal.{answered}
use Rattle.refusal.specs.Headers.{Tests, header_refusal}
use Rattle.refusal.specs.declared.Refusal.{Refusal}
use Rattle.refusal.specs.declared.Refusal.TheVariants as refusal
use Rattle.refusal.proofs.Judged.{met, resulted}

module _ {A : Type 0} (refused : Refusal → A) (header : A) (t : Tests) where
  pub short : t.long ≡ false → refused refusal.Short ≡ answered refused header (header_refusal t)
  short n = rw n

  pub foreign : t.long ≡ true → t.leading ≡ false → refused refusal.Magic ≡ answered refused header (header_refusal t)
  foreign n m = rw (n, m)

  pub other-version : t.long ≡ true → t.leading ≡ true → t.version ≡ false → refused refusal.Version ≡ answered refused header (header_refusal t)
  other-version n m v = rw (n, m, v)

  pub other-size : t.long ≡ true → t.leading ≡ true → t.version ≡ true → t.paged ≡ false
      → refused refusal.PageSize ≡ answered refused header (header_refusal t)
  other-size n m v s = rw (n, m, v, s)

  pub read : t.long ≡ true → t.leading ≡ true → t.version ≡ true → t.paged ≡ true → header ≡ answered refused header (header_refusal t)
  read n m v s = rw (n, m, v, s)

-- a header that was read: every test was passed, and it is the answer
pub record Passed {A : Type 0} (header answer : A) (t : Tests) : Type 0 where
  pub long : t.long ≡ true
  pub leading : t.leading ≡ true
  pub version : t.version ≡ true
  pub paged : t.paged ≡ true
  pub same : header ≡ answer

pub passed : {A : Type 0} (refused : Refusal → A) (header answer : A) → ((r : Refusal) → refused r ≡ answer → ⊥) → (t : Tests)
    → answered refused header (header_refusal t) ≡ answer → Passed header answer t
passed refused header answer apart t e =
    let a = resulted refused header answer apart (header_refusal t) e in
    let n = met t.long refusal.Short _ a.0 in
    let m = met t.leading refusal.Magic _ n.1 in
    let v = met t.version refusal.Version _ m.1 in
    let s = met t.paged refusal.PageSize _ v.1 in
    record { long = n.0; leading = m.0; version = v.0; paged = s.0; same = a.1 }
