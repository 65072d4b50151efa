use borrow.Author.Tests.{leb-true}
use lib.ListN.{replicate, length-replicate}
use Rattle.std.proofs.Common.{◌≡◌, ℕ, ◌+◌, ◌-◌, ◌≤◌, length, take, drop, length-take, length-drop, sym, ◌∙◌, leb, true, arith}
use Rattle.le.proofs.Stores.{stored, refused, put_mid-put}
use Rattle.le.proofs.write_zeros.Goals as goal

pub returns-then-fits_in : goal.returns-then-fits_in
returns-then-fits_in c =
    let a = c.args in
    let fits : leb (a.at + a.n) (length a.buf.now) ≡ true = sym c.fits_in.ensures ∙ c.if-fits_in.true in
    let h : a.at + a.n ≤ length a.buf.now = leb-true _ _ fits in
    let e : length (take (a.at + a.n - a.at) (drop a.at a.buf.now)) ≡ a.n = simp (length-take, length-drop) (omega arith) in
    let n = length-replicate {A = ℕ} a.n 0 in
    stored a.buf.now a.at a.n (replicate a.n 0) n fits
    (put_mid-put a.buf.now a.at a.n (replicate a.n 0) (rw e at (c.fill.ensures.after (λ y e. e))) n)

pub returns : goal.returns
returns c =
    let a = c.args in
    refused a.buf.now a.at a.n (replicate a.n 0) (length-replicate {A = ℕ} a.n 0) (sym c.fits_in.ensures ∙ c.if-fits_in.false)
