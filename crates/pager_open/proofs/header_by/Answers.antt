use mathlib.Core.Path.{◌∙◌}
use mathlib.Core.Bool.{false}
use mathlib.Core.List.{List}
use Prim.Native.Nat.{ℕ}
use native.Mathlib.Omega.{arith}
use Rattle.wal.proofs.Opening.{known-last}
use Rattle.wal.proofs.Reading.{known-page}
use Rattle.pager_open.proofs.Found.{header-zero, header-main}
use Rattle.pager_open.proofs.header_by.Goals as goal

pub returns-then-zero-eq0 : goal.returns-then-zero-eq0
returns-then-zero-eq0 c =
    let a = c.args in
    let l : List ℕ = a.file.now in
    let k = c.read_page-zero.ensures ∙ known-page l a.wal c.requires 0 (λ e. omega arith) in
    rw (c.recounted.ensures, known-last l a.wal c.requires) (header-main a.main_header false l k c.if-zero-eq0.true)

pub returns : goal.returns
returns c =
    let a = c.args in
    let l : List ℕ = a.file.now in
    let k = c.read_page-zero.ensures ∙ known-page l a.wal c.requires 0 (λ e. omega arith) in
    c.decode_header.ensures ∙ header-zero a.main_header false l k c.if-zero-eq0.false
