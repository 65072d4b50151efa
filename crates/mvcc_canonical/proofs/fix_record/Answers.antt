-- `mvcc_canonical::fix_record` meets its contract. Assumes nothing.
use native.Mathlib.Omega.{arith}
use mathlib.Core.Path.{◌≡◌, ap, ◌∙◌}
use Prim.Native.Nat.{ℕ, ◌+◌}
use Rattle.le.specs.Le.{field}
use Rattle.le.proofs.Fields.{field-whole}
use Rattle.mvcc_canonical.proofs.Walk.{Found, found_at}
use Rattle.mvcc_canonical.proofs.fix_record.Goals as goal

pub overflow_add-at : goal.overflow_add-at
overflow_add-at c =
    let there : Found c.args.body.now (λ i. (c.type_inv.body i).fits) c.args.at c.requires =
    found_at c.args.body.now (λ i. (c.type_inv.body i).fits) c.args.at c.requires in
    omega (arith, (there).here)

pub overflow_add-rest-2 : goal.overflow_add-rest-2
overflow_add-rest-2 c =
    let there : Found c.args.body.now (λ i. (c.type_inv.body i).fits) c.args.at c.requires =
    found_at c.args.body.now (λ i. (c.type_inv.body i).fits) c.args.at c.requires in
    let named : c.from.result ≡ field 2 (c.args.at + 1) c.args.body.now =
    let a = c.args in
    c.from.ensures ∙ c.read_u16.ensures ∙ field-whole 2 (a.at + 1) a.body.now (there).table in
    omega (arith, (there).byte, named)

pub bounds-body-at : goal.bounds-body-at
bounds-body-at c =
    let there : Found c.args.body.now (λ i. (c.type_inv.body i).fits) c.args.at c.requires =
    found_at c.args.body.now (λ i. (c.type_inv.body i).fits) c.args.at c.requires in
    (there).here

pub returns-then-body-at-eq0 : goal.returns-then-body-at-eq0
returns-then-body-at-eq0 c =
    let there : Found c.args.body.now (λ i. (c.type_inv.body i).fits) c.args.at c.requires =
    found_at c.args.body.now (λ i. (c.type_inv.body i).fits) c.args.at c.requires in
    let named : c.from.result ≡ field 2 (c.args.at + 1) c.args.body.now =
    let a = c.args in
    c.from.ensures ∙ c.read_u16.ensures ∙ field-whole 2 (a.at + 1) a.body.now (there).table in
    let f = there in
    let a = c.args in
    record { value = ap (λ (k : ℕ). a.at + (11 + k)) (named) ∙ (f.none c.if-body-at-eq0.true).0; out_after = (f.none c.if-body-at-eq0.true).1 a.out.now }

pub overflow_add-rest-3 : goal.overflow_add-rest-3
overflow_add-rest-3 c =
    let there : Found c.args.body.now (λ i. (c.type_inv.body i).fits) c.args.at c.requires =
    found_at c.args.body.now (λ i. (c.type_inv.body i).fits) c.args.at c.requires in
    let named : c.from.result ≡ field 2 (c.args.at + 1) c.args.body.now =
    let a = c.args in
    c.from.ensures ∙ c.read_u16.ensures ∙ field-whole 2 (a.at + 1) a.body.now (there).table in
    omega (arith, (there).byte, named)

pub returns : goal.returns
returns c =
    let there : Found c.args.body.now (λ i. (c.type_inv.body i).fits) c.args.at c.requires =
    found_at c.args.body.now (λ i. (c.type_inv.body i).fits) c.args.at c.requires in
    let named : c.from.result ≡ field 2 (c.args.at + 1) c.args.body.now =
    let a = c.args in
    c.from.ensures ∙ c.read_u16.ensures ∙ field-whole 2 (a.at + 1) a.body.now (there).table in
    let f = there in
    let a = c.args in
    let n = rw (named) at (c.from-count.ensures ∙ c.read_u16-2.ensures) ∙ field-whole 2 _ a.body.now (f.counted c.if-body-at-eq0.false) in
    let d = c.fix_columns.ensures in record { value = rw (n, named) at d.value ∙ (f.some c.if-body-at-eq0.false).0; out_after = rw (n, named) at d.out_after ∙ (f.some c.if-body-at-eq0.false).1 a.out.now }

pub fix_columns-requires : goal.fix_columns-requires
fix_columns-requires c =
    let there : Found c.args.body.now (λ i. (c.type_inv.body i).fits) c.args.at c.requires =
    found_at c.args.body.now (λ i. (c.type_inv.body i).fits) c.args.at c.requires in
    let named : c.from.result ≡ field 2 (c.args.at + 1) c.args.body.now =
    let a = c.args in
    c.from.ensures ∙ c.read_u16.ensures ∙ field-whole 2 (a.at + 1) a.body.now (there).table in
    let n = rw (named) at (c.from-count.ensures ∙ c.read_u16-2.ensures) ∙ field-whole 2 _ c.args.body.now (there.counted c.if-body-at-eq0.false) in
    rw (n, named) (there.run c.if-body-at-eq0.false)
