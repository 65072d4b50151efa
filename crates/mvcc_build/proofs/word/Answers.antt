-- `mvcc_build::word` meets its contract. Assumes nothing.
use native.Mathlib.Omega.{arith}
use mathlib.Core.Path.{sym, ◌∙◌}
use Rattle.le.proofs.Fields.{field-one}
use Rattle.mvcc_build.proofs.Words.{narrow, word_read}
use Rattle.mvcc_build.proofs.word.Goals as goal

pub returns-then-w-eq8 : goal.returns-then-w-eq8
returns-then-w-eq8 c = word_read c.args.s.now c.args.at c.args.w 8 c.if-w-eq8.true c.requires.0 c.read_u64.ensures

pub returns-then-w-eq4 : goal.returns-then-w-eq4
returns-then-w-eq4 c = c.from.ensures ∙ word_read c.args.s.now c.args.at c.args.w 4 c.if-w-eq4.true c.requires.0 c.read_u32.ensures

pub returns-then-w-eq2 : goal.returns-then-w-eq2
returns-then-w-eq2 c = c.from-then-w-eq2.ensures ∙ word_read c.args.s.now c.args.at c.args.w 2 c.if-w-eq2.true c.requires.0 c.read_u16.ensures

-- where no other width is left
pub returns : goal.returns
returns c =
    let e = narrow c.args.w c.requires.1 c.if-w-eq8.false c.if-w-eq4.false c.if-w-eq2.false in
    c.from-2.ensures ∙ rw e (sym (field-one c.args.at c.args.s.now (omega arith)))
