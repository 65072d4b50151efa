use borrow.Author.Tests.{eq-eqb, ne_eqb}
use Rattle.header.proofs.Encoding.{header-written}
use Rattle.header.proofs.encode_header.Goals as goal

pub returns-then-buf-ne-PAGE_SIZE : goal.returns-then-buf-ne-PAGE_SIZE
returns-then-buf-ne-PAGE_SIZE c = (simp (ne_eqb _ _ c.if-buf-ne-PAGE_SIZE.true), simp (ne_eqb _ _ c.if-buf-ne-PAGE_SIZE.true))

pub returns : goal.returns
returns c =
    let a = c.args in
    let e = header-written a.h a.buf.now c.if-buf-ne-PAGE_SIZE.false c.encode_fields-fields.ensures c.write_bytes.ensures.1 c.write_zeros.ensures.1 in
    (simp (eq-eqb _ _ c.if-buf-ne-PAGE_SIZE.false), simp (eq-eqb _ _ c.if-buf-ne-PAGE_SIZE.false) e)
