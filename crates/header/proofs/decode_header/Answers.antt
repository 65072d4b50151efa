use mathlib.Core.Path.{◌≡◌, sym, ◌∙◌}
use mathlib.Core.Bool.{true}
use mathlib.Core.List.{List}
use Prim.Native.Nat.{ℕ, ◌+◌, ◌≤◌}
use native.Mathlib.Omega.{arith}
use lib.ListN.{length, take}
use borrow.Author.Tests.{eq-eqb, ne_eqb, le-leb, lt-leb}
use Rattle.std.specs.Prelude.{Err}
use Rattle.le.specs.Le.{field, whole_field, same_bytes}
use Rattle.le.proofs.Fields.{field-whole}
use Rattle.refusal.proofs.Headers.{short, foreign, other-version, other-size, read}
use Rattle.header.specs.Header.{magic, is_version, header_in, header_tests, decode_header}
use Rattle.header.proofs.decode_header.Goals as goal

-- a field of a buffer of a page's length is wholly there
inside : (l : List ℕ) → length l ≡ 4096 → (n at : ℕ) → at + n ≤ 4096 → whole_field n at l ≡ field n at l
inside l e n at h = field-whole n at l (omega arith)

pub returns-then-buf-ne-PAGE_SIZE : goal.returns-then-buf-ne-PAGE_SIZE
unfolding decode_header
returns-then-buf-ne-PAGE_SIZE c = short Err _ (header_tests c.args.buf.now) (ne_eqb _ _ c.if-buf-ne-PAGE_SIZE.true)

pub returns-then-not-has_magic : goal.returns-then-not-has_magic
unfolding decode_header magic
returns-then-not-has_magic c =
    let matched : c.has_magic.result ≡ same_bytes (take 16 c.args.buf.now) magic = c.has_magic.ensures in
    foreign Err _ (header_tests c.args.buf.now) (eq-eqb _ _ c.if-buf-ne-PAGE_SIZE.false) (sym (matched) ∙ c.if-not-has_magic.true)

pub returns-then-version-lt-FORMAT_VERSION_V4 : goal.returns-then-version-lt-FORMAT_VERSION_V4
unfolding decode_header magic
returns-then-version-lt-FORMAT_VERSION_V4 c =
    let matched : c.has_magic.result ≡ same_bytes (take 16 c.args.buf.now) magic = c.has_magic.ensures in
    let version : c.read_u16-version.result ≡ field 2 16 c.args.buf.now =
    c.read_u16-version.ensures ∙ inside c.args.buf.now c.if-buf-ne-PAGE_SIZE.false 2 16 (omega arith) in
    other-version Err _ (header_tests c.args.buf.now) (eq-eqb _ _ c.if-buf-ne-PAGE_SIZE.false)
    (sym (matched) ∙ c.if-not-has_magic.false) (rw (lt-leb _ _ (rw (version) at c.if-version-lt-FORMAT_VERSION_V4.true)))

pub returns-then-version-gt-FORMAT_VERSION_V6 : goal.returns-then-version-gt-FORMAT_VERSION_V6
unfolding decode_header magic
returns-then-version-gt-FORMAT_VERSION_V6 c =
    let matched : c.has_magic.result ≡ same_bytes (take 16 c.args.buf.now) magic = c.has_magic.ensures in
    let version : c.read_u16-version.result ≡ field 2 16 c.args.buf.now =
    c.read_u16-version.ensures ∙ inside c.args.buf.now c.if-buf-ne-PAGE_SIZE.false 2 16 (omega arith) in
    other-version Err _ (header_tests c.args.buf.now) (eq-eqb _ _ c.if-buf-ne-PAGE_SIZE.false)
    (sym (matched) ∙ c.if-not-has_magic.false)
    (rw (le-leb _ _ (rw (version) at c.if-version-lt-FORMAT_VERSION_V4.false), lt-leb _ _ (rw (version) at c.if-version-gt-FORMAT_VERSION_V6.true)))

pub returns-then-page_size-ne-PAGE_SIZE : goal.returns-then-page_size-ne-PAGE_SIZE
unfolding decode_header magic
returns-then-page_size-ne-PAGE_SIZE c =
    let matched : c.has_magic.result ≡ same_bytes (take 16 c.args.buf.now) magic = c.has_magic.ensures in
    let version : c.read_u16-version.result ≡ field 2 16 c.args.buf.now =
    c.read_u16-version.ensures ∙ inside c.args.buf.now c.if-buf-ne-PAGE_SIZE.false 2 16 (omega arith) in
    let accepted : is_version (field 2 16 c.args.buf.now) ≡ true =
    rw (le-leb _ _ (rw (version) at c.if-version-lt-FORMAT_VERSION_V4.false), le-leb _ _ (rw (version) at c.if-version-gt-FORMAT_VERSION_V6.false)) in
    let l = c.args.buf.now in
    other-size Err _ (header_tests l) (eq-eqb _ _ c.if-buf-ne-PAGE_SIZE.false) (sym (matched) ∙ c.if-not-has_magic.false)
    (accepted)
    (ne_eqb _ _ (rw (c.from-page_size.ensures ∙ c.read_u16.ensures ∙ inside l c.if-buf-ne-PAGE_SIZE.false 2 18 (omega arith)) at c.if-page_size-ne-PAGE_SIZE.true))

pub returns : goal.returns
unfolding header_in decode_header magic
returns c =
    let version : c.read_u16-version.result ≡ field 2 16 c.args.buf.now =
    c.read_u16-version.ensures ∙ inside c.args.buf.now c.if-buf-ne-PAGE_SIZE.false 2 16 (omega arith) in
    let matched : c.has_magic.result ≡ same_bytes (take 16 c.args.buf.now) magic = c.has_magic.ensures in
    let accepted : is_version (field 2 16 c.args.buf.now) ≡ true =
    rw (le-leb _ _ (rw (version) at c.if-version-lt-FORMAT_VERSION_V4.false), le-leb _ _ (rw (version) at c.if-version-gt-FORMAT_VERSION_V6.false)) in
    let l = c.args.buf.now in
    let whole = inside l c.if-buf-ne-PAGE_SIZE.false in
    rw (
      c.read_u32.ensures ∙ whole 4 20 (omega arith),
      c.read_u32-2.ensures ∙ whole 4 24 (omega arith),
      c.read_u32-3.ensures ∙ whole 4 28 (omega arith),
      version,
    )
    (read Err _ (header_tests l) (eq-eqb _ _ c.if-buf-ne-PAGE_SIZE.false) (sym (matched) ∙ c.if-not-has_magic.false)
    (accepted)
    (eq-eqb _ _ (rw (c.from-page_size.ensures ∙ c.read_u16.ensures ∙ whole 2 18 (omega arith)) at c.if-page_size-ne-PAGE_SIZE.false)))
