use Rattle.std.proofs.Common.{◌≡◌, ℕ, ◌+◌, ◌≤◌, true, List, length, take, sym, ◌∙◌, arith, eq-eqb, ne_eqb, le-leb}
use Rattle.std.specs.Prelude.{Err}
use borrow.Author.Tests.{lt-leb}
use Rattle.le.specs.Le.{field, whole_field, same_bytes}
use Rattle.le.proofs.Compare.{starts-same}
use Rattle.le.proofs.Fields.{field-whole}
use Rattle.refusal.proofs.Headers.{short, foreign, other-version, other-size, read}
use Rattle.wal.specs.Header.{wal_magic, wal_header_in, is_wal_version, wal_header_tests, decode_wal_header}
use Rattle.wal.proofs.decode_wal_header.Goals as goal

-- a field of the header is wholly there
inside : (l : List ℕ) → 32 ≤ length l → (n at : ℕ) → at + n ≤ 32 → whole_field n at l ≡ field n at l
inside l e n at h = field-whole n at l (omega arith)

pub returns-then-log-lt-WAL_HEADER_SIZE : goal.returns-then-log-lt-WAL_HEADER_SIZE
unfolding decode_wal_header
returns-then-log-lt-WAL_HEADER_SIZE c = short Err _ (wal_header_tests c.args.log.now) (lt-leb _ _ c.if-log-lt-WAL_HEADER_SIZE.true)

pub returns-then-not-starts_with : goal.returns-then-not-starts_with
unfolding decode_wal_header wal_magic
returns-then-not-starts_with c =
    let matched : c.starts_with.result ≡ same_bytes (take 8 c.args.log.now) wal_magic =
    c.starts_with.ensures.value ∙ starts-same c.args.log.now wal_magic in
    foreign Err _ (wal_header_tests c.args.log.now) (le-leb _ _ c.if-log-lt-WAL_HEADER_SIZE.false) (sym (matched) ∙ c.if-not-starts_with.true)

pub returns-then-version-lt-WAL_FORMAT_VERSION_MIN_SUPPORTED : goal.returns-then-version-lt-WAL_FORMAT_VERSION_MIN_SUPPORTED
unfolding decode_wal_header wal_magic
returns-then-version-lt-WAL_FORMAT_VERSION_MIN_SUPPORTED c =
    let matched : c.starts_with.result ≡ same_bytes (take 8 c.args.log.now) wal_magic =
    c.starts_with.ensures.value ∙ starts-same c.args.log.now wal_magic in
    let version : c.read_u32-version.result ≡ field 4 8 c.args.log.now =
    c.read_u32-version.ensures ∙ inside c.args.log.now c.if-log-lt-WAL_HEADER_SIZE.false 4 8 (omega arith) in
    other-version Err _ (wal_header_tests c.args.log.now) (le-leb _ _ c.if-log-lt-WAL_HEADER_SIZE.false)
    (sym (matched) ∙ c.if-not-starts_with.false) (rw (lt-leb _ _ (rw (version) at c.if-version-lt-WAL_FORMAT_VERSION_MIN_SUPPORTED.true)))

pub returns-then-version-gt-WAL_FORMAT_VERSION : goal.returns-then-version-gt-WAL_FORMAT_VERSION
unfolding decode_wal_header wal_magic
returns-then-version-gt-WAL_FORMAT_VERSION c =
    let matched : c.starts_with.result ≡ same_bytes (take 8 c.args.log.now) wal_magic =
    c.starts_with.ensures.value ∙ starts-same c.args.log.now wal_magic in
    let version : c.read_u32-version.result ≡ field 4 8 c.args.log.now =
    c.read_u32-version.ensures ∙ inside c.args.log.now c.if-log-lt-WAL_HEADER_SIZE.false 4 8 (omega arith) in
    other-version Err _ (wal_header_tests c.args.log.now) (le-leb _ _ c.if-log-lt-WAL_HEADER_SIZE.false)
    (sym (matched) ∙ c.if-not-starts_with.false)
    (rw (le-leb _ _ (rw (version) at c.if-version-lt-WAL_FORMAT_VERSION_MIN_SUPPORTED.false), lt-leb _ _ (rw (version) at c.if-version-gt-WAL_FORMAT_VERSION.true)))

pub returns-then-page_size-ne-PAGE_SIZE : goal.returns-then-page_size-ne-PAGE_SIZE
unfolding decode_wal_header wal_magic
returns-then-page_size-ne-PAGE_SIZE c =
    let matched : c.starts_with.result ≡ same_bytes (take 8 c.args.log.now) wal_magic =
    c.starts_with.ensures.value ∙ starts-same c.args.log.now wal_magic in
    let version : c.read_u32-version.result ≡ field 4 8 c.args.log.now =
    c.read_u32-version.ensures ∙ inside c.args.log.now c.if-log-lt-WAL_HEADER_SIZE.false 4 8 (omega arith) in
    let accepted : is_wal_version (field 4 8 c.args.log.now) ≡ true =
    rw (le-leb _ _ (rw (version) at c.if-version-lt-WAL_FORMAT_VERSION_MIN_SUPPORTED.false), le-leb _ _ (rw (version) at c.if-version-gt-WAL_FORMAT_VERSION.false)) in
    let l = c.args.log.now in
    other-size Err _ (wal_header_tests l) (le-leb _ _ c.if-log-lt-WAL_HEADER_SIZE.false) (sym (matched) ∙ c.if-not-starts_with.false)
    (accepted)
    (ne_eqb _ _ (rw (c.read_u32-page_size.ensures ∙ inside l c.if-log-lt-WAL_HEADER_SIZE.false 4 12 (omega arith)) at c.if-page_size-ne-PAGE_SIZE.true))

pub returns : goal.returns
unfolding wal_header_in decode_wal_header wal_magic
returns c =
    let version : c.read_u32-version.result ≡ field 4 8 c.args.log.now =
    c.read_u32-version.ensures ∙ inside c.args.log.now c.if-log-lt-WAL_HEADER_SIZE.false 4 8 (omega arith) in
    let matched : c.starts_with.result ≡ same_bytes (take 8 c.args.log.now) wal_magic =
    c.starts_with.ensures.value ∙ starts-same c.args.log.now wal_magic in
    let accepted : is_wal_version (field 4 8 c.args.log.now) ≡ true =
    rw (le-leb _ _ (rw (version) at c.if-version-lt-WAL_FORMAT_VERSION_MIN_SUPPORTED.false), le-leb _ _ (rw (version) at c.if-version-gt-WAL_FORMAT_VERSION.false)) in
    let l = c.args.log.now in
    let whole = inside l c.if-log-lt-WAL_HEADER_SIZE.false in
    rw (
      c.read_u32.ensures ∙ whole 4 16 (omega arith),
      c.read_u32-2.ensures ∙ whole 4 20 (omega arith),
      c.read_u64.ensures ∙ whole 8 24 (omega arith),
      version,
    )
    (read Err _ (wal_header_tests l) (le-leb _ _ c.if-log-lt-WAL_HEADER_SIZE.false) (sym (matched) ∙ c.if-not-starts_with.false)
    (accepted)
    (eq-eqb _ _ (rw (c.read_u32-page_size.ensures ∙ whole 4 12 (omega arith)) at c.if-page_size-ne-PAGE_SIZE.false)))
