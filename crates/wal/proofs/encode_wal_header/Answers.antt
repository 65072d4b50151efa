use Rattle.std.proofs.Common.{◌+◌, ◌<◌, ◌≤◌, length, sym, ◌∙◌, le-leb}
use borrow.Author.Tests.{lt-leb}
use Rattle.le.proofs.Stores.{store-put, store-none}
use Rattle.wal.specs.Header.{wal_magic, encode_wal_header}
use Rattle.wal.proofs.Encoding.{length-encode_wal_header, header-written}
use Rattle.wal.proofs.encode_wal_header.Goals as goal

pub returns-then-log-lt-WAL_HEADER_SIZE : goal.returns-then-log-lt-WAL_HEADER_SIZE
returns-then-log-lt-WAL_HEADER_SIZE c =
    let a = c.args in
    let k : length a.log.now < 0 + length (encode_wal_header a.h) = rw (length-encode_wal_header a.h) c.if-log-lt-WAL_HEADER_SIZE.true in
    (rw (lt-leb _ _ c.if-log-lt-WAL_HEADER_SIZE.true), sym (store-none a.log.now 0 (encode_wal_header a.h) k))

pub returns : goal.returns
unfolding wal_magic
returns c =
    let a = c.args in
    let k : 0 + length (encode_wal_header a.h) ≤ length a.log.now = rw (length-encode_wal_header a.h) c.if-log-lt-WAL_HEADER_SIZE.false in
    let e = header-written a.h a.log.now c.if-log-lt-WAL_HEADER_SIZE.false c.write_bytes.ensures.1 c.write_u32.ensures.1 c.write_u32-2.ensures.1
    c.write_u32-3.ensures.1 c.write_u32-4.ensures.1 c.write_u64.ensures.1 in
    (rw (le-leb _ _ c.if-log-lt-WAL_HEADER_SIZE.false), e ∙ sym (store-put a.log.now 0 (encode_wal_header a.h) k))
