-- The log's header: document 01's line on `wal.rs`, "Header, 32 bytes".
use Rattle.std.specs.Prelude.{Err, Ok, Result, ℕ, Bool, List, [], ◌∷◌, ◌++◌, length, take, ◌==◌, nat_le}
use Rattle.le.specs.Choice.{both}
use Rattle.le.specs.Le.{le_bytes, field, same_bytes}
use Rattle.page.specs.Page.{page_size}
use Rattle.refusal.specs.Refusal.{answered}
use Rattle.refusal.specs.Headers.{Tests, header_refusal}
use Rattle.refusal.specs.declared.Refusal.{Refusal}
use Rattle.wal.specs.declared.WalHeader.{WalHeader}

-- "Header, 32 bytes"
abbrev pub header_size : ℕ
header_size = 32

-- "`SQLRWAL` and a zero"
unfoldable pub wal_magic : List ℕ
wal_magic = 83 ∷ 81 ∷ 76 ∷ 82 ∷ 87 ∷ 65 ∷ 76 ∷ 0 ∷ []

-- "version (4) .. written 3"
abbrev pub wal_version : ℕ
wal_version = 3

-- ---- writing

-- "`SQLRWAL` and a zero; version (4) 1 to 3, written 3; page size (4); salt (4); checkpoint sequence (4, wraps); clock (8)"
unfoldable pub encode_wal_header : WalHeader → List ℕ
encode_wal_header h =
    wal_magic
    ++ (le_bytes 4 wal_version
    ++ (le_bytes 4 page_size ++ (le_bytes 4 h.salt ++ (le_bytes 4 h.checkpoint_seq ++ le_bytes 8 h.clock_high_water))))

-- ---- reading

-- the fields as they lie there, the clock's bytes in every version
unfoldable pub wal_header_in : List ℕ → WalHeader
wal_header_in l =
    record { version = field 4 8 l; salt = field 4 16 l; checkpoint_seq = field 4 20 l; clock_high_water = field 8 24 l }

-- "version (4) 1 to 3"
abbrev pub is_wal_version : ℕ → Bool
is_wal_version v = both (nat_le 1 v) (nat_le v 3)

-- "log under 32", "wrong leading bytes", "not .. 1..3 (log)", "not 4,096"
abbrev pub wal_header_tests : List ℕ → Tests
wal_header_tests l =
    record {
      long = nat_le header_size (length l);
      leading = same_bytes (take 8 l) wal_magic;
      version = is_wal_version (field 4 8 l);
      paged = (field 4 12 l == page_size);
    }

unfoldable pub decode_wal_header : List ℕ → Result WalHeader Refusal
decode_wal_header l = answered Err (Ok (wal_header_in l)) (header_refusal (wal_header_tests l))
