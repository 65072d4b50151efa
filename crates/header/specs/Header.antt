-- The main file's header: document 01's line on `header.rs`.
use Rattle.std.specs.Prelude.{Err, Ok, Result, List, [], ◌∷◌, ◌++◌, ℕ, Bool, leb, eqb, length, take}
use Rattle.le.specs.Choice.{pick, both}
use Rattle.le.specs.Le.{le_bytes, field, same_bytes}
use Rattle.page.specs.Page.{page_size, front_page}
use Rattle.refusal.specs.Refusal.{answered}
use Rattle.refusal.specs.Headers.{Tests, header_refusal}
use Rattle.refusal.specs.declared.Refusal.TheVariants as refusal
use Rattle.refusal.specs.declared.Refusal.{Refusal}
use Rattle.header.specs.declared.DbHeader.{DbHeader}

-- "`SQLRiteFormat` and three zeros"
unfoldable pub magic : List ℕ
magic = 83 ∷ 81 ∷ 76 ∷ 82 ∷ 105 ∷ 116 ∷ 101 ∷ 70 ∷ 111 ∷ 114 ∷ 109 ∷ 97 ∷ 116 ∷ 0 ∷ 0 ∷ 0 ∷ []

-- ---- encoding

-- "Bytes 0..16 [magic]; 16..18 version; 18..20 page size; 20..24 page count; 24..28 schema root; 28..32 freelist head"
unfoldable pub header_fields : DbHeader → List ℕ
header_fields h =
    magic
    ++ (le_bytes 2 h.format_version
    ++ (le_bytes 2 page_size
    ++ (le_bytes 4 h.page_count ++ (le_bytes 4 h.schema_root_page ++ le_bytes 4 h.freelist_head))))

-- "the rest is written zero"
unfoldable pub encode_header : DbHeader → List ℕ
encode_header h = front_page (header_fields h)

-- refusal 2 where the buffer is not 4,096 bytes long, which then stays as it was
abbrev pub encode_answer : List ℕ → Result (Unit {0}) Refusal
encode_answer l = pick (eqb (length l) page_size) (Ok tt) (Err refusal.Short)

abbrev pub encode_after : DbHeader → List ℕ → List ℕ
encode_after h l = pick (eqb (length l) page_size) (encode_header h) l

-- ---- decoding

-- the fields as they lie there
unfoldable pub header_in : List ℕ → DbHeader
header_in l =
    record {
      page_count = field 4 20 l;
      schema_root_page = field 4 24 l;
      format_version = field 2 16 l;
      freelist_head = field 4 28 l;
    }

-- "version 4, 5 or 6"
abbrev pub is_version : ℕ → Bool
is_version v = both (leb 4 v) (leb v 6)

-- "a header buffer not 4,096", "wrong leading bytes", "not 4..6", "not 4,096"
abbrev pub header_tests : List ℕ → Tests
header_tests l =
    record {
      long = eqb (length l) page_size;
      leading = same_bytes (take 16 l) magic;
      version = is_version (field 2 16 l);
      paged = eqb (field 2 18 l) page_size;
    }

unfoldable pub decode_header : List ℕ → Result DbHeader Refusal
decode_header l = answered Err (Ok (header_in l)) (header_refusal (header_tests l))
