-- The stores of encoding, one behind the other, leave the header's fields and its page. Assumes nothing.
use mathlib.Core.Path.{◌≡◌, refl, sym, ◌∙◌}
use mathlib.Core.List.{List, [], ◌++◌, append_assoc}
use Prim.Native.Nat.{ℕ}
use native.Mathlib.Omega.{arith}
use lib.ListN.{length, length-append, replicate, length-replicate}
use Rattle.le.specs.Le.{le_bytes, store}
use Rattle.le.proofs.Fields.{length-le_bytes}
use Rattle.le.proofs.Stores.{put-none, store-next, put_all}
use Rattle.header.specs.Header.{magic, header_fields, encode_header}
use Rattle.header.specs.declared.DbHeader.{DbHeader}

pub length-magic : length magic ≡ 16
unfolding magic
length-magic = refl

pub length-header_fields : (h : DbHeader) → length (header_fields h) ≡ 32
unfolding header_fields
length-header_fields h = simp (length-append, length-magic, length-le_bytes)

pub length-encode_header : (h : DbHeader) → length (encode_header h) ≡ 4096
unfolding encode_header
length-encode_header h = simp (length-append, length-header_fields, length-replicate {A = ℕ} 4064 0)

pub fields-written : (h : DbHeader) (l : List ℕ) {l₁ l₂ l₃ l₄ l₅ l₆ : List ℕ} → length l ≡ 32 → l₁ ≡ store l 0 magic
    → l₂ ≡ store l₁ 16 (le_bytes 2 h.format_version) → l₃ ≡ store l₂ 18 (le_bytes 2 4096) → l₄ ≡ store l₃ 20 (le_bytes 4 h.page_count)
    → l₅ ≡ store l₄ 24 (le_bytes 4 h.schema_root_page) → l₆ ≡ store l₅ 28 (le_bytes 4 h.freelist_head) → l₆ ≡ header_fields h
unfolding header_fields
fields-written h l n e₁ e₂ e₃ e₄ e₅ e₆ =
    let v : List ℕ = le_bytes 2 h.format_version in
    let z : List ℕ = le_bytes 2 4096 in
    let c : List ℕ = le_bytes 4 h.page_count in
    let r : List ℕ = le_bytes 4 h.schema_root_page in
    let f : List ℕ = le_bytes 4 h.freelist_head in
    let p₁ = store-next 0 16 l 0 [] magic refl length-magic (omega arith) (sym (put-none l 0)) e₁ in
    let p₂ = store-next 16 2 l 0 magic v length-magic (length-le_bytes 2 h.format_version) (omega arith) p₁ e₂ in
    let p₃ = store-next 18 2 l 0 (magic ++ v) z (simp (length-append, length-magic, length-le_bytes)) (length-le_bytes 2 4096) (omega arith) p₂ e₃ in
    let p₄ = store-next 20 4 l 0 (magic ++ v ++ z) c (simp (length-append, length-magic, length-le_bytes)) (length-le_bytes 4 h.page_count) (omega arith) p₃ e₄ in
    let p₅ = store-next 24 4 l 0 (magic ++ v ++ z ++ c) r (simp (length-append, length-magic, length-le_bytes)) (length-le_bytes 4 h.schema_root_page) (omega arith) p₄ e₅ in
    let p₆ = store-next 28 4 l 0 (magic ++ v ++ z ++ c ++ r) f (simp (length-append, length-magic, length-le_bytes)) (length-le_bytes 4 h.freelist_head) (omega arith) p₅ e₆ in
    p₆ ∙ simp append_assoc (put_all l (header_fields h) (length-header_fields h ∙ sym n))

-- the page is its fields and the zeros behind them
pub header-written : (h : DbHeader) (l : List ℕ) {x l₁ l₂ : List ℕ} → length l ≡ 4096 → x ≡ header_fields h → l₁ ≡ store l 0 x
    → l₂ ≡ store l₁ 32 (replicate 4064 0) → l₂ ≡ encode_header h
unfolding encode_header
header-written h l n e f g =
    let k : length (header_fields h) ≡ 32 = length-header_fields h in
    let p = store-next 0 32 l 0 [] (header_fields h) refl k (omega arith) (sym (put-none l 0)) (f ∙ rw e) in
    store-next 32 4064 l 0 (header_fields h) (replicate 4064 0) k (length-replicate {A = ℕ} 4064 0) (omega arith) p g
    ∙ put_all l (encode_header h) (length-encode_header h ∙ sym n)
