-- The stores of `encode_wal_header`, one behind the other, leave the header. Assumes nothing.
use Rattle.std.proofs.Common.{◌≡◌, ℕ, ◌≤◌, List, [], ◌++◌, length, sym, refl, ◌∙◌, append_assoc, arith, length-append}
use Rattle.le.specs.Le.{le_bytes, put, store}
use Rattle.le.proofs.Fields.{length-le_bytes}
use Rattle.le.proofs.Stores.{put-none, store-next}
use Rattle.wal.specs.Header.{wal_magic, encode_wal_header}
use Rattle.wal.specs.declared.WalHeader.{WalHeader}

pub length-wal_magic : length wal_magic ≡ 8
unfolding wal_magic
length-wal_magic = refl

pub length-encode_wal_header : (h : WalHeader) → length (encode_wal_header h) ≡ 32
unfolding encode_wal_header
length-encode_wal_header h = simp (length-append, length-wal_magic, length-le_bytes)

pub header-written : (h : WalHeader) (l : List ℕ) {l₁ l₂ l₃ l₄ l₅ l₆ : List ℕ} → 32 ≤ length l → l₁ ≡ store l 0 wal_magic
    → l₂ ≡ store l₁ 8 (le_bytes 4 3) → l₃ ≡ store l₂ 12 (le_bytes 4 4096) → l₄ ≡ store l₃ 16 (le_bytes 4 h.salt)
    → l₅ ≡ store l₄ 20 (le_bytes 4 h.checkpoint_seq) → l₆ ≡ store l₅ 24 (le_bytes 8 h.clock_high_water)
    → l₆ ≡ put l 0 (encode_wal_header h)
unfolding encode_wal_header
header-written h l n e₁ e₂ e₃ e₄ e₅ e₆ =
    let v : List ℕ = le_bytes 4 3 in
    let z : List ℕ = le_bytes 4 4096 in
    let s : List ℕ = le_bytes 4 h.salt in
    let q : List ℕ = le_bytes 4 h.checkpoint_seq in
    let k : List ℕ = le_bytes 8 h.clock_high_water in
    let p₁ = store-next 0 8 l 0 [] wal_magic refl length-wal_magic (omega arith) (sym (put-none l 0)) e₁ in
    let p₂ = store-next 8 4 l 0 wal_magic v length-wal_magic (length-le_bytes 4 3) (omega arith) p₁ e₂ in
    let p₃ = store-next 12 4 l 0 (wal_magic ++ v) z (simp (length-append, length-wal_magic, length-le_bytes)) (length-le_bytes 4 4096) (omega arith) p₂ e₃ in
    let p₄ =
    store-next 16 4 l 0 (wal_magic ++ v ++ z) s (simp (length-append, length-wal_magic, length-le_bytes)) (length-le_bytes 4 h.salt) (omega arith) p₃ e₄ in
    let p₅ =
    store-next 20 4 l 0 (wal_magic ++ v ++ z ++ s) q (simp (length-append, length-wal_magic, length-le_bytes)) (length-le_bytes 4 h.checkpoint_seq)
    (omega arith) p₄ e₅ in
    let p₆ =
    store-next 24 8 l 0 (wal_magic ++ v ++ z ++ s ++ q) k (simp (length-append, length-wal_magic, length-le_bytes)) (length-le_bytes 8 h.clock_high_water)
    (omega arith) p₅ e₆ in
    p₆ ∙ simp append_assoc
