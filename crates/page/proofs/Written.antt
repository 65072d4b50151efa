-- The stores of `TablePage::empty`, one behind the other, leave the empty table page. Assumes nothing.
use mathlib.Core.Path.{◌≡◌, refl, sym, ap, ◌∙◌}
use mathlib.Core.List.{List, [], ◌∷◌, ◌++◌, append_assoc}
use Prim.Native.Nat.{ℕ, suc}
use native.Mathlib.Omega.{arith}
use lib.ListN.{length, set, length-append, replicate, length-replicate}
use Rattle.le.specs.Le.{le_bytes, put, store}
use Rattle.le.proofs.Fields.{length-le_bytes}
use Rattle.le.proofs.Stores.{set-put, store-next, put_all}
use Rattle.page.specs.Page.{empty_table_page}

pub length-empty_table_page : length empty_table_page ≡ 4096
unfolding empty_table_page
length-empty_table_page = simp (length-append, length-le_bytes, length-replicate {A = ℕ} 4085 0)

pub page-written : (l : List ℕ) {l₁ l₂ l₃ l₄ l₅ : List ℕ} → length l ≡ 4096 → l₁ ≡ store (set l 0 2) 1 (le_bytes 4 0)
    → l₂ ≡ store l₁ 5 (le_bytes 2 0) → l₃ ≡ store l₂ 7 (le_bytes 2 0) → l₄ ≡ store l₃ 9 (le_bytes 2 4089) → l₅ ≡ store l₄ 11 (replicate 4085 0)
    → l₅ ≡ empty_table_page
unfolding empty_table_page
page-written l h e₁ e₂ e₃ e₄ e₅ =
    let b : List ℕ = 2 ∷ le_bytes 4 0 in
    let n : length b ≡ 5 = ap suc (length-le_bytes 4 0) in
    let p₁ : set l 0 2 ≡ put l 0 (2 ∷ []) = set-put l 0 2 (omega arith) in
    let p₂ = store-next 1 4 l 0 (2 ∷ []) (le_bytes 4 0) refl (length-le_bytes 4 0) (omega arith) p₁ e₁ in
    let p₃ = store-next 5 2 l 0 b (le_bytes 2 0) n (length-le_bytes 2 0) (omega arith) p₂ e₂ in
    let p₄ = store-next 7 2 l 0 (b ++ le_bytes 2 0) (le_bytes 2 0) (simp (length-append, length-le_bytes)) (length-le_bytes 2 0) (omega arith) p₃ e₃ in
    let p₅ =
    store-next 9 2 l 0 (b ++ le_bytes 2 0 ++ le_bytes 2 0) (le_bytes 2 4089) (simp (length-append, length-le_bytes)) (length-le_bytes 2 4089) (omega arith)
    p₄ e₄ in
    let p₆ =
    store-next 11 4085 l 0 (b ++ le_bytes 2 0 ++ le_bytes 2 0 ++ le_bytes 2 4089) (replicate 4085 0) (simp (length-append, length-le_bytes))
    (length-replicate {A = ℕ} 4085 0) (omega arith) p₅ e₅ in
    p₆ ∙ simp append_assoc (put_all l empty_table_page (length-empty_table_page ∙ sym h))
