-- The bytes that a page was last committed with. Assumes nothing.
use Rattle.std.proofs.Common.{◌≡◌, ℕ, ◌*◌, true, false, List, [], sym, ◌∙◌, eq-eqb, ne_eqb}
use Rattle.page.specs.Page.{page_size}
use Rattle.frame.specs.Frame.{frame_at, body_of}
use Rattle.frame.proofs.Places.{body-there}
use Rattle.pager_state.specs.Overlay.{page_from, frame_of, in_log, on_main, log_bytes, committed_in}

module _ (t l m : List ℕ) (n : ℕ) {at : ℕ} (f : at ≡ frame_of t n) where
  pub body-of-page : {bs : List ℕ} → (at ≡ 0 → ⊥) → bs ≡ body_of (frame_at at l) → bs ≡ committed_in t l m n
  unfolding committed_in in_log log_bytes
  body-of-page a e = e ∙ rw (f, ne_eqb (frame_of t n) 0 (λ z. a (f ∙ z))) (body-there (frame_of t n) l)

  pub main-of-page : {bs : List ℕ} → at ≡ 0 → on_main t n ≡ true → bs ≡ page_from (page_size * n) m → bs ≡ committed_in t l m n
  unfolding committed_in in_log
  main-of-page a o e = e ∙ rw (eq-eqb (frame_of t n) 0 (sym f ∙ a), o)

  pub no-page : at ≡ 0 → on_main t n ≡ false → [] ≡ committed_in t l m n
  unfolding committed_in in_log
  no-page a o = rw (eq-eqb (frame_of t n) 0 (sym f ∙ a), o)
