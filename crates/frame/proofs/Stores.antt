-- What the stores of a frame leave in the log. Assumes nothing.
use mathlib.Core.Path.{◌≡◌, sym, ap, ◌∙◌}
use mathlib.Core.Bool.{true, false}
use mathlib.Core.List.{List, ◌++◌, append_assoc}
use Prim.Native.Nat.{ℕ, ◌+◌, ◌^◌, ◌≤◌, ◌<◌}
use native.Mathlib.Omega.{arith}
use borrow.Author.Tests.{leb-true, leb-false, eq-eqb, ne_eqb}
use lib.Dec.{leb}
use lib.ListN.{length, take, drop, replicate, length-append, length-replicate}
use Rattle.std.specs.Prelude.{Err, Ok, Result}
use Rattle.refusal.specs.declared.Refusal.{Refusal}
use Rattle.refusal.specs.declared.Refusal.TheVariants as refusal
use Rattle.le.specs.Le.{le_bytes, put, store}
use Rattle.le.specs.Answers.{stored_of}
use Rattle.le.proofs.Fields.{length-le_bytes}
use Rattle.le.proofs.Stores.{length-put, put-over, put-there, part-put, drop-put, length-store, store-put, store-none, store-next}
use Rattle.page.specs.Page.{front_page}
use Rattle.checksum.specs.Checksum.{sum_from}
use Rattle.checksum.proofs.Sums.{sum_from-append, sum_from-fits}
use Rattle.checksum.proofs.Zeros.{sum_zeros}
use Rattle.frame.specs.Frame.{heading, frame_sum, encode_frame, frame_at, body_of, checksum_of, heading_after, frame_stored, frame_after}
use Rattle.frame.proofs.Places.{body-there, checksum-parts, checksum-there}

pub length-heading : (page count salt : ℕ) → length (heading page count salt) ≡ 12
unfolding heading
length-heading page count salt = simp (length-append, length-le_bytes)

pub length-encode_frame : (page count salt : ℕ) (body : List ℕ) → length body ≡ 4096 → length (encode_frame page count salt body) ≡ 4112
unfolding encode_frame
length-encode_frame page count salt body h = simp (length-append, length-le_bytes, length-heading, h)

module _ (l : List ℕ) (at page count salt : ℕ) where
  pub heading-written : {l₁ l₂ l₃ : List ℕ} → at + 12 ≤ length l → l₁ ≡ store l at (le_bytes 4 page) → l₂ ≡ store l₁ (at + 4) (le_bytes 4 count)
      → l₃ ≡ store l₂ (at + 8) (le_bytes 4 salt) → l₃ ≡ put l at (heading page count salt)
  unfolding heading
  heading-written h e₁ e₂ e₃ =
      let f : at + length (le_bytes 4 page) ≤ length l = rw (length-le_bytes 4 page) (omega arith) in
      let p₁ = e₁ ∙ store-put l at (le_bytes 4 page) f in
      let p₂ = store-next 4 4 l at (le_bytes 4 page) (le_bytes 4 count) (length-le_bytes 4 page) (length-le_bytes 4 count) (omega arith) p₁ e₂ in
      store-next 8 4 l at (le_bytes 4 page ++ le_bytes 4 count) (le_bytes 4 salt) (simp (length-append, length-le_bytes)) (length-le_bytes 4 salt) (omega arith) p₂ e₃
      ∙ rw append_assoc

  -- the body that lies there is left by a heading in front of it
  body_kept : at + 4112 ≤ length l → body_of (frame_at at (put l at (heading page count salt))) ≡ body_of (frame_at at l)
  body_kept h =
      let n : at + length (heading page count salt) ≤ at + 16 = rw (length-heading page count salt) (omega arith) in
      rw (body-there at (put l at (heading page count salt)), body-there at l, drop-put (at + 16) l at (heading page count salt) n (omega arith))

  -- the sum of the frame that the heading begins
  sum-there : {l₁ : List ℕ} {s : ℕ} → at + 4112 ≤ length l → l₁ ≡ put l at (heading page count salt) → s ≡ checksum_of (frame_at at l₁)
      → s ≡ frame_sum page count salt (body_of (frame_at at l))
  unfolding frame_sum
  sum-there {l₁} {s} h e f =
      let t : take 12 (drop at (put l at (heading page count salt))) ≡ heading page count salt =
      part-put 12 l at (heading page count salt) (length-heading page count salt) (omega arith) in
      f ∙ rw (e, checksum-parts at (put l at (heading page count salt)), t, body_kept h)

  -- heading and sum stored in front of a page make it a frame
  pub frame-headed : {l₁ l₂ : List ℕ} {s : ℕ} → at + 4112 ≤ length l → l₁ ≡ put l at (heading page count salt) → s ≡ checksum_of (frame_at at l₁)
      → l₂ ≡ store l₁ (at + 12) (le_bytes 4 s) → l₂ ≡ put l at (encode_frame page count salt (body_of (frame_at at l)))
  unfolding encode_frame
  frame-headed {l₁} {l₂} {s} h e f g =
      let n : length (heading page count salt ++ le_bytes 4 s) ≡ 16 = simp (length-append, length-heading, length-le_bytes) in
      let p = store-next 12 4 l at (heading page count salt) (le_bytes 4 s) (length-heading page count salt) (length-le_bytes 4 s) (omega arith) e g in
      let m : at + length (heading page count salt ++ le_bytes 4 s) + 4096 ≤ length l = rw n (omega arith) in
      let t : put l at (heading page count salt ++ le_bytes 4 s ++ take 4096 (drop (at + 16) l)) ≡ put l at (heading page count salt ++ le_bytes 4 s) =
      rw n at (put-there 4096 l at (heading page count salt ++ le_bytes 4 s) m) in
      p ∙ rw (← sum-there h e f, body-there at l, ← append_assoc) (sym t)

  -- a page stored behind the heading's place, and then made a frame
  pub frame-written : (body : List ℕ) {l₁ l₂ : List ℕ} → length body ≡ 4096 → at + 4112 ≤ length l → l₁ ≡ store l (at + 16) body
      → l₂ ≡ put l₁ at (encode_frame page count salt (body_of (frame_at at l₁))) → l₂ ≡ put l at (encode_frame page count salt body)
  frame-written body {l₁} {l₂} n h e f =
      let k : at + 16 + length body ≤ length l = rw n (omega arith) in
      let p : l₁ ≡ put l (at + 16) body = e ∙ store-put l (at + 16) body k in
      let b : body_of (frame_at at l₁) ≡ body = rw (body-there at l₁, p) (part-put 4096 l (at + 16) body n (omega arith)) in
      let w : length (encode_frame page count salt body) ≡ 4112 = length-encode_frame page count salt body n in
      let c : at + 16 + length body ≤ at + length (encode_frame page count salt body) = rw (n, w) (omega arith) in
      f ∙ rw (b, p) (put-over l (at + 16) at body (encode_frame page count salt body) (omega arith) c (omega arith))

  -- what storing a frame answers and leaves, where its body is a page and it fits
  pub frame-stored : (body : List ℕ) {l₁ l₂ : List ℕ} {r : (Result (Unit {0}) Refusal)} → length body ≡ 4096 → leb (at + 4112) (length l) ≡ true
      → l₁ ≡ store l (at + 16) body → r ≡ stored_of l₁ at 4112 → l₂ ≡ heading_after l₁ at page count salt
      → (r ≡ frame_stored l at body) × (l₂ ≡ frame_after l at page count salt body)
  unfolding heading_after frame_after
  frame-stored body {l₁} {l₂} n t e a f =
      let h : at + 4112 ≤ length l = leb-true _ _ t in
      let m : length l₁ ≡ length l = ap length e ∙ length-store l (at + 16) body in
      let k : at + length (encode_frame page count salt body) ≤ length l = rw (length-encode_frame page count salt body n) h in
      let g : l₂ ≡ put l₁ at (encode_frame page count salt (body_of (frame_at at l₁))) = f ∙ rw (m, t) in (
        a ∙ rw (m, t, eq-eqb (length body) 4096 n),
        rw (eq-eqb (length body) 4096 n, store-put l at (encode_frame page count salt body) k) (frame-written body n h e g),
      )

  -- .. and where it does not fit
  pub frame_refused : (body : List ℕ) → length body ≡ 4096 → leb (at + 4112) (length l) ≡ false
      → (Err refusal.Area ≡ frame_stored l at body) × (l ≡ frame_after l at page count salt body)
  unfolding frame_after
  frame_refused body n t =
      let k : length l < at + length (encode_frame page count salt body) = rw (length-encode_frame page count salt body n) (leb-false _ _ t) in (
        rw (eq-eqb (length body) 4096 n, t),
        rw (eq-eqb (length body) 4096 n) (sym (store-none l at (encode_frame page count salt body) k)),
      )

pub length-padded : (front : List ℕ) → length front ≡ 32 → length (front_page front) ≡ 4096
length-padded front n = simp (length-append, length-replicate {A = ℕ} 4064 0, n)

-- where the front has another length there is no page
pub padded-other : (front : List ℕ) → (length front ≡ 32 → ⊥) → length (front_page front) ≡ 4096 → ⊥
padded-other front n e =
    let w : length (front_page front) ≡ length front + 4064 = simp (length-append, length-replicate {A = ℕ} 4064 0) in
    n (omega (arith, w, e))

pub padded-refused : (l : List ℕ) (at page count salt : ℕ) (front : List ℕ) → (length front ≡ 32 → ⊥)
    → (Err refusal.Area ≡ frame_stored l at (front_page front)) × (l ≡ frame_after l at page count salt (front_page front))
unfolding frame_after
padded-refused l at page count salt front n =
    let t = ne_eqb (length (front_page front)) 4096 (padded-other front n) in
    (rw t, rw t)

-- the zeros of a padded page leave the sum over its front
padded-sum : (s : ℕ) (front : List ℕ) → s < 2 ^ 32 → sum_from s (front_page front) ≡ sum_from s front
padded-sum s front h = sum_from-append s front (replicate 4064 0) ∙ sum_zeros 127 (sum_from s front) (sum_from-fits s front h)

-- a padded page stored behind the heading's place in two stores, and made a frame by a heading with the sum over its front
module _ (l : List ℕ) (at page count salt : ℕ) (front : List ℕ) (n : length front ≡ 32) (t : leb (at + 4112) (length l) ≡ true) where
  page-stored : {l₁ l₂ : List ℕ} → l₁ ≡ store l (at + 16) front → l₂ ≡ store l₁ (at + 16 + 32) (replicate 4064 0) → l₂ ≡ put l (at + 16) (front_page front)
  page-stored e f =
      let h : at + 4112 ≤ length l = leb-true _ _ t in
      let k : at + 16 + length front ≤ length l = rw n (omega arith) in
      store-next 32 4064 l (at + 16) front (replicate 4064 0) n (length-replicate {A = ℕ} 4064 0) (omega arith) (e ∙ store-put l (at + 16) front k) f

  padded-headed : {l₂ l₃ l₄ : List ℕ} {s r : ℕ} → l₂ ≡ put l (at + 16) (front_page front) → l₃ ≡ put l₂ at (heading page count salt)
      → s ≡ sum_from 0 (take 12 (drop at l₃)) → r ≡ sum_from s front → l₄ ≡ store l₃ (at + 12) (le_bytes 4 r)
      → l₄ ≡ heading_after l₂ at page count salt
  unfolding heading_after
  padded-headed {l₂} {l₃} {l₄} {s} {r} e f g i j =
      let h : at + 4112 ≤ length l = leb-true _ _ t in
      let w : length (front_page front) ≡ 4096 = length-padded front n in
      let k : at + 16 + length (front_page front) ≤ length l = rw w (omega arith) in
      let m : length l₂ ≡ length l = ap length e ∙ length-put l (at + 16) (front_page front) k in
      let b : body_of (frame_at at l₂) ≡ front_page front = rw (body-there at l₂, e) (part-put 4096 l (at + 16) (front_page front) w (omega arith)) in
      let fits : s < 4294967296 = rw g (sum_from-fits 0 (take 12 (drop at l₃)) (omega arith)) in
      let d : body_of (frame_at at l₃) ≡ front_page front = rw f (body_kept l₂ at page count salt (rw m h)) ∙ b in
      let c : r ≡ checksum_of (frame_at at l₃) = checksum-there at l₃ g (i ∙ rw d (sym (padded-sum s front fits))) in
      rw (m, t) (frame-headed l₂ at page count salt (rw m h) f c j)

  pub padded-stored : {l₁ l₂ l₃ l₄ : List ℕ} {s r : ℕ} → l₁ ≡ store l (at + 16) front → l₂ ≡ store l₁ (at + 16 + 32) (replicate 4064 0)
      → l₃ ≡ put l₂ at (heading page count salt) → s ≡ sum_from 0 (take 12 (drop at l₃)) → r ≡ sum_from s front
      → l₄ ≡ store l₃ (at + 12) (le_bytes 4 r)
      → (Ok tt ≡ frame_stored l at (front_page front)) × (l₄ ≡ frame_after l at page count salt (front_page front))
  padded-stored {l₁} {l₂} e f g i j k =
      let h : at + 4112 ≤ length l = leb-true _ _ t in
      let w : length (front_page front) ≡ 4096 = length-padded front n in
      let v : at + 16 + length (front_page front) ≤ length l = rw w (omega arith) in
      let p = page-stored e f in
      let m : length l₂ ≡ length l = ap length p ∙ length-put l (at + 16) (front_page front) v in
      frame-stored l at page count salt (front_page front) w t (p ∙ sym (store-put l (at + 16) (front_page front) v)) (rw (m, t)) (padded-headed p g i j k)
