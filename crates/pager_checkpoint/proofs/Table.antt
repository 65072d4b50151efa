-- The table that a checkpoint leaves, entry by entry, and whether it names a page of the log. Assumes nothing.
use mathlib.Core.Path.{◌≡◌, refl, sym, ap, ◌∙◌}
use mathlib.Core.Bool.{Bool, true, false, not}
use mathlib.Core.List.{List, [], ◌∷◌, ◌++◌}
use mathlib.Core.Logic.{⊎_elim, ◌≢◌}
use Prim.Native.Nat.{ℕ, zero, suc, ◌+◌, ◌≤◌, ◌<◌, min}
use native.Mathlib.Nat.{add-zero}
use native.Mathlib.Numerals.{add-one, unary_clauses}
use native.Mathlib.Omega.{arith}
use borrow.Author.Tests.{le-leb, lt-leb, ne_eqb}
use lib.Dec.{eqb}
use lib.ListN.{length, get_or, take, drop, set, replicate, drop_of_length-le, take-append-drop}
use lib.Seq.{drop-cons, length-take-le}
use Rattle.std.proofs.Common.{Option, None, Some}
use Rattle.std.specs.Option.{is_some}
use Rattle.std.proofs.lemmas.List.{ext_get_or, length-set, get_or-set_same, get_or-set_other}
use Rattle.le.specs.Choice.{pick}
use Rattle.le.proofs.Tests.{le-or-lt}
use Rattle.pager_state.specs.Checkpoint.{checkpointed_entry, checkpointed_from}
use Rattle.pager_state.specs.Steps.{no_log_pages}
use Rattle.pager_checkpoint.proofs.Blocks.{FirstInLog}

-- ---- the table after a checkpoint

length-checkpointed : (count p : ℕ) (t : List ℕ) → length (checkpointed_from count p t) ≡ length t
unfolding checkpointed_from
length-checkpointed count p [] = refl
length-checkpointed count p (a ∷ t) = ap suc (length-checkpointed count (suc p) t)

get_or-checkpointed : (count p : ℕ) (t : List ℕ) (i : ℕ) → i < length t → get_or (checkpointed_from count p t) i 0 ≡ checkpointed_entry count (p + i) (get_or t i 0)
unfolding checkpointed_from
get_or-checkpointed count p [] i h = absurd (omega arith)
get_or-checkpointed count p (a ∷ t) zero h = simp unary_clauses
get_or-checkpointed count p (a ∷ t) (suc i) h =
    get_or-checkpointed count (suc p) t i (omega arith) ∙ ap (λ (n : ℕ). checkpointed_entry count n (get_or t i 0)) {x = suc p + i} {y = p + suc i} (omega arith)

-- a table by its entries
by-entries : (n : ℕ) (t : List ℕ) {u : List ℕ} → length u ≡ length t → ((k : ℕ) → k < length t → get_or u k 0 ≡ checkpointed_entry n k (get_or t k 0))
    → u ≡ checkpointed_from n 0 t
by-entries n t {u} e a =
    let l = length-checkpointed n 0 t in
    ext_get_or 0 u (checkpointed_from n 0 t) (e ∙ sym l)
    (λ k h. a k (omega (arith, h, e)) ∙ sym (get_or-checkpointed n 0 t k (omega (arith, h, e)) ∙ ap (λ (i : ℕ). checkpointed_entry n i (get_or t k 0)) {x = 0 + k} {y = k} (omega arith)))

-- an entry of a page below the count
entry-min : (n k x : ℕ) → 0 < k → k < n → min x 1 ≡ checkpointed_entry n k x
entry-min n k zero h m = let z : k ≡ 0 → ⊥ = λ q. omega (arith, q) in rw (ne_eqb k 0 z, lt-leb n k m)
entry-min n k (suc x) h m =
    let z : k ≡ 0 → ⊥ = λ q. omega (arith, q) in
    let s : suc x ≡ 0 → ⊥ = λ q. omega (arith, q) in
    let o : min (suc x) 1 ≡ 1 = omega arith in
    rw (ne_eqb k 0 z, lt-leb n k m, o, ne_eqb (suc x) 0 s)

pub no-entries : (t v : List ℕ) → length v ≡ length t → length v ≤ 0 → v ≡ checkpointed_from (length t) 0 t
no-entries t v e h = by-entries (length t) t e (λ k m. absurd (omega (arith, e, h, m)))

-- a whole table whose entries are at most 1, as the old ones are, and the first of them 0
pub marked : (t v : List ℕ) → length v ≡ length t → ((k : ℕ) → k < length t → get_or v k 0 ≡ min (get_or t k 0) 1) → 0 < length v
    → set v 0 0 ≡ checkpointed_from (length t) 0 t
marked t v e a h = by-entries (length t) t (length-set v 0 0 ∙ e) (λ k m. entry k m)
  where
    entry : (k : ℕ) → k < length t → get_or (set v 0 0) k 0 ≡ checkpointed_entry (length t) k (get_or t k 0)
    entry zero m = get_or-set_same v 0 0 0 h
    entry (suc k) m =
        let z : suc k ≢ 0 = λ q. omega (arith, q) in
        rw get_or-set_other (a (suc k) m ∙ entry-min (length t) (suc k) (get_or t (suc k) 0) (omega arith) m)

-- the others

pick_same : (b : Bool) → pick {A = ℕ} b 0 0 ≡ 0
pick_same true = refl
pick_same false = refl

zeros-above : (end p : ℕ) (t : List ℕ) → end ≤ p → checkpointed_from end p t ≡ replicate (length t) 0
unfolding checkpointed_from
zeros-above end p [] h = refl
zeros-above end p (a ∷ t) h = rw (le-leb end p h, pick_same (eqb p 0), zeros-above end (suc p) t (omega arith))

take-checkpointed : (end k p : ℕ) (t : List ℕ) → take k (checkpointed_from end p t) ≡ checkpointed_from end p (take k t)
unfolding checkpointed_from
take-checkpointed end zero p t = refl
take-checkpointed end (suc k) p [] = refl
take-checkpointed end (suc k) p (a ∷ t) = ap (λ (l : List ℕ). checkpointed_entry end p a ∷ l) (take-checkpointed end k (suc p) t)

drop-checkpointed : (end k p : ℕ) (t : List ℕ) → drop k (checkpointed_from end p t) ≡ checkpointed_from end (p + k) (drop k t)
unfolding checkpointed_from
drop-checkpointed end zero p t = rw add-zero
drop-checkpointed end (suc k) p [] = refl
drop-checkpointed end (suc k) p (a ∷ t) = drop-checkpointed end k (suc p) t ∙ ap (λ (n : ℕ). checkpointed_from end n (drop k t)) {x = suc p + k} {y = p + suc k} (omega arith)

-- a count past the table's end checkpoints as the table's length
same-checkpointed : (a b p : ℕ) (t : List ℕ) → p + length t ≤ a → p + length t ≤ b → checkpointed_from a p t ≡ checkpointed_from b p t
unfolding checkpointed_from
same-checkpointed a b p [] h k = refl
same-checkpointed a b p (x ∷ t) h k =
    rw (lt-leb a p (omega arith), lt-leb b p (omega arith), same-checkpointed a b (suc p) t (omega arith) (omega arith))

checkpointed-below : (count : ℕ) (t : List ℕ) → checkpointed_from (min count (length t)) 0 t ≡ checkpointed_from count 0 t
checkpointed-below count t =
    ⊎_elim (λ h. let e : min count (length t) ≡ count = omega (arith, h) in rw e)
    (λ h. same-checkpointed (min count (length t)) count 0 t (omega (arith, h)) (omega (arith, h))) (le-or-lt count (length t))

-- the whole table: its entries below end, and zeros
pub table-checkpointed : (count : ℕ) (old : List ℕ) {end : ℕ} {m z : List ℕ} → end ≡ min count (length old)
    → m ≡ checkpointed_from (length (take end old)) 0 (take end old) → z ≡ replicate (length (drop end old)) 0 → m ++ z ≡ checkpointed_from count 0 old
table-checkpointed count old {end} {m} {z} c e f =
    let l = checkpointed_from end 0 old in
    let n : length (take end old) ≡ end = length-take-le end old (omega arith) in
    let a : m ≡ take end l = e ∙ rw n (sym (take-checkpointed end end 0 old)) in
    let b : z ≡ drop end l = f ∙ sym (drop-checkpointed end end 0 old ∙ zeros-above end (0 + end) (drop end old) (omega arith)) in
    ap (λ (x : List ℕ). x ++ z) a ∙ ap (λ (x : List ℕ). take end l ++ x) b ∙ take-append-drop end l ∙ rw c (checkpointed-below count old)

-- ---- whether a page is in the log

module _ (t : List ℕ) (i : ℕ) where
  pub no-log-step : i < length t → get_or t i 0 ≤ 1 → no_log_pages (drop i t) ≡ no_log_pages (drop (i + 1) t)
  unfolding no_log_pages
  no-log-step h k = rw (add-one, drop-cons t i 0 h, le-leb (get_or t i 0) 1 k)

  pub no-log-not : i < length t → 1 < get_or t i 0 → no_log_pages (drop i t) ≡ false
  unfolding no_log_pages
  no-log-not h k = rw (drop-cons t i 0 h, lt-leb (get_or t i 0) 1 k)

  pub no-log-end : length t ≤ i → no_log_pages (drop i t) ≡ true
  unfolding no_log_pages
  no-log-end h = rw (drop_of_length-le t h)

-- entries that were passed over
pub no-log-past : (t : List ℕ) (i : ℕ) → i ≤ length t → ((k : ℕ) → 0 ≤ k → k < i → get_or t k 0 ≤ 1) → no_log_pages t ≡ no_log_pages (drop i t)
no-log-past t zero h a = refl
no-log-past t (suc i) h a =
    let r = no-log-past t i (omega arith) (λ k l m. a k l (omega (arith, m))) in
    r ∙ rw add-one at (no-log-step t i (omega arith) (a i (omega arith) (omega arith)))

-- no page of the log, by the first one
pub no-log-by : (t : List ℕ) (r : Option ℕ) (b : Bool) → is_some r ≡ not b → FirstInLog t r → b ≡ no_log_pages t
no-log-by t None true e h = sym (no-log-past t (length t) (omega arith) (λ k l m. h k m) ∙ no-log-end t (length t) (omega arith))
no-log-by t (Some p) false e h = sym (no-log-past t p (omega (arith, h.0)) (λ k l m. h.2 k m) ∙ no-log-not t p h.0 h.1)
no-log-by t None false e h = cc
no-log-by t (Some p) true e h = cc
