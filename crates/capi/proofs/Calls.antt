-- What a call of the store gives, from what the pager's call of the same name gives: nothing is lost on the way in or out.
use mathlib.Core.Path.{◌≡◌, refl, ap, ◌∙◌}
use mathlib.Core.Bool.{Bool}
use mathlib.Core.List.{List}
use Prim.Native.Nat.{ℕ}
use Rattle.std.specs.Prelude.{Option, None, Some, Err, Ok}
use Rattle.refusal.specs.Refusal.{number_of, answered}
use Rattle.refusal.specs.declared.Refusal.{Refusal}
use Rattle.pager_state.specs.World.{World, world}
use Rattle.pager_state.specs.Opening.{open_pager, opened_answer, open_table, open_log_area}
use Rattle.pager_state.specs.Stores.{Disk}
use Rattle.pager_open.specs.Given.{how}
use Rattle.pager_state.specs.declared.AccessMode.{AccessMode}
use Rattle.pager_state.specs.declared.Pager.{Pager}
use Rattle.pager_state.specs.declared.Outcome.{Outcome}
use Rattle.capi_numbers.specs.Numbers.{pager_in, store_of}
use Rattle.capi_numbers.specs.declared.Store.{Store}
use Rattle.capi_numbers.proofs.Back.{store-back}
use Rattle.capi_answers.specs.Answers.{refusal_number, done_as}
use Rattle.capi_answers.specs.declared.Answered.{Answered}

-- ---- a call's contract, from those of its parts

-- p is the store taken in, k what the pager's call gave, r that in numbers
pub by : {R A : Type 0} {r : R} {k : A} {p q : Pager} (tell : A → R) (call : Pager → A) → p ≡ q → k ≡ call p → r ≡ tell k → r ≡ tell (call q)
by tell call e h t = t ∙ ap tell (h ∙ ap call e)

-- the same with an area's later bytes
pub by-with : {R A : Type 0} {r : R} {k : A} {p q : Pager} {after : List ℕ} (tell : A → R) (call : Pager → A) (bytes : Pager → List ℕ)
    → p ≡ q → (k ≡ call p) × (after ≡ bytes p) → r ≡ tell k → (r ≡ tell (call q)) × (after ≡ bytes q)
by-with tell call bytes e h t = (by tell call e h.0 t, h.1 ∙ ap bytes e)

-- the same where the store and all areas change: the next call takes the store as this one left it
pub by-world : {R A : Type 0} {r : R} {a : A} {k p q : Pager} {t l m t' l' m' : List ℕ} (tell : A → Pager → R) (store : R → Store) (answer : World → A) (after : World → World)
    → store (tell a k) ≡ store_of k → p ≡ q → (a ≡ answer (world p t l m)) × (world k t' l' m' ≡ after (world p t l m)) → r ≡ tell a k
    → (r ≡ tell (answer (world q t l m)) (after (world q t l m)).pager) × (world (pager_in (store r)) t' l' m' ≡ after (world q t l m))
by-world {k = k} {q = q} {t = t} {l = l} {m = m} {t' = t'} {l' = l'} {m' = m'} tell store answer after kept e h told =
    let v = world q t l m in
    let w = h.1 ∙ ap (λ p. after (world p t l m)) e in
    (told ∙ ap (λ x. tell x k) (h.0 ∙ ap (λ p. answer (world p t l m)) e) ∙ ap (λ (x : World). tell (answer v) x.pager) w, ap (λ s. world (pager_in s) t' l' m') (ap store told ∙ kept) ∙ ap (λ p. world p t' l' m') (store-back k) ∙ w)

-- ---- openings

-- m is the access mode taken in, b whether there is a log
pub by-opening : {b b' : Bool} {m m' : AccessMode} {t' l' : List ℕ} {k : (Outcome (Unit {0}))} {r : Answered} (clean : Bool) (salt : ℕ) (t : List ℕ) (d : Disk) (s : List ℕ)
    → m ≡ m' → b ≡ b'
    → let h = how clean m b salt in
    let g = how clean m' b' salt in
    (k ≡ opened_answer (open_pager h t d s)) × ((t' ≡ open_table h t d s) × (l' ≡ open_log_area h t d s))
    → r ≡ done_as k.answer k.pager
    → (let a = opened_answer (open_pager g t d s) in r ≡ done_as a.answer a.pager) × ((t' ≡ open_table g t d s) × (l' ≡ open_log_area g t d s))
by-opening {b = b} {b' = b'} {m' = m'} clean salt t d s em eb h r =
    let e = ap (λ m. how clean m b salt) em ∙ ap (λ b. how clean m' b salt) eb in
    (r ∙ ap (λ (x : Outcome (Unit {0})). done_as x.answer x.pager) (h.0 ∙ ap (λ x. opened_answer (open_pager x t d s)) e), (h.1.0 ∙ ap (λ x. open_table x t d s) e, h.1.1 ∙ ap (λ x. open_log_area x t d s) e))

-- ---- staging: the answer's number is its judgement's

pub number-told : (v : Option Refusal) → refusal_number (answered Err (Ok tt) v) ≡ number_of v
number-told None = refl
number-told (Some r) = refl
