-- Lists of frames: the last frame of a page, where it stands, and the batches. Assumes nothing.
use mathlib.Core.Path.{◌≡◌, refl, sym, ap, ◌∙◌}
use mathlib.Core.Bool.{Bool, true, false}
use mathlib.Core.List.{List, [], ◌∷◌, ◌++◌, append_assoc, foldl, map, map-append}
use Prim.Native.Nat.{ℕ, suc, ◌+◌, ◌*◌}
use native.Mathlib.Nat.{add-zero}
use native.Mathlib.Omega.{arith}
use borrow.Author.Tests.{eq-eqb, ne_eqb, eqb-true}
use lib.Dec.{eqb}
use lib.ListN.{length, drop, length-drop}
use lib.Seq.{take_at, drop_at, drop-drop, drop-append-le}
use Rattle.std.specs.Prelude.{Option, None, Some}
use Rattle.le.specs.Choice.{pick, both}
use Rattle.page.specs.Page.{page_size}
use Rattle.frame.specs.Frame.{frame_size, body_of}
use Rattle.mvcc.specs.Seen.{commit_ts_of}
use Rattle.wal.specs.Header.{header_size}
use Rattle.wal.specs.Recovery.{chunk_at, page_of, batch_page, page_in, batches_in}
use Rattle.wal.proofs.Frames.{batches_in-append}
use Rattle.wal.proofs.Laid.{joined, Whole}
use Rattle.wal.proofs.Laid as laid
use Rattle.pager_state.specs.Overlay.{page_from}
use Rattle.pager_state.specs.Opening.{place_from}
use Rattle.history.specs.Model.{Batch, batch_in, or_else}

-- ---- options

pub or_else-none : {A : Type 0} (x : Option A) → or_else x None ≡ x
or_else-none None = refl
or_else-none (Some a) = refl

pub or_else-assoc : {A : Type 0} (x y z : Option A) → or_else (or_else x y) z ≡ or_else x (or_else y z)
or_else-assoc None y z = refl
or_else-assoc (Some a) y z = refl

-- ---- the last frame of a page

abbrev pub body_if : Bool → List ℕ → Option (List ℕ)
body_if t f = pick t (Some (body_of f)) None

-- its body
abbrev pub last_in : ℕ → List (List ℕ) → Option (List ℕ)
last_in n [] = None
last_in n (f ∷ fs) = or_else (last_in n fs) (body_if (eqb (page_of f) n) f)

pub last-append : (n : ℕ) (fs gs : List (List ℕ)) → last_in n (fs ++ gs) ≡ or_else (last_in n gs) (last_in n fs)
last-append n [] gs = sym (or_else-none (last_in n gs))
last-append n (f ∷ fs) gs =
    ap (λ (x : Option (List ℕ)). or_else x (body_if (eqb (page_of f) n) f)) (last-append n fs gs)
    ∙ or_else-assoc (last_in n gs) (last_in n fs) (body_if (eqb (page_of f) n) f)

pub last-same : (n : ℕ) (fs : List (List ℕ)) (f : List ℕ) → page_of f ≡ n → last_in n (fs ++ (f ∷ [])) ≡ Some (body_of f)
last-same n fs f e = last-append n fs (f ∷ []) ∙ rw (eq-eqb (page_of f) n e)

pub last-other : (n : ℕ) (fs : List (List ℕ)) (f : List ℕ) → (page_of f ≡ n → ⊥) → last_in n (fs ++ (f ∷ [])) ≡ last_in n fs
last-other n fs f e = last-append n fs (f ∷ []) ∙ rw (ne_eqb (page_of f) n e)

-- an option's value, or another
abbrev pub or_give : {A : Type 0} → Option A → A → A
or_give None y = y
or_give (Some a) y = a

give-step : (t : Bool) (x : Option (List ℕ)) (f acc : List ℕ) → or_give x (body_of (pick t f acc)) ≡ or_give (or_else x (body_if t f)) (body_of acc)
give-step true None f acc = refl
give-step false None f acc = refl
give-step true (Some a) f acc = refl
give-step false (Some a) f acc = refl

page-checkpoint : (p : ℕ) (fs : List (List ℕ)) (acc : List ℕ)
    → body_of (foldl (λ (found f : List ℕ). pick (eqb (page_of f) p) f found) acc fs) ≡ or_give (last_in p fs) (body_of acc)
page-checkpoint p [] acc = refl
page-checkpoint p (f ∷ fs) acc = page-checkpoint p fs (pick (eqb (page_of f) p) f acc) ∙ give-step (eqb (page_of f) p) (last_in p fs) f acc

-- the same as the log's own search
pub page-last : (p : ℕ) (fs : List (List ℕ)) (x : List ℕ) → last_in p fs ≡ Some x → body_of (page_in p fs) ≡ x
unfolding page_in
page-last p fs x e = page-checkpoint p fs [] ∙ rw e

pub body-long : (f : List ℕ) → length f ≡ frame_size → length (body_of f) ≡ page_size
unfolding body_of
body-long f h = length-drop 16 f ∙ omega arith

-- it has a page's length
pub last-long : (n : ℕ) {fs : List (List ℕ)} (x : List ℕ) → Whole fs → last_in n fs ≡ Some x → length x ≡ page_size
last-long n x laid.none e = let z : ◌≡◌ {A = ℕ} 0 1 = cc in absurd (omega arith)
last-long n x (laid.more {f} {fs} h w) e = go (last_in n fs) refl (eqb (page_of f) n) e (last-long n x w)
  where
    go : (o : Option (List ℕ)) → last_in n fs ≡ o → (t : Bool) → or_else o (body_if t f) ≡ Some x → (last_in n fs ≡ Some x → length x ≡ page_size) → length x ≡ page_size
    go (Some y) p t q later = later (p ∙ q)
    go None p true q later = let s : body_of f ≡ x = cc in ap length (sym s) ∙ body-long f h
    go None p false q later = let z : ◌≡◌ {A = ℕ} 0 1 = cc in absurd (omega arith)

-- ---- where it stands

place-pick : (Q L c : ℕ) (e q : Bool) → eqb Q 0 ≡ q
    → pick (both (eqb (pick q L Q) 0) e) c (pick q L Q) ≡ pick q (pick (both (eqb L 0) e) c L) Q
place-pick Q L c e true h = refl
place-pick Q L c e false h = rw h

pub place-append : (n i : ℕ) (fs gs : List (List ℕ))
    → place_from n i (fs ++ gs) ≡ pick (eqb (place_from n (i + length fs) gs) 0) (place_from n i fs) (place_from n (i + length fs) gs)
unfolding place_from
place-append n i [] gs = rw add-zero (empty (place_from n i gs) (eqb (place_from n i gs) 0) refl)
  where
    empty : (Q : ℕ) (q : Bool) → eqb Q 0 ≡ q → Q ≡ pick q 0 Q
    empty Q true h = eqb-true Q 0 h
    empty Q false h = refl
place-append n i (f ∷ fs) gs =
    let m : i + suc (length fs) ≡ suc i + length fs = omega arith in
    let Q : ℕ = place_from n (suc i + length fs) gs in
    let L : ℕ = place_from n (suc i) fs in
    rw (m, place-append n (suc i) fs gs) (place-pick Q L (chunk_at i) (eqb (page_of f) n) (eqb Q 0) refl)

pub place_same : (n : ℕ) (fs : List (List ℕ)) (f : List ℕ) → page_of f ≡ n → place_from n 0 (fs ++ (f ∷ [])) ≡ chunk_at (length fs)
unfolding place_from
place_same n fs f e =
    let z : 0 + length fs ≡ length fs = omega arith in
    let q : header_size + frame_size * length fs ≡ 0 → ⊥ = λ h. omega arith in
    place-append n 0 fs (f ∷ []) ∙ rw (z, eq-eqb (page_of f) n e, ne_eqb (header_size + frame_size * length fs) 0 q)

pub place_other : (n : ℕ) (fs : List (List ℕ)) (f : List ℕ) → (page_of f ≡ n → ⊥) → place_from n 0 (fs ++ (f ∷ [])) ≡ place_from n 0 fs
unfolding place_from
place_other n fs f e = place-append n 0 fs (f ∷ []) ∙ rw (ne_eqb (page_of f) n e)

-- ---- its bytes in the log

-- the page at a frame's place, 0 for none
abbrev pub body_at : List ℕ → ℕ → Option (List ℕ)
body_at l p = pick (eqb p 0) None (Some (page_from (p + 16) l))

at-pick : (l : List ℕ) (L c : ℕ) (e q : Bool) (f : List ℕ) → eqb L 0 ≡ q → body_at l c ≡ Some (body_of f)
    → body_at l (pick (both q e) c L) ≡ or_else (pick q None (Some (page_from (L + 16) l))) (body_if e f)
at-pick l L c true true f h k = k
at-pick l L c false true f h k = rw h
at-pick l L c e false f h k = rw h

body-here : (l f rest : List ℕ) (i : ℕ) → length f ≡ frame_size → drop (chunk_at i) l ≡ f ++ rest → body_at l (chunk_at i) ≡ Some (body_of f)
unfolding body_of
body-here l f rest i h e =
    let q : header_size + frame_size * i ≡ 0 → ⊥ = λ k. omega arith in
    let d : drop (header_size + frame_size * i + 16) l ≡ drop 16 f ++ rest = sym (drop-drop 16 (header_size + frame_size * i) l) ∙ rw (e, drop-append-le 16 f rest (omega arith)) in
    let n : length (drop 16 f) ≡ page_size = length-drop 16 f ∙ omega arith in
    rw (ne_eqb (header_size + frame_size * i) 0 q, d, take_at (drop 16 f) rest page_size n)

pub body-last : (l : List ℕ) (n i : ℕ) {fs : List (List ℕ)} (rest : List ℕ) → Whole fs → drop (chunk_at i) l ≡ joined fs ++ rest
    → body_at l (place_from n i fs) ≡ last_in n fs
unfolding place_from joined
body-last l n i rest laid.none e = refl
body-last l n i rest (laid.more {f} {fs} h w) e =
    let a : drop (header_size + frame_size * i) l ≡ f ++ (joined fs ++ rest) = e ∙ simp append_assoc in
    let m : header_size + frame_size * suc i ≡ header_size + frame_size * i + frame_size = omega arith in
    let d : drop (header_size + frame_size * suc i) l ≡ joined fs ++ rest = rw m (sym (drop-drop frame_size (header_size + frame_size * i) l) ∙ rw a (drop_at f (joined fs ++ rest) frame_size h)) in
    at-pick l (place_from n (suc i) fs) (header_size + frame_size * i) (eqb (page_of f) n) (eqb (place_from n (suc i) fs) 0) f refl (body-here l f (joined fs ++ rest) i h a)
    ∙ ap (λ (x : Option (List ℕ)). or_else x (body_if (eqb (page_of f) n) f)) (body-last l n (suc i) rest w d)

-- ---- batches

abbrev pub batches_of : List (List ℕ) → List Batch
batches_of fs = map (λ (f : List ℕ). batch_in (body_of f)) (batches_in fs)

-- the frames' times are those of the batches that they hold
pub times-of : (fs : List (List ℕ)) → map (λ (f : List ℕ). commit_ts_of (body_of f)) fs ≡ map (λ (b : Batch). b.time) (map (λ (f : List ℕ). batch_in (body_of f)) fs)
unfolding batch_in
times-of [] = refl
times-of (f ∷ fs) = ap (λ (ts : List ℕ). commit_ts_of (body_of f) ∷ ts) (times-of fs)

pub batches-append : (fs gs : List (List ℕ)) → batches_of (fs ++ gs) ≡ batches_of fs ++ batches_of gs
batches-append fs gs = ap (map (λ (f : List ℕ). batch_in (body_of f))) (batches_in-append fs gs) ∙ map-append _ (batches_in fs) (batches_in gs)

pub batches-page : (f : List ℕ) → (page_of f ≡ batch_page → ⊥) → batches_of (f ∷ []) ≡ []
unfolding batches_in
batches-page f e = rw (ne_eqb (page_of f) batch_page e)

pub batches-batch : (f : List ℕ) → page_of f ≡ batch_page → batches_of (f ∷ []) ≡ batch_in (body_of f) ∷ []
unfolding batches_in
batches-batch f e = rw (eq-eqb (page_of f) batch_page e)
