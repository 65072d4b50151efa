-- What is known of a text that is judged from an index on. Assumes nothing.
use Prim.Native.Nat.{ℕ, zero, suc, ◌+◌, ◌-◌, ◌≤◌, ◌<◌}
use mathlib.Core.Path.{◌≡◌, refl, sym, ap, ◌∙◌}
use mathlib.Core.Bool.{Bool, true, false, not, ◌&&◌, ◌||◌, and-eq-true_iff}
use mathlib.Core.List.{List, [], ◌∷◌}
use mathlib.Core.Logic.{inl, ⊎_elim}
use native.Mathlib.Nat.{add-zero, eq-or-lt_of_le}
use native.Mathlib.Omega.{arith}
use borrow.Author.Tests.{ltb-true, ltb-false, leb-true}
use lib.Dec.{leb, ltb}
use lib.ListN.{length, drop, get_or, length-drop, drop_of_length-le}
use lib.Seq.{drop-cons}
use Rattle.std.specs.Prelude.{Option, Some, None, MatchOption}
use Rattle.std.specs.Bool.{then_some}
use Rattle.std.specs.Int.{from_bool}
use Rattle.le.specs.Choice.{pick}
use Rattle.le.proofs.Tests.{le-or-lt}
use Rattle.text.specs.Utf8.{byte, continues, two, three, four, size, well_formed, chars, utf8_of}
use Rattle.text.specs.Agrees.{outside}
use Rattle.text.specs.Walk.{Ascii, Passes}
use Rattle.text.specs.Windows.{is_open, fits, all_fit, opens_at, fits_from, Fit, AllFit, Begun, Judges}
use Rattle.text.proofs.Agrees.{agrees, begins}
use Rattle.text.proofs.Laws.{size-one, size-two, size-three, size-four, size-le, found, told, over-ascii}
use Rattle.text.proofs.Fitting.{Over, over, is-over, leads, judged}

-- ---- the first byte of a list

outside-cons : (b : ℕ) (s : List ℕ) → outside (b ∷ s) ≡ pick (continues b) 0 1 + outside s
unfolding outside
outside-cons b s = refl

outside-none : outside [] ≡ 0
unfolding outside
outside-none = refl

fits-cons : (a b c d : ℕ) (s : List ℕ) → all_fit a b c (d ∷ s) ≡ (fits a b c d && all_fit b c d s)
unfolding all_fit
fits-cons a b c d s = refl

fits-nil : (a b c : ℕ) → all_fit a b c [] ≡ not (is_open a b c)
unfolding all_fit
fits-nil a b c = refl

pick-one : (t : Bool) → pick t 0 1 ≤ 1
pick-one true = omega arith
pick-one false = omega arith

pub one-most : (t : Bool) {n : ℕ} → n ≡ pick t 0 1 → n ≤ 1
one-most t e = omega (arith, pick-one t, e)

pub unless : (t : Bool) → from_bool (not t) ≡ pick t 0 1
unless true = refl
unless false = refl

-- what a judgement answers: n where all fit
pub judgement : (t : Bool) {n : ℕ} {o : Option ℕ} {P : Type 0} (Q : ℕ → Type 0) → o ≡ then_some t n → (t ≡ false → P) → (t ≡ true → Q n) → MatchOption o P Q
judgement true Q e f g = rw e (g refl)
judgement false Q e f g = rw e (f refl)

-- the numbers from a on, n of them
unfoldable count_up : ℕ → ℕ → List ℕ
count_up a zero = []
count_up a (suc n) = a ∷ count_up (suc a) n

counts_up : (a n j : ℕ) → j < n → get_or (count_up a n) j 0 ≡ a + j
unfolding count_up
counts_up a zero j h = absurd (omega arith)
counts_up a (suc n) zero h = omega arith
counts_up a (suc n) (suc j) h = counts_up (suc a) n j (omega arith) ∙ omega arith

-- what `judge_window` looks places up in
pub place_at : (j : ℕ) → j < 16 → get_or (0 ∷ 1 ∷ 2 ∷ 3 ∷ 4 ∷ 5 ∷ 6 ∷ 7 ∷ 8 ∷ 9 ∷ 10 ∷ 11 ∷ 12 ∷ 13 ∷ 14 ∷ 15 ∷ []) j 0 ≡ j
unfolding count_up
place_at j h = counts_up 0 16 j h ∙ omega arith

module _ (s : List ℕ) where
  -- ---- bytes that begin a sequence

  outside-at : (p : ℕ) → p < length s → outside (drop p s) ≡ pick (continues (byte s p)) 0 1 + outside (drop (p + 1) s)
  outside-at p h =
      let e : suc p ≡ p + 1 = omega arith in
      ap outside (drop-cons s p 0 h) ∙ outside-cons (byte s p) (drop (suc p) s) ∙ ap (λ (q : ℕ). pick (continues (byte s p)) 0 1 + outside (drop q s)) e

  none-outside : (a : ℕ) → length s ≤ a → outside (drop a s) ≡ 0
  none-outside a h = ap outside (drop_of_length-le s h) ∙ outside-none

  pub begun-none : (a : ℕ) → Begun s a a 0
  begun-none a = omega arith

  pub begun_more : (a b n : ℕ) {m : ℕ} → Begun s a b n → b < length s → m ≡ pick (continues (byte s b)) 0 1 → Begun s a (b + 1) (n + m)
  begun_more a b n f h e = omega (arith, outside-at b h, f, e)

  -- one byte more of a window, of which the first `skip` bytes are not counted
  window-by : (a j skip n : ℕ) (x t : Bool) {m : ℕ} → x ≡ continues (byte s (a + j)) → ltb j skip ≡ t → Begun s (a + skip) (a + skip + (j - skip)) n → a + j < length s
      → m ≡ pick (x || t) 0 1 → Begun s (a + skip) (a + skip + (j + 1 - skip)) (n + m)
  window-by a j skip n true true q e f h g =
      let z : j + 1 - skip ≡ j - skip = omega (arith, ltb-true j skip e) in
      rw z (omega (arith, f, g))
  window-by a j skip n false true q e f h g =
      let z : j + 1 - skip ≡ j - skip = omega (arith, ltb-true j skip e) in
      rw z (omega (arith, f, g))
  window-by a j skip n true false {m} q e f h g =
      let l = ltb-false j skip e in
      let y : a + skip + (j - skip) ≡ a + j = omega arith in
      let z : a + j + 1 ≡ a + skip + (j + 1 - skip) = omega arith in
      rw z at (begun_more (a + skip) (a + j) n {m = m} (rw y at f) h (g ∙ rw (← q)))
  window-by a j skip n false false {m} q e f h g =
      let l = ltb-false j skip e in
      let y : a + skip + (j - skip) ≡ a + j = omega arith in
      let z : a + j + 1 ≡ a + skip + (j + 1 - skip) = omega arith in
      rw z at (begun_more (a + skip) (a + j) n {m = m} (rw y at f) h (g ∙ rw (← q)))

  pub window_more : (a j skip n : ℕ) {m : ℕ} → Begun s (a + skip) (a + skip + (j - skip)) n → a + j < length s
      → m ≡ pick (continues (byte s (a + j)) || ltb j skip) 0 1 → Begun s (a + skip) (a + skip + (j + 1 - skip)) (n + m)
  window_more a j skip n f h g = window-by a j skip n (continues (byte s (a + j))) (ltb j skip) refl refl f h g

  outside-few : (a k : ℕ) → a + k ≤ length s → outside (drop a s) ≤ k + outside (drop (a + k) s)
  outside-few a zero h = rw add-zero (omega arith)
  outside-few a (suc k) h =
      let e : a + suc k ≡ a + k + 1 = omega arith in
      rw e (omega (arith, outside-few a k (omega arith), outside-at (a + k) (omega arith), pick-one (continues (byte s (a + k)))))

  begun-few : (a b : ℕ) {n : ℕ} → a ≤ b → b ≤ length s → Begun s a b n → n ≤ b - a
  begun-few a b l h f =
      let e : a + (b - a) ≡ b = omega arith in
      omega (arith, f, rw e at (outside-few a (b - a) (omega arith)))

  -- ---- bytes that fit

  pub fit-more : (i n : ℕ) → AllFit s i n → Fit s (i + n) → AllFit s i (n + 1)
  fit-more i n a f k l h = ⊎_elim (λ e. rw e f) (λ q. a k l q) (eq-or-lt_of_le {n = k} {m = i + n} (omega arith))

  -- the byte at i + 3, and those behind it
  fits-at : (i : ℕ) → i + 3 < length s → fits_from s i ≡ (fits (byte s i) (byte s (i + 1)) (byte s (i + 2)) (byte s (i + 3)) && fits_from s (i + 1))
  fits-at i h =
      let e : i + 1 + 1 ≡ i + 2 = omega arith in
      let f : i + 1 + 2 ≡ i + 3 = omega arith in
      let g : suc (i + 3) ≡ i + 1 + 3 = omega arith in
      rw (e, f, ← g) (ap (all_fit (byte s i) (byte s (i + 1)) (byte s (i + 2))) (drop-cons s (i + 3) 0 h) ∙ fits-cons _ _ _ (byte s (i + 3)) (drop (suc (i + 3)) s))

  -- where n bytes fit, what is behind them decides
  fits-past : (i n : ℕ) → i + 3 + n ≤ length s → AllFit s i n → fits_from s i ≡ fits_from s (i + n)
  fits-past i zero h a = rw add-zero
  fits-past i (suc n) h a =
      let e : i + suc n ≡ i + n + 1 = omega arith in
      fits-past i n (omega arith) (λ k l m. a k l (omega arith)) ∙ fits-at (i + n) (omega arith) ∙ rw (a (i + n) (omega arith) (omega arith), e)

  -- a byte that does not fit
  pub fits-none : (i n : ℕ) (x : Bool) {f : Bool} → i + 3 + n < length s → (x ≡ true → AllFit s i n) → (x ≡ false → fits_from s i ≡ false)
      → f ≡ fits (byte s (i + n)) (byte s (i + n + 1)) (byte s (i + n + 2)) (byte s (i + n + 3)) → (x && f) ≡ false → fits_from s i ≡ false
  fits-none i n true h a z e g = fits-past i n (omega arith) (a refl) ∙ fits-at (i + n) (omega arith) ∙ rw (← e, g)
  fits-none i n false h a z e g = z refl

  -- ASCII, where nothing is open before it
  module _ (i : ℕ) (o : opens_at s i ≡ false) where
    over-past : (n : ℕ) → Ascii s (i + 3) (i + 3 + n) → Over (byte s (i + n)) (byte s (i + n + 1)) (byte s (i + n + 2))
    over-past zero f = rw add-zero (over _ _ _ o)
    over-past (suc n) f =
        let p = over-past n (λ k l m. f k l (omega arith)) in
        let e : i + suc n ≡ i + n + 1 = omega arith in
        let g : i + n + 1 + 1 ≡ i + n + 2 = omega arith in
        let h : i + n + 1 + 2 ≡ i + 3 + n = omega arith in
        rw (e, g, h) (record { far = omega (arith, p.mid); mid = omega (arith, p.near); near = omega (arith, f (i + 3 + n) (omega arith) (omega arith)) })

    pub plain_fits : (n : ℕ) → Ascii s (i + 3) (i + 3 + n) → AllFit s i n
    plain_fits zero f = λ k l m. absurd (omega arith)
    plain_fits (suc n) f =
        let e : i + n + 3 ≡ i + 3 + n = omega arith in
        let x : byte s (i + n + 3) < 0x80 = rw e (f (i + 3 + n) (omega arith) (omega arith)) in
        let g : n + 1 ≡ suc n = omega arith in
        rw g at (fit-more i n (plain_fits n (λ k l m. f k l (omega arith))) (leads (over-past n (λ k l m. f k l (omega arith))) (inl x)))

  pub plain-begun : (a n : ℕ) → a + n ≤ length s → Ascii s a (a + n) → Begun s a (a + n) n
  plain-begun a zero h f = rw add-zero (begun-none a)
  plain-begun a (suc n) h f =
      let e : a + n + 1 ≡ a + suc n = omega arith in
      let g : n + 1 ≡ suc n = omega arith in
      rw (e, g) at (begun_more a (a + n) n {m = 1} (plain-begun a n (omega arith) (λ k l m. f k l (omega arith))) (omega arith) (rw (begins (byte s (a + n)) (inl (f (a + n) (omega arith) (omega arith))))))

  -- the text's end
  at-end : (i : ℕ) → length s ≡ i + 3 → fits_from s i ≡ not (opens_at s i)
  at-end i e = ap (all_fit (byte s i) (byte s (i + 1)) (byte s (i + 2))) (drop_of_length-le s {i = i + 3} (omega arith)) ∙ fits-nil _ _ _

  -- ---- behind a sequence none is open

  module _ (i n : ℕ) (o : Over (byte s i) (byte s (i + 1)) (byte s (i + 2))) (h : 0 < n) (e : n ≡ size (drop (i + 3) s)) where
    abbrev OverAt : ℕ → Type 0
    OverAt k = Over (byte s (i + k)) (byte s (i + k + 1)) (byte s (i + k + 2))

    over-one : byte s (i + 3) < 0x80 → i + 3 < length s → OverAt n
    over-one a l =
        let z : n ≡ 1 = e ∙ sym (size-one s (i + 3) l a) in
        let f : i + 1 + 1 ≡ i + 2 = omega arith in
        let g : i + 1 + 2 ≡ i + 3 = omega arith in
        rw (z, f, g) (record { far = omega (arith, o.mid); mid = omega (arith, o.near); near = omega arith })

    over-two : 0x80 ≤ byte s (i + 3) → byte s (i + 3) < 0xe0 → OverAt n
    unfolding two
    over-two a b =
        let q = found (leb 2 (length s - (i + 3)) && two (byte s (i + 3)) (byte s (i + 3 + 1))) {n = n} h (size-two s (i + 3) a b refl ∙ sym e) in
        let x = simp and-eq-true_iff at q.0 in
        let f : i + 2 + 1 ≡ i + 3 = omega arith in
        let g : i + 2 + 2 ≡ i + 3 + 1 = omega arith in
        rw (← q.1, f, g) (record { far = omega (arith, o.near); mid = b; near = omega (arith, leb-true, x) })

    over-three : 0xe0 ≤ byte s (i + 3) → byte s (i + 3) < 0xf0 → OverAt n
    unfolding three
    over-three a b =
        let q = found (leb 3 (length s - (i + 3)) && three (byte s (i + 3)) (byte s (i + 3 + 1)) (byte s (i + 3 + 2))) {n = n} h (size-three s (i + 3) a b refl ∙ sym e) in
        let x = simp and-eq-true_iff at q.0 in
        rw (← q.1) (record { far = b; mid = omega (arith, leb-true, x); near = omega (arith, leb-true, x) })

    over-four : 0xf0 ≤ byte s (i + 3) → OverAt n
    unfolding four
    over-four a =
        let q = found (leb 4 (length s - (i + 3)) && four (byte s (i + 3)) (byte s (i + 3 + 1)) (byte s (i + 3 + 2)) (byte s (i + 3 + 3))) {n = n} h (size-four s (i + 3) a refl ∙ sym e) in
        let x = simp and-eq-true_iff at q.0 in
        let f : i + 4 ≡ i + 3 + 1 = omega arith in
        let g : i + 3 + 1 + 1 ≡ i + 3 + 2 = omega arith in
        let k : i + 3 + 1 + 2 ≡ i + 3 + 3 = omega arith in
        rw (← q.1, f, g, k) (record { far = omega (arith, leb-true, x); mid = omega (arith, leb-true, x); near = omega (arith, leb-true, x) })

    over-next : OverAt n
    over-next =
        ⊎_elim (λ x. over-one (omega arith) (omega (arith, rw length-drop at (size-le (drop (i + 3) s))))) (λ x.
        ⊎_elim (λ y. over-two x (omega arith)) (λ y.
        ⊎_elim (λ z. over-three y (omega arith)) (λ z. over-four z)
        (le-or-lt (byte s (i + 3)) 0xef)) (le-or-lt (byte s (i + 3)) 0xdf)) (le-or-lt (byte s (i + 3)) 0x7f)

  -- ---- the judgement up to an index

  -- it begins behind whole sequences ..
  pub judges : (at n : ℕ) → Passes s 0 at n → 3 ≤ at → at + 16 ≤ length s → opens_at s (at - 3) ≡ false → Judges s at n
  judges at n p l h o =
      let e : at - 3 + 3 ≡ at = omega arith in
      record {
        i = at - 3;
        passed = n;
        passes = rw e p;
        over = o;
        room = omega arith;
        on = omega arith;
        inside = omega arith;
        all = λ k l m. absurd (omega arith);
        few = omega (arith, p.few);
        count = rw e refl;
      }

  -- .. or behind ASCII ..
  pub judges-ascii : (at : ℕ) → Ascii s 0 at → 3 ≤ at → at + 16 ≤ length s → Judges s at at
  judges-ascii at f l h =
      let o : Over (byte s (at - 3)) (byte s (at - 3 + 1)) (byte s (at - 3 + 2))
      = record { far = omega (arith, f (at - 3) (omega arith) (omega arith)); mid = omega (arith, f (at - 3 + 1) (omega arith) (omega arith)); near = omega (arith, f (at - 3 + 2) (omega arith) (omega arith)) } in
      judges at at (told (over-ascii s 0 at f (omega arith) (omega arith) (omega arith) (omega arith)) refl (omega arith)) l h (is-over o)

  -- .. and goes on by m bytes from w on, of which those up to `at` were judged before
  pub judges-on : {at n : ℕ} (b w m : ℕ) (j : Judges s at n) → j.i + 3 ≤ w → w ≤ at → at ≤ w + m → w + m ≤ length s → AllFit s (w - 3) m → Begun s at (w + m) b
      → Judges s (w + m) (n + b)
  judges-on {at} {n} b w m j l h k f a g =
      record {
        i = j.i;
        passed = j.passed;
        passes = j.passes;
        over = j.over;
        room = j.room;
        on = omega arith;
        inside = f;
        all = λ x y z. ⊎_elim (λ u. a x (omega arith) (omega arith)) (λ u. j.all x y (omega (arith, j.on))) (le-or-lt (w - 3) x);
        few = omega (arith, j.few, begun-few at (w + m) k f g);
        count = omega (arith, j.count, g);
      }

  -- what is left behind a place in it decides
  judges-past : {at n : ℕ} (j : Judges s at n) (w : ℕ) → j.i + 3 ≤ w → w ≤ at → fits_from s (w - 3) ≡ well_formed s
  judges-past j w l h =
      let i = j.i in
      let o : Over (byte s i) (byte s (i + 1)) (byte s (i + 2)) = over _ _ _ j.over in
      let e : i + (w - 3 - i) ≡ w - 3 = omega arith in
      let p = rw e at (fits-past i (w - 3 - i) (omega (arith, j.inside)) (λ x y z. j.all x y (omega (arith, j.on)))) in
      sym p ∙ judged _ _ _ (drop (i + 3) s) o ∙ j.passes.same

  pub judges-not : {at n : ℕ} (j : Judges s at n) (w : ℕ) → j.i + 3 ≤ w → w ≤ at → fits_from s (w - 3) ≡ false → well_formed s ≡ false
  judges-not j w l h e = sym (judges-past j w l h) ∙ e

  -- at the text's end
  pub judges-end : {at n : ℕ} → Judges s at n → length s ≤ at → (o : Bool) → opens_at s (length s - 3) ≡ o → pick o None (Some n) ≡ utf8_of s
  judges-end {at} {n} j h o e =
      let f : well_formed s ≡ not o = sym (judges-past j at j.on (omega arith)) ∙ ended in
      by o f
    where
      same_end : at ≡ length s
      same_end = omega (arith, j.inside)

      ended : fits_from s (at - 3) ≡ not o
      ended = rw same_end (at-end (length s - 3) (omega (arith, j.room)) ∙ ap not e)

      by : (o : Bool) → well_formed s ≡ not o → pick o None (Some n) ≡ utf8_of s
      by true f = rw f
      by false f =
          let w : well_formed (drop (j.i + 3) s) ≡ true = j.passes.same ∙ f in
          let a = agrees (drop (j.i + 3) s) in
          let c : outside (drop (j.i + 3) s) ≡ chars (drop (j.i + 3) s) = a.begins (a.sound w) in
          rw f (ap Some (omega (arith, j.count, j.passes.count, c, none-outside at h)))

-- ---- from a text's start on: three zeros stand before it

abbrev zeros : List ℕ → List ℕ
zeros s = 0 ∷ 0 ∷ 0 ∷ s

byte-behind : (s : List ℕ) (k : ℕ) → byte (zeros s) (k + 3) ≡ byte s k
byte-behind s k = let e : k + 3 ≡ suc (suc (suc k)) = omega arith in ap (byte (zeros s)) e

drop-behind : (s : List ℕ) (k : ℕ) → drop (k + 3) (zeros s) ≡ drop k s
drop-behind s k = let e : k + 3 ≡ suc (suc (suc k)) = omega arith in ap (λ (n : ℕ). drop n (zeros s)) e

-- no sequence is open before the byte at k
abbrev pub OverFirst : List ℕ → ℕ → Type 0
OverFirst s k = Over (byte (zeros s) k) (byte (zeros s) (k + 1)) (byte (zeros s) (k + 2))

pub first-over : (s : List ℕ) → OverFirst s 0
first-over s = record { far = omega arith; mid = omega arith; near = omega arith }

pub first_next : (s : List ℕ) (k n : ℕ) → OverFirst s k → 0 < n → n ≡ size (drop k s) → OverFirst s (k + n)
first_next s k n o h e = over-next (zeros s) k n o h (e ∙ ap size (sym (drop-behind s k)))

pub first-shut : (s : List ℕ) (k : ℕ) → 3 ≤ k → OverFirst s k → opens_at s (k - 3) ≡ false
first-shut s k h o =
    let e : k - 3 + 3 ≡ k = omega arith in
    let f : k - 3 + 1 + 3 ≡ k + 1 = omega arith in
    let g : k - 3 + 2 + 3 ≡ k + 2 = omega arith in
    let p : Over (byte s (k - 3)) (byte s (k - 3 + 1)) (byte s (k - 3 + 2))
    = rw (← byte-behind s (k - 3), ← byte-behind s (k - 3 + 1), ← byte-behind s (k - 3 + 2), e, f, g) o in
    is-over p
