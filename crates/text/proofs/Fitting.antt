-- The texts all of whose bytes can stand behind the three before them are those of table 3-7. Assumes nothing.
use Prim.Native.Nat.{ℕ, zero, suc, ◌≤◌, ◌<◌}
use mathlib.Core.Path.{◌≡◌, refl, sym, ◌∙◌}
use mathlib.Core.Bool.{Bool, true, false, not, ◌&&◌, ◌||◌, and-eq-true_iff, false≢true}
use mathlib.Core.List.{List, [], ◌∷◌}
use mathlib.Core.Logic.{◌⊎◌, inl, inr, ⊎_elim}
use native.Mathlib.Omega.{arith}
use borrow.Author.Tests.{le-leb, lt-leb, leb-true, leb-false, eqb-true, eqb-false, ne_eqb, not-true}
use lib.Dec.{leb, eqb}
use lib.ListN.{length}
use Rattle.le.specs.Choice.{pick}
use Rattle.le.proofs.Tests.{le-or-lt}
use Rattle.text.specs.Utf8.{continues, well_formed}
use Rattle.text.specs.Table.{In, row1, row2, row3, row4, row5, row6, row7, row8, row9, Sequences, none, more}
use Rattle.text.specs.Windows.{is_open, lowest, highest, fits, all_fit}
use Rattle.text.proofs.Agrees.{agrees, begins, goes_on}

-- ---- whether a sequence is open

-- none is behind a, b and c
pub record Over (a b c : ℕ) : Type 0 where
  pub far : a < 0xf0
  pub mid : b < 0xe0
  pub near : c < 0xc0

pub is-over : {a b c : ℕ} → Over a b c → is_open a b c ≡ false
is-over o = rw (lt-leb 0xf0 _ o.far, lt-leb 0xe0 _ o.mid, lt-leb 0xc0 _ o.near)

over_by : (x y z : Bool) {a b c : ℕ} → leb 0xf0 a ≡ x → leb 0xe0 b ≡ y → leb 0xc0 c ≡ z → (x || y || z) ≡ false → Over a b c
over_by false false false e f g o = record { far = leb-false _ _ e; mid = leb-false _ _ f; near = leb-false _ _ g }
over_by false false true e f g o = absurd (false≢true (sym o))
over_by false true z e f g o = absurd (false≢true (sym o))
over_by true y z e f g o = absurd (false≢true (sym o))

pub over : (a b c : ℕ) → is_open a b c ≡ false → Over a b c
over a b c e = over_by (leb 0xf0 a) (leb 0xe0 b) (leb 0xc0 c) refl refl refl e

or-last : (x y : Bool) → (x || y || true) ≡ true
or-last true y = refl
or-last false true = refl
or-last false false = refl

or-mid : (x z : Bool) → (x || true || z) ≡ true
or-mid true z = refl
or-mid false z = refl

-- one is behind the first byte of a sequence, the second of a longer one, and the third of the longest
open-one : (a b c : ℕ) → 0xc0 ≤ c → is_open a b c ≡ true
open-one a b c h = rw (le-leb 0xc0 _ h) (or-last (leb 0xf0 a) (leb 0xe0 b))

open-two : (a b c : ℕ) → 0xe0 ≤ b → is_open a b c ≡ true
open-two a b c h = rw (le-leb 0xe0 _ h) (or-mid (leb 0xf0 a) (leb 0xc0 c))

open-three : (a b c : ℕ) → 0xf0 ≤ a → is_open a b c ≡ true
open-three a b c h = rw (le-leb 0xf0 _ h)

-- ---- what table 3-7 asks of the byte d behind c

record Rules (c d : ℕ) : Type 0 where
  e0 : c ≡ 0xe0 → 0xa0 ≤ d
  ed : c ≡ 0xed → d ≤ 0x9f
  f0 : c ≡ 0xf0 → 0x90 ≤ d
  f4 : c ≡ 0xf4 → d ≤ 0x8f

rules : (c d : ℕ) → lowest c ≤ d → d ≤ highest c → Rules c d
rules c d l h = record { e0 = λ e. rw e at l; ed = λ e. rw e at h; f0 = λ e. rw e at l; f4 = λ e. rw e at h }

low_by : {c d : ℕ} → Rules c d → (x y : Bool) → eqb c 0xe0 ≡ x → eqb c 0xf0 ≡ y → pick x 0xa0 (pick y 0x90 0) ≤ d
low_by r true y e f = r.e0 (eqb-true _ _ e)
low_by r false true e f = r.f0 (eqb-true _ _ f)
low_by r false false e f = omega arith

high-by : {c d : ℕ} → Rules c d → d ≤ 0xf4 → (x y : Bool) → eqb c 0xed ≡ x → eqb c 0xf4 ≡ y → d ≤ pick x 0x9f (pick y 0x8f 0xf4)
high-by r h true y e f = r.ed (eqb-true _ _ e)
high-by r h false true e f = r.f4 (eqb-true _ _ f)
high-by r h false false e f = h

above : (x y : Bool) {d : ℕ} → d ≤ pick x 0x9f (pick y 0x8f 0xf4) → d ≤ 0xf4
above true y h = omega arith
above false true h = omega arith
above false false h = h

-- nothing, of a byte that does not begin a sequence
no-rules : {c : ℕ} (d : ℕ) → c < 0xc0 → Rules c d
no-rules d h = record { e0 = λ e. omega arith; ed = λ e. omega arith; f0 = λ e. omega arith; f4 = λ e. omega arith }

-- ---- what it is to fit

-- that d fits behind a, b and c, part by part
record Fits (a b c d : ℕ) : Type 0 where
  turn : pick (is_open a b c) (continues d) (not (continues d)) ≡ true
  not_c0 : eqb d 0xc0 ≡ false
  not_c1 : eqb d 0xc1 ≡ false
  low : lowest c ≤ d
  high : d ≤ highest c

five : (v w x y z : Bool) → (v && not w && not x && y && z) ≡ true → (v ≡ true) × ((w ≡ false) × ((x ≡ false) × ((y ≡ true) × (z ≡ true))))
five true false false true true e = (refl, (refl, (refl, (refl, refl))))
five true false false true false e = absurd (false≢true e)
five true false false false z e = absurd (false≢true e)
five true false true y z e = absurd (false≢true e)
five true true x y z e = absurd (false≢true e)
five false w x y z e = absurd (false≢true e)

parts : {a b c d : ℕ} → fits a b c d ≡ true → Fits a b c d
unfolding fits
parts {a} {b} {c} {d} e =
    let q = five (pick (is_open a b c) (continues d) (not (continues d))) (eqb d 0xc0) (eqb d 0xc1) (leb (lowest c) d) (leb d (highest c)) e in
    record { turn = q.0; not_c0 = q.1.0; not_c1 = q.1.1.0; low = leb-true _ _ q.1.1.1.0; high = leb-true _ _ q.1.1.1.1 }

whole : {a b c d : ℕ} → Fits a b c d → fits a b c d ≡ true
unfolding fits
whole {a} {b} {c} {d} f = rw (f.turn, f.not_c0, f.not_c1, le-leb (lowest c) d f.low, le-leb d (highest c) f.high)

continues-in : (d : ℕ) → continues d ≡ true → In 0x80 0xbf d
continues-in d e = let q = (and-eq-true_iff (leb 0x80 d) (leb d 0xbf)).0 e in record { low = leb-true _ _ q.0; high = leb-true _ _ q.1 }

-- where a sequence is open, it continues it ..
going : (a b : ℕ) {c d : ℕ} → is_open a b c ≡ true → fits a b c d ≡ true → In 0x80 0xbf d × Rules c d
going a b {c} {d} o e =
    let f = parts e in
    (continues-in d (rw o at f.turn), rules c d f.low f.high)

goes : (a b : ℕ) {c d : ℕ} → is_open a b c ≡ true → In 0x80 0xbf d → Rules c d → fits a b c d ≡ true
goes a b {c} {d} o i r =
    whole record {
      turn = rw o (goes_on d i);
      not_c0 = ne_eqb d 0xc0 (λ e. absurd (omega arith));
      not_c1 = ne_eqb d 0xc1 (λ e. absurd (omega arith));
      low = low_by r (eqb c 0xe0) (eqb c 0xf0) refl refl;
      high = high-by r (omega arith) (eqb c 0xed) (eqb c 0xf4) refl refl;
    }

-- .. and where none is, it begins one
abbrev pub Lead : ℕ → Type 0
Lead d = (d < 0x80) ⊎ In 0xc2 0xf4 d

lead-by : (d : ℕ) → continues d ≡ false → eqb d 0xc0 ≡ false → eqb d 0xc1 ≡ false → d ≤ 0xf4 → Lead d
lead-by d k x y h =
    ⊎_elim (λ l. inl (omega arith)) (λ l.
    ⊎_elim (λ m. absurd (false≢true (sym k ∙ goes_on d (record { low = omega arith; high = m })))) (λ m.
    ⊎_elim (λ n. ⊎_elim (λ p. absurd (eqb-false d 0xc0 x (omega arith))) (λ p. absurd (eqb-false d 0xc1 y (omega arith))) (le-or-lt d 0xc0))
    (λ n. inr (omega arith))
    (le-or-lt d 0xc1)) (le-or-lt d 0xbf)) (le-or-lt d 0x7f)

leading : {a b c d : ℕ} → Over a b c → fits a b c d ≡ true → Lead d
leading {c = c} {d = d} o e =
    let f = parts e in
    lead-by d (not-true _ (rw (is-over o) at f.turn)) f.not_c0 f.not_c1 (above (eqb c 0xed) (eqb c 0xf4) f.high)

leads-by : {a b c d : ℕ} → Over a b c → continues d ≡ false → (d ≡ 0xc0 → ⊥) → (d ≡ 0xc1 → ⊥) → d ≤ 0xf4 → fits a b c d ≡ true
leads-by {c = c} {d = d} o k x y h =
    let r = no-rules d o.near in
    whole record {
      turn = rw (is-over o, k);
      not_c0 = ne_eqb d 0xc0 x;
      not_c1 = ne_eqb d 0xc1 y;
      low = low_by r (eqb c 0xe0) (eqb c 0xf0) refl refl;
      high = high-by r h (eqb c 0xed) (eqb c 0xf4) refl refl;
    }

pub leads : {a b c d : ℕ} → Over a b c → Lead d → fits a b c d ≡ true
leads {d = d} o (inl h) = leads-by o (begins d (inl h)) (λ e. absurd (omega arith)) (λ e. absurd (omega arith)) (omega arith)
leads {d = d} o (inr i) = leads-by o (begins d (inr (omega arith))) (λ e. absurd (omega arith)) (λ e. absurd (omega arith)) i.high

-- ---- a text of the table fits: a sequence of each length, and what is behind it

module _ (s : List ℕ) (t : (a b c : ℕ) → Over a b c → all_fit a b c s ≡ true) (a b c : ℕ) (o : Over a b c) where
  one-fits : (d : ℕ) → d < 0x80 → all_fit a b c (d ∷ s) ≡ true
  unfolding all_fit
  one-fits d h = rw (leads o (inl h)) (t b c d (omega arith))

  two_fits : {d e : ℕ} → In 0xc2 0xdf d → In 0x80 0xbf e → all_fit a b c (d ∷ e ∷ s) ≡ true
  unfolding all_fit
  two_fits {d} {e} i j =
      let r : Rules d e = record { e0 = λ x. omega arith; ed = λ x. omega arith; f0 = λ x. omega arith; f4 = λ x. omega arith } in
      rw (leads {d = d} o (inr (omega arith)), goes b c (open-one b c d (omega arith)) j r) (t c d e (omega arith))

  three-fits : {d e f : ℕ} → In 0xe0 0xef d → In 0x80 0xbf e → In 0x80 0xbf f → Rules d e → all_fit a b c (d ∷ e ∷ f ∷ s) ≡ true
  unfolding all_fit
  three-fits {d} {e} {f} i j k r =
      rw (leads {d = d} o (inr (omega arith)), goes b c (open-one b c d (omega arith)) j r, goes c d {c = e} (open-two c d e i.low) k (no-rules f (omega arith)))
      (t d e f (omega arith))

  four-fits : {d e f g : ℕ} → In 0xf0 0xf4 d → In 0x80 0xbf e → In 0x80 0xbf f → In 0x80 0xbf g → Rules d e → all_fit a b c (d ∷ e ∷ f ∷ g ∷ s) ≡ true
  unfolding all_fit
  four-fits {d} {e} {f} {g} i j k l r =
      rw (leads {d = d} o (inr (omega arith)), goes b c (open-one b c d (omega arith)) j r, goes c d {c = e} (open-two c d e (omega arith)) k (no-rules f (omega arith)), goes d e {c = f} (open-three d e f i.low) l (no-rules g (omega arith)))
      (t e f g (omega arith))

fitting : {n : ℕ} {s : List ℕ} → Sequences n s → (a b c : ℕ) → Over a b c → all_fit a b c s ≡ true
unfolding all_fit
fitting none a b c o = rw (is-over o)
fitting (more {s = s} (row1 {a = d} i) t) a b c o = one-fits s (λ x y z p. fitting t x y z p) a b c o d (omega arith)
fitting (more {s = s} (row2 i j) t) a b c o = two_fits s (λ x y z p. fitting t x y z p) a b c o i j
fitting (more {s = s} (row3 i j k) t) a b c o =
    three-fits s (λ x y z p. fitting t x y z p) a b c o (omega arith) (omega arith) k (record { e0 = λ x. omega arith; ed = λ x. omega arith; f0 = λ x. omega arith; f4 = λ x. omega arith })
fitting (more {s = s} (row4 i j k) t) a b c o =
    three-fits s (λ x y z p. fitting t x y z p) a b c o (omega arith) j k (record { e0 = λ x. omega arith; ed = λ x. omega arith; f0 = λ x. omega arith; f4 = λ x. omega arith })
fitting (more {s = s} (row5 i j k) t) a b c o =
    three-fits s (λ x y z p. fitting t x y z p) a b c o (omega arith) (omega arith) k (record { e0 = λ x. omega arith; ed = λ x. omega arith; f0 = λ x. omega arith; f4 = λ x. omega arith })
fitting (more {s = s} (row6 i j k) t) a b c o =
    three-fits s (λ x y z p. fitting t x y z p) a b c o (omega arith) j k (record { e0 = λ x. omega arith; ed = λ x. omega arith; f0 = λ x. omega arith; f4 = λ x. omega arith })
fitting (more {s = s} (row7 i j k l) t) a b c o =
    four-fits s (λ x y z p. fitting t x y z p) a b c o (omega arith) (omega arith) k l (record { e0 = λ x. omega arith; ed = λ x. omega arith; f0 = λ x. omega arith; f4 = λ x. omega arith })
fitting (more {s = s} (row8 i j k l) t) a b c o =
    four-fits s (λ x y z p. fitting t x y z p) a b c o (omega arith) j k l (record { e0 = λ x. omega arith; ed = λ x. omega arith; f0 = λ x. omega arith; f4 = λ x. omega arith })
fitting (more {s = s} (row9 i j k l) t) a b c o =
    four-fits s (λ x y z p. fitting t x y z p) a b c o (omega arith) (omega arith) k l (record { e0 = λ x. omega arith; ed = λ x. omega arith; f0 = λ x. omega arith; f4 = λ x. omega arith })

-- ---- a text that fits is one of the table: the row of its first sequence

record Splits (s : List ℕ) : Type 0 where
  number : ℕ
  split : Sequences number s

-- one that has fewer bytes than n
abbrev Shorter : ℕ → Type 0
Shorter n = (a b c : ℕ) (s : List ℕ) → length s < n → Over a b c → all_fit a b c s ≡ true → Splits s

-- where a sequence is open, there is a byte more, which continues it
ended : {A : Type 0} (b c d : ℕ) → is_open b c d ≡ true → all_fit b c d [] ≡ true → A
unfolding all_fit
ended b c d o f = absurd (false≢true (rw o at f))

record Next (c d e : ℕ) (s : List ℕ) : Type 0 where
  byte : In 0x80 0xbf e
  asked : Rules d e
  all : all_fit c d e s ≡ true

next : (b c d e : ℕ) (s : List ℕ) → is_open b c d ≡ true → all_fit b c d (e ∷ s) ≡ true → Next c d e s
unfolding all_fit
next b c d e s o f =
    let q = (and-eq-true_iff (fits b c d e) (all_fit c d e s)).0 f in
    let g = going b c o q.0 in
    record { byte = g.0; asked = g.1; all = q.1 }

module _ (a b c d : ℕ) (o : Over a b c) where
  one_way : (s : List ℕ) → d < 0x80 → all_fit b c d s ≡ true → Shorter (length (d ∷ s)) → Splits (d ∷ s)
  one_way s h f rest =
      let t = rest b c d s (omega arith) (omega arith) f in
      record { number = suc t.number; split = more (row1 {a = d} (omega arith)) t.split }

  two-way : (s : List ℕ) → In 0xc2 0xdf d → all_fit b c d s ≡ true → Shorter (length (d ∷ s)) → Splits (d ∷ s)
  two-way [] i f rest = ended b c d (open-one b c d (omega arith)) f
  two-way (e ∷ s) i f rest =
      let x = next b c d e s (open-one b c d (omega arith)) f in
      let t = rest c d e s (omega arith) (omega (arith, x.byte)) x.all in
      record { number = suc t.number; split = more (row2 i x.byte) t.split }

  three-row : {e f : ℕ} {n : ℕ} {s : List ℕ} → In 0xe0 0xef d → In 0x80 0xbf e → In 0x80 0xbf f → Rules d e → Sequences n s → Splits (d ∷ e ∷ f ∷ s)
  three-row {n = n} i j k r t =
      record {
        number = suc n;
        split = ⊎_elim (λ x. more (row3 (omega arith) (let y = r.e0 (omega arith) in omega arith) k) t) (λ x.
            ⊎_elim (λ y. more (row4 (omega arith) j k) t) (λ y.
            ⊎_elim (λ z. more (row5 (omega arith) (let w = r.ed (omega arith) in omega arith) k) t) (λ z. more (row6 (omega arith) j k) t)
            (le-or-lt d 0xed)) (le-or-lt d 0xec)) (le-or-lt d 0xe0);
      }

  three-way : (s : List ℕ) → In 0xe0 0xef d → all_fit b c d s ≡ true → Shorter (length (d ∷ s)) → Splits (d ∷ s)
  three-way [] i f rest = ended b c d (open-one b c d (omega arith)) f
  three-way (e ∷ []) i f rest = ended c d e (open-two c d e i.low) (next b c d e [] (open-one b c d (omega arith)) f).all
  three-way (e ∷ g ∷ s) i f rest =
      let x = next b c d e (g ∷ s) (open-one b c d (omega arith)) f in
      let y = next c d e g s (open-two c d e i.low) x.all in
      let t = rest d e g s (omega arith) (omega (arith, x.byte, y.byte)) y.all in
      three-row i x.byte y.byte x.asked t.split

  four-row : {e f g : ℕ} {n : ℕ} {s : List ℕ} → In 0xf0 0xf4 d → In 0x80 0xbf e → In 0x80 0xbf f → In 0x80 0xbf g → Rules d e → Sequences n s → Splits (d ∷ e ∷ f ∷ g ∷ s)
  four-row {n = n} i j k l r t =
      record {
        number = suc n;
        split = ⊎_elim (λ x. more (row7 (omega arith) (let y = r.f0 (omega arith) in omega arith) k l) t) (λ x.
            ⊎_elim (λ y. more (row8 (omega arith) j k l) t) (λ y. more (row9 (omega arith) (let w = r.f4 (omega arith) in omega arith) k l) t)
            (le-or-lt d 0xf3)) (le-or-lt d 0xf0);
      }

  four-way : (s : List ℕ) → In 0xf0 0xf4 d → all_fit b c d s ≡ true → Shorter (length (d ∷ s)) → Splits (d ∷ s)
  four-way [] i f rest = ended b c d (open-one b c d (omega arith)) f
  four-way (e ∷ []) i f rest = ended c d e (open-two c d e (omega arith)) (next b c d e [] (open-one b c d (omega arith)) f).all
  four-way (e ∷ g ∷ []) i f rest =
      ended d e g (open-three d e g i.low)
      (next c d e g [] (open-two c d e (omega arith)) (next b c d e (g ∷ []) (open-one b c d (omega arith)) f).all).all
  four-way (e ∷ g ∷ h ∷ s) i f rest =
      let x = next b c d e (g ∷ h ∷ s) (open-one b c d (omega arith)) f in
      let y = next c d e g (h ∷ s) (open-two c d e (omega arith)) x.all in
      let z = next d e g h s (open-three d e g i.low) y.all in
      let t = rest e g h s (omega arith) (omega (arith, x.byte, y.byte, z.byte)) z.all in
      four-row i x.byte y.byte z.byte x.asked t.split

  way : (s : List ℕ) → Lead d → all_fit b c d s ≡ true → Shorter (length (d ∷ s)) → Splits (d ∷ s)
  way s (inl h) f rest = one_way s h f rest
  way s (inr i) f rest =
      ⊎_elim (λ x. two-way s (omega arith) f rest) (λ x.
      ⊎_elim (λ y. three-way s (omega arith) f rest) (λ y. four-way s (omega arith) f rest)
      (le-or-lt d 0xef)) (le-or-lt d 0xdf)

turns : (a b c : ℕ) (s : List ℕ) → Over a b c → all_fit a b c s ≡ true → Shorter (length s) → Splits s
unfolding all_fit
turns a b c [] o f rest = record { number = 0; split = none }
turns a b c (d ∷ s) o f rest =
    let q = (and-eq-true_iff (fits a b c d) (all_fit b c d s)).0 f in
    way a b c d o s (leading o q.0) q.1 rest

-- by so many sequences at most
splits : (k a b c : ℕ) (s : List ℕ) → length s ≤ k → Over a b c → all_fit a b c s ≡ true → Splits s
splits zero a b c s h o f = turns a b c s o f (λ a b c t l p g. absurd (omega arith))
splits (suc k) a b c s h o f = turns a b c s o f (λ a b c t l p g. splits k a b c t (omega arith) p g)

-- ---- so fitting is to be well-formed

same : (x y : Bool) → (x ≡ true → y ≡ true) → (y ≡ true → x ≡ true) → x ≡ y
same true y f g = sym (f refl)
same false true f g = g refl
same false false f g = refl

pub judged : (a b c : ℕ) (s : List ℕ) → Over a b c → all_fit a b c s ≡ well_formed s
judged a b c s o =
    same (all_fit a b c s) (well_formed s) (λ e. ((agrees s).complete (splits (length s) a b c s (omega arith) o e).split).0)
    (λ e. fitting ((agrees s).sound e) a b c o)
