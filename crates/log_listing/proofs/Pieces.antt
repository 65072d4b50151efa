-- Texts put one behind the other, and numbers in digits. Assumes nothing.
use mathlib.Core.Path.{◌≡◌, refl, sym, ◌∙◌}
use mathlib.Core.List.{List, [], ◌++◌}
use mathlib.Core.Logic.{⊎_elim}
use Prim.Native.Nat.{ℕ, zero, suc, ◌+◌, ◌-◌, ◌*◌, ◌/◌, ◌%◌, ◌^◌, ◌≤◌, ◌<◌}
use native.Mathlib.Nat.{pow-succ', one-le-pow, pow-le-pow_right}
use native.Mathlib.Omega.{arith}
use borrow.Author.Tests.{lt-ltb, le-ltb}
use lib.ListN.{length, length-append}
use Rattle.le.proofs.Tests.{le-or-lt}
use Rattle.le.proofs.Stores.{put-put, put-none, length-put}
use Rattle.io.specs.Digits.{last_digits, IsDigitCount}
use Rattle.log_listing.specs.Listing.{decimals, decimal}
use Rattle.log_listing.specs.Answer.{Added}

-- ---- adding

-- nothing
pub added_none : (n : ℕ) (l : List ℕ) (at : ℕ) → Added n l at [] l at
added_none n l at = record { most = omega arith; place = omega arith; bytes = sym (put-none l at) }

-- a text by another name, and with another bound
pub added-as : {n m at : ℕ} {l xs ys after : List ℕ} {end : ℕ} → Added n l at xs after end → xs ≡ ys → length ys ≤ m → Added m l at ys after end
added-as a e h = record { most = h; place = rw e at a.place; bytes = rw e at a.bytes }

pub added-most : {n m at : ℕ} {l xs after : List ℕ} {end : ℕ} → n ≤ m → Added n l at xs after end → Added m l at xs after end
added-most h a = record { most = omega (arith, a.most); place = a.place; bytes = a.bytes }

-- the length stays
pub added-length : {n at : ℕ} {l xs after : List ℕ} {end : ℕ} → at + n ≤ length l → Added n l at xs after end → length after ≡ length l
added-length {n} {at} {l} {xs} h a = rw a.bytes (length-put l at xs (omega (arith, a.most)))

-- a text behind another
pub added_next : {n m at : ℕ} {l xs ys l₁ l₂ : List ℕ} {a b : ℕ} → Added n l at xs l₁ a → Added m l₁ a ys l₂ b → at + n + m ≤ length l
    → Added (n + m) l at (xs ++ ys) l₂ b
added_next {n} {m} {at} {l} {xs} {ys} p q h =
    record {
      most = simp length-append (omega (arith, p.most, q.most));
      place = simp length-append (omega (arith, p.place, q.place));
      bytes = q.bytes ∙ rw (p.bytes, p.place) (put-put l at xs ys (omega (arith, p.most)));
    }

-- ---- digits

pub length_digits : (b k n : ℕ) → length (last_digits b k n) ≡ k
length_digits b zero n = refl
length_digits b (suc k) n = simp length-append (omega (arith, length_digits b k (n / b)))

-- the fewest digits are those without zeros in front
decimals-digits : (k j n : ℕ) → j < k → n < 10 ^ suc j → (1 < suc j → 10 ^ j ≤ n) → decimals k n ≡ last_digits 10 (suc j) n
unfolding decimals
decimals-digits zero j n h a b = absurd (omega arith)
decimals-digits (suc k) zero n h a b =
    let s : n < 10 = omega (arith, a) in
    let m : n % 10 ≡ n = omega arith in
    rw (m, lt-ltb n 10 s)
decimals-digits (suc k) (suc j) n h a b =
    let p : 10 ^ suc j ≡ 10 * 10 ^ j = pow-succ' 10 j in
    let q : 10 ^ suc (suc j) ≡ 10 * 10 ^ suc j = pow-succ' 10 (suc j) in
    let o : 1 ≤ 10 ^ j = one-le-pow j 10 (omega arith) in
    let l : 10 ^ suc j ≤ n = b (omega arith) in
    let r : n % 10 < 10 = omega arith in
    let d : decimals k (n / 10) ≡ last_digits 10 (suc j) (n / 10) = decimals-digits k j (n / 10) (omega arith) (omega arith) (λ t. omega arith) in
    rw (le-ltb n 10 (omega arith), lt-ltb (n % 10) 10 r, d)

pub decimal-digits : (k n : ℕ) → 1 ≤ k → k ≤ 20 → n < 10 ^ k → (1 < k → 10 ^ (k - 1) ≤ n) → last_digits 10 k n ≡ decimal n
unfolding decimal
decimal-digits zero n o m a b = absurd (omega arith)
decimal-digits (suc j) n o m a b =
    let e : suc j - 1 ≡ j = omega arith in
    sym (decimals-digits 20 j n (omega arith) a (λ t. rw e at (b t)))

-- a number of 64 bits has 20 digits at most
pub decimal-places : (k n : ℕ) → n < 2 ^ 64 → (1 < k → 10 ^ (k - 1) ≤ n) → k ≤ 20
decimal-places k n h b =
    ⊎_elim (λ u. u)
    (λ u.
    let p : 10 ^ 20 ≤ 10 ^ (k - 1) = pow-le-pow_right {n = 10} (omega arith) {i = 20} {j = k - 1} (omega arith) in
    let q : 10 ^ (k - 1) ≤ n = b (omega arith) in
    absurd (omega arith))
    (le-or-lt k 20)

-- a number below 2 ^ 32 has eight hexadecimal digits at most
pub salt-places : (k n : ℕ) → n < 2 ^ 32 → 8 ≤ k → (8 < k → 16 ^ (k - 1) ≤ n) → k ≡ 8
salt-places k n h a b =
    ⊎_elim (λ u. omega arith)
    (λ u.
    let p : 16 ^ 8 ≤ 16 ^ (k - 1) = pow-le-pow_right {n = 16} (omega arith) {i = 8} {j = k - 1} (omega arith) in
    let q : 16 ^ (k - 1) ≤ n = b u in
    absurd (omega arith))
    (le-or-lt k 8)

-- ---- adding digits

pub decimal-added : {m at : ℕ} {l xs after : List ℕ} {end : ℕ} (k n : ℕ) → k ≤ 20 → IsDigitCount 10 1 n k → xs ≡ last_digits 10 k n → Added m l at xs after end
    → Added 20 l at (decimal n) after end
decimal-added k n h f e a =
    let d : last_digits 10 k n ≡ decimal n = decimal-digits k n f.0 h f.1 f.2 in
    added-as a (e ∙ d) (rw (← d) (omega (arith, length_digits 10 k n)))

pub salt-added : {m at : ℕ} {l xs after : List ℕ} {end : ℕ} (k n : ℕ) → n < 2 ^ 32 → IsDigitCount 16 8 n k → xs ≡ last_digits 16 k n → Added m l at xs after end
    → Added 8 l at (last_digits 16 8 n) after end
salt-added k n h f e a =
    let p : k ≡ 8 = salt-places k n h f.0 f.2 in
    added-as a (rw p at e) (omega (arith, length_digits 16 8 n))
