-- Laws of the bytes that a line stands for, and of drawing. Assumes nothing.
use mathlib.Core.Path.{◌≡◌, refl}
use mathlib.Core.List.{List, [], ◌∷◌}
use Prim.Native.Nat.{ℕ, zero, suc, ◌+◌, ◌*◌, ◌/◌, ◌^◌, ◌<◌}
use native.Mathlib.Nat.{zero-add}
use native.Mathlib.Numerals.{add-one}
use native.Mathlib.Omega.{arith}
use lib.ListN.{length, take, drop, take-append-drop, get_or, set, length-take}
use lib.Seq.{take-suc, take-suc-set, take-append_seam}
use Rattle.le.specs.Le.{put}
use Rattle.le.proofs.Stores.{put-more}
use Rattle.replay.specs.Cases.{digit_of, hex_bytes, Copied}
use Rattle.replay.specs.Drawn.{next_number, number_after, shape_of, drawn}

pub length-bytes : (l : List ℕ) → length (hex_bytes l) ≡ length l / 2
unfolding hex_bytes
length-bytes [] = refl
length-bytes (a ∷ []) = refl
length-bytes (a ∷ b ∷ l) = let r : length (hex_bytes l) ≡ length l / 2 = length-bytes l in omega arith

-- the byte of the i-th pair of digits
pub byte_at : (l : List ℕ) (i : ℕ) → 2 * i + 1 < length l → get_or (hex_bytes l) i 0 ≡ 16 * digit_of (get_or l (2 * i) 0) + digit_of (get_or l (2 * i + 1) 0)
unfolding hex_bytes
byte_at [] i h = absurd (omega arith)
byte_at (a ∷ []) i h = absurd (omega arith)
byte_at (a ∷ b ∷ l) zero h = refl
byte_at (a ∷ b ∷ l) (suc i) h =
    let e : 2 * suc i ≡ suc (suc (2 * i)) = omega arith in
    let f : 2 * suc i + 1 ≡ suc (suc (2 * i + 1)) = omega arith in
    rw (f, e) (byte_at l i (omega arith))

-- one byte more behind the first i
pub lay-more : (l xs : List ℕ) (i b : ℕ) → i < length l → i < length xs → b ≡ get_or xs i 0
    → set (put l 0 (take i xs)) i b ≡ put l 0 (take (i + 1) xs)
lay-more l xs i b h k e =
    let n : length (take i xs) ≡ i = rw length-take (omega arith) in
    let j : 0 + i < length l = omega arith in
    rw (add-one, take-suc xs i 0, e) (rw zero-add at (put-more i l 0 (take i xs) (get_or xs i 0) n j))

-- all that there is room for
fit : (m : ℕ) (xs : List ℕ) → take (length (take m xs)) xs ≡ take m xs
fit m xs = rw (take-append-drop m xs) at (take-append_seam (take m xs) (drop m xs))

pub laid : (l xs : List ℕ) (n : ℕ) {after : List ℕ} → n ≡ length (take (length l) xs) → after ≡ put l 0 (take n xs) → Copied xs l after n
laid l xs n e f = record { count = e; bytes = rw (e, fit (length l) xs) at f }

pub draw-next : (seed i : ℕ) {x y : ℕ} → x ≡ number_after seed i → y ≡ next_number x → y ≡ number_after seed (i + 1)
unfolding number_after
draw-next seed i e f = rw (add-one, ← e) f

pub draw-more : (l : List ℕ) (kind seed i : ℕ) {x b : ℕ} → i < length l → x ≡ number_after seed (i + 1) → b ≡ shape_of kind (x / 2 ^ 24)
    → take i l ≡ drawn kind seed i → take (i + 1) (set l i b) ≡ drawn kind seed (i + 1)
unfolding drawn
draw-more l kind seed i {x} {b} h e f d =
    let g : x ≡ number_after seed (suc i) = rw add-one at e in
    rw (add-one, ← g, ← f, ← d) (take-suc-set l i b h)
