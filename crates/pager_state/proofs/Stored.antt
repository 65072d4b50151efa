-- Laws of files and of lists of stores: what a store at a file's end leaves, areas that keep their lengths, a list of stores in two
-- parts, and cuts. Assumes nothing.
use mathlib.Core.Path.{◌≡◌, refl, ap, ◌∙◌}
use mathlib.Core.Bool.{true}
use mathlib.Core.List.{List, [], ◌∷◌, ◌++◌}
use Prim.Native.Nat.{ℕ, zero, suc, ◌+◌, ◌-◌, ◌≤◌}
use native.Mathlib.Omega.{arith}
use borrow.Author.Tests.{leb-true}
use lib.ListN.{length, take, drop, replicate, length-replicate}
use Rattle.le.specs.Le.{put}
use Rattle.le.proofs.Stores.{length-put, put-none}
use Rattle.wal.specs.Recovery.{wal_area}
use Rattle.pager_state.specs.World.{main_area_size}
use Rattle.pager_state.specs.Stores.{File, Disk, Act, Put, SetLen, grown, put_file, len_file, stored, stored_all, inside, cut_all, whole_of}
use Rattle.pager_state.specs.declared.FileKind.TheVariants as file

-- ---- one file

-- a file that is long enough doesn't grow
pub grown-none : (f : File) (n : ℕ) → n ≤ f.len → grown f n ≡ f.area
unfolding grown
grown-none f n h =
    let e : n - f.len ≡ 0 = omega arith in
    rw e (put-none f.area f.len)

-- bytes stored at a file's end
pub put-end : (f : File) (bs : List ℕ) → (put_file f f.len bs).area ≡ put f.area f.len bs
unfolding put_file
put-end f bs = rw (grown-none f f.len (omega arith))

pub length-grown : (f : File) (n : ℕ) → f.len ≤ length f.area → n ≤ length f.area → length (grown f n) ≡ length f.area
unfolding grown
length-grown f n h k =
    let z = length-replicate {A = ℕ} (n - f.len) 0 in
    length-put f.area f.len (replicate (n - f.len) 0) (omega (arith, z))

-- a file that lies in an area of n bytes
pub record Lies (n : ℕ) (f : File) : Type 0 where
  pub area : length f.area ≡ n
  pub len : f.len ≤ n

pub put-lies : (n : ℕ) (f : File) (at : ℕ) (bs : List ℕ) → at + length bs ≤ n → Lies n f → Lies n (put_file f at bs)
unfolding put_file
put-lies n f at bs h s =
    let g : length (grown f at) ≡ n = length-grown f at (omega (arith, s.area, s.len)) (omega (arith, s.area)) ∙ s.area in
    record { area = length-put (grown f at) at bs (omega (arith, g)) ∙ g; len = omega (arith, s.len) }

pub len-lies : (n : ℕ) (f : File) (m : ℕ) → m ≤ n → Lies n f → Lies n (len_file f m)
unfolding len_file
len-lies n f m h s =
    record { area = length-grown f m (omega (arith, s.area, s.len)) (omega (arith, s.area)) ∙ s.area; len = h }

-- ---- both files

-- each lies in its area
pub record Areas (d : Disk) : Type 0 where
  pub log : Lies wal_area d.log
  pub main : Lies main_area_size d.main

-- a store inside its area leaves them there
pub stored-areas : (a : Act) (d : Disk) → inside a ≡ true → Areas d → Areas (stored a d)
stored-areas (Put k file.Log at bs flush) d e s = record { log = put-lies wal_area d.log at bs (leb-true _ _ e) s.log; main = s.main }
stored-areas (Put k file.Main at bs flush) d e s = record { log = s.log; main = put-lies main_area_size d.main at bs (leb-true _ _ e) s.main }
stored-areas (SetLen k file.Log n flush) d e s = record { log = len-lies wal_area d.log n (leb-true _ _ e) s.log; main = s.main }
stored-areas (SetLen k file.Main n flush) d e s = record { log = s.log; main = len-lies main_area_size d.main n (leb-true _ _ e) s.main }

-- ---- lists of stores

-- every one lies inside its area
abbrev pub AllInside : List Act → Type 0
AllInside [] = Unit {0}
AllInside (a ∷ acts) = (inside a ≡ true) × AllInside acts

pub all-areas : (acts : List Act) (d : Disk) → AllInside acts → Areas d → Areas (stored_all acts d)
unfolding stored_all
all-areas [] d h s = s
all-areas (a ∷ acts) d h s = all-areas acts (stored a d) h.1 (stored-areas a d h.0 s)

pub all_take : (k : ℕ) (acts : List Act) → AllInside acts → AllInside (take k acts)
all_take zero acts h = tt
all_take (suc k) [] h = tt
all_take (suc k) (a ∷ acts) h = (h.0, all_take k acts h.1)

pub all_drop : (k : ℕ) (acts : List Act) → AllInside acts → AllInside (drop k acts)
all_drop zero acts h = h
all_drop (suc k) [] h = tt
all_drop (suc k) (a ∷ acts) h = all_drop k acts h.1

-- the stores of two lists, one behind the other
pub stored-append : (acts more : List Act) (d : Disk) → stored_all (acts ++ more) d ≡ stored_all more (stored_all acts d)
unfolding stored_all
stored-append [] more d = refl
stored-append (a ∷ acts) more d = stored-append acts more (stored a d)

-- ---- cuts

-- j stores whole, and a cut in the first of the others
pub cut-split : (acts : List Act) (j k : ℕ) (d : Disk) → cut_all acts j k d ≡ cut_all (drop j acts) 0 k (stored_all (take j acts) d)
unfolding cut_all stored_all
cut-split [] zero k d = refl
cut-split [] (suc j) k d = refl
cut-split (a ∷ acts) zero k d = refl
cut-split (a ∷ acts) (suc j) k d = cut-split acts j k (stored a d)

-- a cut in the first store sees no other
pub cut-first : (acts : List Act) (k : ℕ) (d : Disk) → cut_all acts 0 k d ≡ cut_all (take 1 acts) 0 k d
unfolding cut_all
cut-first [] k d = refl
cut-first (a ∷ acts) k d = refl

pub whole_split : (acts : List Act) (j k : ℕ) → whole_of acts j k ≡ take j acts ++ whole_of (drop j acts) 0 k
unfolding whole_of
whole_split [] zero k = refl
whole_split [] (suc j) k = refl
whole_split (a ∷ acts) zero k = refl
whole_split (a ∷ acts) (suc j) k = ap (λ (l : List Act). a ∷ l) (whole_split acts j k)

pub whole-first : (acts : List Act) (k : ℕ) → whole_of acts 0 k ≡ whole_of (take 1 acts) 0 k
unfolding whole_of
whole-first [] k = refl
whole-first (a ∷ acts) k = refl
