-- Files, and stores as data: document 01, "Added by design". A commit or checkpoint is a list of these.
use Rattle.std.specs.Prelude.{Bool, List, [], ◌∷◌, ℕ, zero, suc, ◌+◌, ◌-◌, max, min, leb, ltb, length, take, replicate}
use Rattle.le.specs.Choice.{pick}
use Rattle.le.specs.Le.{put}
use Rattle.wal.specs.Header.{header_size}
use Rattle.wal.specs.Recovery.{wal_area}
use Rattle.pager_state.specs.World.{World, main_area_size}
use Rattle.pager_state.specs.declared.FileKind.{FileKind}
use Rattle.pager_state.specs.declared.FileKind.TheVariants as file
use Rattle.pager_state.specs.declared.Place.{Place}

-- ---- files

-- a file lies in an area; the bytes behind its length are stale
pub record File : Type 0 where
  pub area : List ℕ
  pub len : ℕ

pub record Disk : Type 0 where
  pub main : File
  pub log : File

abbrev pub content : File → List ℕ
content f = take f.len f.area

-- the open store's two files
abbrev pub disk_of : World → Disk
disk_of w =
    record {
      main = record { area = w.main; len = w.pager.storage.len };
      log = record { area = w.log; len = w.pager.wal.len };
    }

-- ---- stores

-- what the model is told of a store that is whole
pub data Kind : Type 0 where
  Batched CommitFrame Emptied Other : Kind

-- bytes at a place of a file, or a file's new length; the last is whether a flush follows
pub data Act : Type 0 where
  Put : Kind → FileKind → ℕ → List ℕ → Bool → Act
  SetLen : Kind → FileKind → ℕ → Bool → Act

abbrev pub kind_of : Act → Kind
kind_of (Put k f at bs flush) = k
kind_of (SetLen k f n flush) = k

-- "A .. length that grows brings zeros": the area of a file that is made n bytes long, if it is shorter
unfoldable pub grown : File → ℕ → List ℕ
grown f n = put f.area f.len (replicate (n - f.len) 0)

-- "A byte stored past a file's end lengthens it"
unfoldable pub put_file : File → ℕ → List ℕ → File
put_file f at bs = record { area = put (grown f at) at bs; len = max f.len (at + length bs) }

unfoldable pub len_file : File → ℕ → File
len_file f n = record { area = grown f n; len = n }

abbrev pub on_file : FileKind → (File → File) → Disk → Disk
on_file file.Log g d = record { main = d.main; log = g d.log }
on_file file.Main g d = record { main = g d.main; log = d.log }

-- the files after a whole store
abbrev pub stored : Act → Disk → Disk
stored (Put k f at bs flush) d = on_file f (λ (x : File). put_file x at bs) d
stored (SetLen k f n flush) d = on_file f (λ (x : File). len_file x n) d

unfoldable pub stored_all : List Act → Disk → Disk
stored_all [] d = d
stored_all (a ∷ acts) d = stored_all acts (stored a d)

-- "names its area, first byte, length (for a length store the new length, then 0) and whether a flush follows"
abbrev pub place_of : Act → Place
place_of (Put k f at bs flush) = record { file = f; at = at; len = length bs; flush = flush }
place_of (SetLen k f n flush) = record { file = f; at = n; len = 0; flush = flush }

-- it lies inside its area
abbrev pub area_of : FileKind → ℕ
area_of file.Log = wal_area
area_of file.Main = main_area_size

abbrev pub inside : Act → Bool
inside (Put k f at bs flush) = leb (at + length bs) (area_of f)
inside (SetLen k f n flush) = leb n (area_of f)

-- ---- cuts: "earlier stores are whole, later ones absent, the one cut has its first bytes new and the rest old, but a length, like a
-- file's first 32 bytes, is wholly old or new"

-- how many bytes a cut after k of them leaves of bytes stored at `at`
unfoldable pub reach : ℕ → List ℕ → ℕ → ℕ
reach at bs k = pick (ltb (at + min k (length bs)) header_size) 0 (min k (length bs))

-- n of the bytes stored
unfoldable pub put_front : File → ℕ → List ℕ → ℕ → File
put_front f at bs zero = f
put_front f at bs (suc n) = put_file f at (take (suc n) bs)

unfoldable pub len_cut : File → ℕ → ℕ → File
len_cut f n zero = f
len_cut f n (suc k) = len_file f n

-- a store of which k bytes are stored; of a length, none or any
abbrev pub cut_store : Act → ℕ → Disk → Disk
cut_store (Put k f at bs flush) n d = on_file f (λ (x : File). put_front x at bs (reach at bs n)) d
cut_store (SetLen k f m flush) n d = on_file f (λ (x : File). len_cut x m n) d

-- the bytes that a store counts for a cut
abbrev pub size_of : Act → ℕ
size_of (Put k f at bs flush) = length bs
size_of (SetLen k f n flush) = 1

-- j stores whole and k bytes of the next
unfoldable pub cut_all : List Act → ℕ → ℕ → Disk → Disk
cut_all [] j k d = d
cut_all (a ∷ acts) zero k d = cut_store a k d
cut_all (a ∷ acts) (suc j) k d = cut_all acts j k (stored a d)

-- and which stores are then whole
unfoldable pub whole_of : List Act → ℕ → ℕ → List Act
whole_of [] j k = []
whole_of (a ∷ acts) zero k = pick (leb (size_of a) k) (a ∷ []) []
whole_of (a ∷ acts) (suc j) k = a ∷ whole_of acts j k
