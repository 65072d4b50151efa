-- Lengths: what is staged for a page, its frame, a commit frame, the log once a frame or none stands in it. Assumes nothing.
use mathlib.Core.Path.{◌≡◌, refl, sym}
use mathlib.Core.Bool.{Bool, true, false}
use mathlib.Core.List.{List}
use Prim.Native.Nat.{ℕ, ◌+◌, ◌≤◌, ◌<◌}
use native.Mathlib.Omega.{arith}
use borrow.Author.Tests.{ltb-true}
use lib.Dec.{eqb}
use lib.ListN.{length, length-append, length-take, length-drop}
use Rattle.le.specs.Choice.{both}
use Rattle.le.proofs.Compare.{no_test}
use Rattle.le.proofs.Fields.{length-le_bytes}
use Rattle.header.specs.Header.{encode_header}
use Rattle.header.specs.declared.DbHeader.{DbHeader}
use Rattle.header.proofs.Encoding.{length-encode_header}
use Rattle.frame.specs.Frame.{encode_frame}
use Rattle.frame.proofs.Stores.{length-heading, length-encode_frame}
use Rattle.wal.specs.Recovery.{wal_area}
use Rattle.wal.specs.Write.{longer, empty_wal, with_frame}
use Rattle.wal.specs.declared.WalHeader.{WalHeader}
use Rattle.wal.specs.declared.Wal.{Wal}
use Rattle.pager_state.specs.World.{page_limit, main_area_size, staged_limit, staging_area, in_area, files_fine}
use Rattle.pager_state.specs.Overlay.{page_from, staged_pages, slot_of, is_staged, staged_at, staged_bytes, log_at, log_bytes}
use Rattle.pager_state.specs.declared.Staged.{Staged}

pub both_right : (b : Bool) → both b true ≡ b
both_right true = refl
both_right false = refl

-- what is judged besides counts just where the files are fine
all-not : (a b c d : Bool) → both a (both b (both c true)) ≡ false → false ≡ both a (both b (both c d))
all-not true true true d e = no_test (sym e)
all-not true true false d e = refl
all-not true false c d e = refl
all-not false b c d e = refl

all_are : (a b c d : Bool) → both a (both b (both c true)) ≡ true → d ≡ both a (both b (both c d))
all_are true true true d e = refl
all_are true true false d e = no_test e
all_are true false c d e = no_test e
all_are false b c d e = no_test e

module _ (t la l ma m : ℕ) (d : Bool) where
  pub files-not : files_fine t la l ma m true ≡ false → false ≡ files_fine t la l ma m d
  files-not e = all-not (eqb t page_limit) (in_area wal_area la l) (in_area main_area_size ma m) d e

  pub files-are : files_fine t la l ma m true ≡ true → d ≡ files_fine t la l ma m d
  files-are e = all_are (eqb t page_limit) (in_area wal_area la l) (in_area main_area_size ma m) d e

-- ---- staged pages

-- a staged page's slot is one that there is
pub staged-slot : (s : Staged) (n : ℕ) → length s.pages ≡ staged_limit → is_staged s n ≡ true → slot_of s n < staged_limit
unfolding is_staged
staged-slot s n h e =
    let k = ltb-true (slot_of s n) (length (staged_pages s)) e in
    omega (arith, k, length-take s.count s.pages)

-- a page's length from a place on is no more than that
pub page-most : (at : ℕ) (l : List ℕ) → length (page_from at l) ≤ 4096
page-most at l = simp length-take (omega arith)

pub staged-size : (s : Staged) (g : List ℕ) (n : ℕ) → length s.pages ≡ staged_limit → length g ≡ staging_area → is_staged s n ≡ true
    → length (staged_bytes s g n) ≡ 4096
unfolding staged_bytes
staged-size s g n h k e =
    let i = staged-slot s n h e in
    simp (length-take, length-drop) (omega arith)

pub staged-most : (s : Staged) (g : List ℕ) (n : ℕ) → length (staged_bytes s g n) ≤ 4096
unfolding staged_bytes
staged-most s g n = page-most (staged_at s n) g

pub log-most : (t l : List ℕ) (n : ℕ) → length (log_bytes t l n) ≤ 4096
unfolding log_bytes
log-most t l n = page-most (log_at t n) l

-- ---- frames

-- of no more than a page's bytes
pub frame-most : (page count salt : ℕ) (body : List ℕ) → length body ≤ 4096 → length (encode_frame page count salt body) ≤ 4112
unfolding encode_frame
frame-most page count salt body h = simp (length-append, length-le_bytes, length-heading) (omega arith)

pub commit-frame-size : (h : DbHeader) (count salt : ℕ) → length (encode_frame 0 count salt (encode_header h)) ≡ 4112
commit-frame-size h count salt = length-encode_frame 0 count salt (encode_header h) (length-encode_header h)

-- ---- the log's numbers

pub frame-len : (v : Wal) (count : ℕ) → (with_frame v count).len ≡ v.len + 4112
unfolding longer
frame-len v count = refl

pub empty-len : (h : WalHeader) → (empty_wal h).len ≡ 32
unfolding empty_wal
empty-len h = refl
