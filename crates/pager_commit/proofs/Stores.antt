-- A frame and the commit frame, stored at the log's length. Assumes nothing.
use mathlib.Core.Path.{◌≡◌, ◌∙◌}
use mathlib.Core.Bool.{true}
use mathlib.Core.List.{List}
use Prim.Native.Nat.{ℕ, ◌+◌, ◌*◌, ◌≤◌, ◌<◌}
use native.Mathlib.Omega.{arith}
use borrow.Author.Tests.{eq-eqb, le-leb, leb-true}
use lib.ListN.{length, length-take, length-drop}
use Rattle.std.specs.Prelude.{Err, Ok, Result}
use Rattle.le.specs.Le.{put}
use Rattle.le.proofs.Stores.{store-put}
use Rattle.page.specs.Page.{page_size, front_page}
use Rattle.refusal.specs.declared.Refusal.{Refusal}
use Rattle.header.specs.Header.{header_fields, encode_header}
use Rattle.header.specs.declared.DbHeader.{DbHeader}
use Rattle.header.proofs.Encoding.{length-header_fields, length-encode_header}
use Rattle.frame.specs.Frame.{frame_size, encode_frame, frame_after}
use Rattle.frame.proofs.Stores.{length-encode_frame, length-padded}
use Rattle.wal.specs.Recovery.{wal_area}
use Rattle.wal.specs.Write.{with_frame, has_room, append_frame_answer, append_frame_after}
use Rattle.wal.specs.declared.Wal.{Wal}
use Rattle.pager_state.specs.World.{staged_limit, staging_area, count_of}
use Rattle.pager_state.specs.Overlay.{page_from}
use Rattle.pager_differing.specs.declared.Slot.{Slot}
use Rattle.pager_commit.specs.Parts.{slot_frame, commit_frame_bytes}

-- ---- their lengths

-- a slot holds a page
pub body-size : (g : List ℕ) (index : ℕ) → length g ≡ staging_area → index < staged_limit → length (page_from (page_size * index) g) ≡ page_size
body-size g index n h = simp (length-take, length-drop) (omega arith)

pub slot-size : (v : Wal) (s : Slot) (g : List ℕ) → length g ≡ staging_area → s.index < staged_limit → length (slot_frame v s g) ≡ frame_size
slot-size v s g n h = length-encode_frame s.page 0 v.header.salt (page_from (page_size * s.index) g) (body-size g s.index n h)

pub commit-frame-size : (v : Wal) (h : DbHeader) → length (commit_frame_bytes v h) ≡ frame_size
commit-frame-size v h = length-encode_frame 0 (count_of h) v.header.salt (encode_header h) (length-encode_header h)

-- ---- what is stored where there is room

pub room-is : (v : Wal) → has_room v ≡ true → v.len + frame_size ≤ wal_area
room-is v o = leb-true _ _ o

-- a page's frame
pub frame-stored : (l : List ℕ) (v : Wal) (q : ℕ) (body : List ℕ) → length l ≡ wal_area → length body ≡ page_size → has_room v ≡ true
    → frame_after l v.len q 0 v.header.salt body ≡ put l v.len (encode_frame q 0 v.header.salt body)
unfolding frame_after
frame-stored l v q body n b o =
    let j : v.len + length (encode_frame q 0 v.header.salt body) ≤ length l =
    rw (length-encode_frame q 0 v.header.salt body b) (omega (arith, room-is v o, n)) in
    rw (eq-eqb (length body) page_size b) (store-put l v.len (encode_frame q 0 v.header.salt body) j)

-- the commit frame: a page of the header's fields and zeros is the header's page
pub commit-frame-stored : (l : List ℕ) (v : Wal) (h : DbHeader) {x y : List ℕ} {r : (Result Wal Refusal)} → length l ≡ wal_area → has_room v ≡ true → x ≡ header_fields h
    → r ≡ append_frame_answer l v 0 (front_page x) (count_of h) → y ≡ append_frame_after l v 0 (front_page x) (count_of h)
    → (r ≡ Ok (with_frame v (count_of h))) × (y ≡ put l v.len (commit_frame_bytes v h))
unfolding append_frame_answer append_frame_after encode_header
commit-frame-stored l v h n t e a b =
    let z : length (front_page (header_fields h)) ≡ page_size = length-padded (header_fields h) (length-header_fields h) in
    let f : v.len ≤ wal_area = omega (arith, room-is v t) in
    (a ∙ rw (e, eq-eqb _ _ z, eq-eqb _ _ n, le-leb _ _ f, t), b ∙ rw (e, eq-eqb _ _ z, eq-eqb _ _ n, le-leb _ _ f, t))
