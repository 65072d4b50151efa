-- No step is refused on the way: the stores of a commit or checkpoint that was begun lie inside their areas. Assumes nothing.
use mathlib.Core.Path.{◌≡◌, refl}
use mathlib.Core.Bool.{Bool}
use mathlib.Core.List.{List, [], ◌∷◌}
use Prim.Native.Nat.{ℕ, ◌+◌, ◌*◌, ◌≤◌}
use native.Mathlib.Omega.{arith}
use borrow.Author.Tests.{le-leb}
use lib.ListN.{length}
use Rattle.header.specs.Header.{encode_header}
use Rattle.header.specs.declared.DbHeader.{DbHeader}
use Rattle.header.proofs.Encoding.{length-encode_header}
use Rattle.frame.specs.Frame.{frame_size, encode_frame}
use Rattle.wal.specs.Header.{encode_wal_header}
use Rattle.wal.specs.Recovery.{wal_area}
use Rattle.wal.proofs.Encoding.{length-encode_wal_header}
use Rattle.pager_state.specs.World.{World, main_area_size, page_limit, count_of, header_of}
use Rattle.pager_state.specs.Overlay.{staged_bytes, log_bytes, main_at}
use Rattle.pager_state.specs.Pages.{pages_from, in_checkpoint}
use Rattle.pager_state.specs.Checkpoint.{next_header, page_stored, main_header_stored, main_length_stored, log_length_stored, pages_todo, length_todo, empty_todo, header_todo, checkpoint_todo}
use Rattle.pager_state.specs.Commit.{salt_of, page_frame_stored, committed_pager, committed_world, frames_todo}
use Rattle.pager_state.specs.declared.Job.{Job}
use Rattle.pager_state.specs.declared.Job.TheVariants as job
use Rattle.pager_state.proofs.Searches.{Each, pages-each}
use Rattle.pager_state.proofs.Stored.{AllInside}
use Rattle.pager_state.proofs.Sizes.{staged-most, log-most, frame-most, commit-frame-size, frame-len}

-- ---- a checkpoint

header-inside : (salt : ℕ) (w : World) → AllInside (header_todo salt w)
header-inside salt w =
    let s = length-encode_wal_header (next_header w salt) in
    (le-leb (0 + length (encode_wal_header (next_header w salt))) wal_area (omega arith), tt)

empty-inside : (salt answer : ℕ) (w : World) → AllInside (empty_todo salt answer w)
empty-inside salt answer w = (refl, header-inside salt (log_length_stored salt answer w))

length-inside : (salt answer : ℕ) (w : World) → count_of (header_of w.pager) ≤ page_limit → AllInside (length_todo salt answer w)
length-inside salt answer w c =
    (le-leb (4096 * count_of (header_of w.pager)) main_area_size (omega arith), empty-inside salt answer (main_length_stored salt answer w))

headed-count : (salt answer : ℕ) (w : World) → count_of (header_of (main_header_stored salt answer w).pager) ≡ count_of (header_of w.pager)
unfolding main_header_stored
headed-count salt answer w = refl

paged-count : (salt answer n : ℕ) (w : World) → count_of (header_of (page_stored salt answer n w).pager) ≡ count_of (header_of w.pager)
unfolding page_stored
paged-count salt answer n w = refl

pages-inside : (f : ℕ → Bool) (salt answer : ℕ) (ns : List ℕ) (w : World) → Each f ns → count_of (header_of w.pager) ≤ page_limit
    → AllInside (pages_todo salt answer ns w)
unfolding pages_todo
pages-inside f salt answer [] w e c =
    let s = length-encode_header (header_of w.pager) in
    (le-leb (0 + length (encode_header (header_of w.pager))) main_area_size (omega arith), length-inside salt answer (main_header_stored salt answer w) (rw (headed-count salt answer w) c))
pages-inside f salt answer (n ∷ ns) w e c =
    let s = log-most w.table w.log n in (
      le-leb (main_at n + length (log_bytes w.table w.log n)) main_area_size (omega (arith, e.1.0)),
      pages-inside f salt answer ns (page_stored salt answer n w) e.1.1 (rw (paged-count salt answer n w) c),
    )

-- any checkpoint that is part done
pub checkpoint-stores-inside : (j : Job) (w : World) → count_of (header_of w.pager) ≤ page_limit → AllInside (checkpoint_todo j w)
unfolding checkpoint_todo
checkpoint-stores-inside job.Idle w c = tt
checkpoint-stores-inside (job.Commit h salt page answer) w c = tt
checkpoint-stores-inside (job.Checkpoint salt page answer) w c = pages-inside (in_checkpoint w) salt answer (pages_from (in_checkpoint w) page) w (pages-each (in_checkpoint w) page) c
checkpoint-stores-inside (job.MainLength salt answer) w c = length-inside salt answer w c
checkpoint-stores-inside (job.LogLength salt answer) w c = empty-inside salt answer w
checkpoint-stores-inside (job.LogHeader salt answer) w c = header-inside salt w

-- ---- a commit

committed-count : (h : DbHeader) (salt answer : ℕ) (w : World) → count_of (header_of (committed_world h salt answer w).pager) ≡ count_of h
unfolding committed_world committed_pager
committed-count h salt answer w = refl

framed-len : (g : List ℕ) (h : DbHeader) (salt answer n : ℕ) (w : World) → (page_frame_stored g h salt answer n w).pager.wal.len ≡ w.pager.wal.len + 4112
unfolding page_frame_stored
framed-len g h salt answer n w = frame-len w.pager.wal 0

-- the frames of these pages, the commit frame and the checkpoint that it brings on, where there is room for the frames
pub frames-inside : (g : List ℕ) (h : DbHeader) (salt answer : ℕ) (ns : List ℕ) (w : World) → count_of h ≤ page_limit
    → w.pager.wal.len + frame_size * (length ns + 1) ≤ wal_area → AllInside (frames_todo g h salt answer ns w)
unfolding frames_todo
frames-inside g h salt answer [] w c r =
    let s = commit-frame-size h (count_of h) (salt_of w) in (
      le-leb (w.pager.wal.len + length (encode_frame 0 (count_of h) (salt_of w) (encode_header h))) wal_area (omega arith),
      checkpoint-stores-inside (committed_world h salt answer w).pager.job (committed_world h salt answer w) (rw (committed-count h salt answer w) c),
    )
frames-inside g h salt answer (n ∷ ns) w c r =
    let s = frame-most n 0 (salt_of w) (staged_bytes w.pager.staged g n) (staged-most w.pager.staged g n) in
    let l = framed-len g h salt answer n w in (
      le-leb (w.pager.wal.len + length (encode_frame n 0 (salt_of w) (staged_bytes w.pager.staged g n))) wal_area (omega arith),
      frames-inside g h salt answer ns (page_frame_stored g h salt answer n w) c (omega arith),
    )
