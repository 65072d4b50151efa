-- What the laws of steps ask of a store, beside refusal 1: true of every store that the calls make. Assumes nothing.
use mathlib.Core.Path.{◌≡◌}
use mathlib.Core.Bool.{Bool, true}
use mathlib.Core.List.{List}
use Prim.Native.Nat.{ℕ, ◌+◌, ◌≤◌, ◌<◌}
use borrow.Author.Tests.{eqb-true, leb-true, eq-eqb, le-leb}
use lib.Dec.{leb, eqb}
use lib.ListN.{length}
use Rattle.le.specs.Choice.{both}
use Rattle.le.proofs.Compare.{both_true}
use Rattle.frame.specs.Frame.{frame_size}
use Rattle.wal.specs.Header.{header_size}
use Rattle.wal.specs.Recovery.{wal_area}
use Rattle.pager_state.specs.World.{World, main_area_size, staging_area, staged_limit, page_limit, count_of, header_of, in_area, staging_fine, fine}
use Rattle.pager_state.specs.Overlay.{is_staged, frame_of, in_log}
use Rattle.pager_state.specs.Stores.{disk_of}
use Rattle.pager_state.specs.Steps.{step_fine}
use Rattle.pager_state.specs.declared.Job.{Job}
use Rattle.pager_state.specs.declared.Job.TheVariants as job
use Rattle.pager_state.proofs.Stored.{Areas}

-- ---- what refusal 1 tells

pub record Fine (w : World) : Type 0 where
  pub table : length w.table ≡ page_limit
  pub files : Areas (disk_of w)
  pub count : count_of (header_of w.pager) ≤ page_limit

pub fine-parts : (w : World) → fine w ≡ true → Fine w
unfolding fine
fine-parts w e =
    let l : Bool = in_area wal_area (length w.log) w.pager.wal.len in
    let m : Bool = in_area main_area_size (length w.main) w.pager.storage.len in
    let n : Bool = leb (count_of (header_of w.pager)) page_limit in
    let a = both_true (eqb (length w.table) page_limit) (both l (both m n)) e in
    let b = both_true l (both m n) a.1 in
    let c = both_true m n b.1 in
    let x = both_true (eqb (length w.log) wal_area) (leb w.pager.wal.len wal_area) b.0 in
    let y = both_true (eqb (length w.main) main_area_size) (leb w.pager.storage.len main_area_size) c.0 in
    record {
      table = eqb-true _ _ a.0;
      files = record {
        log = record { area = eqb-true _ _ x.0; len = leb-true _ _ x.1 };
        main = record { area = eqb-true _ _ y.0; len = leb-true _ _ y.1 };
      };
      count = leb-true _ _ c.1;
    }

pub fine-whole : (w : World) → Fine w → fine w ≡ true
unfolding fine
fine-whole w s =
    rw (
      eq-eqb (length w.table) page_limit s.table,
      eq-eqb (length w.log) wal_area s.files.log.area,
      le-leb w.pager.wal.len wal_area s.files.log.len,
      eq-eqb (length w.main) main_area_size s.files.main.area,
      le-leb w.pager.storage.len main_area_size s.files.main.len,
      le-leb (count_of (header_of w.pager)) page_limit s.count,
    )

-- ---- what the calls see to

-- of the pages that P names: the frames that the table names for them lie inside the log
abbrev pub PlacedOf : (ℕ → Bool) → World → Type 0
PlacedOf P w = (n : ℕ) → n < page_limit → P n ≡ true → in_log w.table n ≡ true → frame_of w.table n + frame_size ≤ w.pager.wal.len

-- P names all staged pages
abbrev pub Names : (ℕ → Bool) → World → Type 0
Names P w = (n : ℕ) → is_staged w.pager.staged n ≡ true → P n ≡ true

-- by the job: a commit's header can count; before a checkpoint's last store the log is emptied and the table's places are void
abbrev pub AsksOf : (ℕ → Bool) → Job → World → Type 0
AsksOf P job.Idle w = PlacedOf P w
AsksOf P (job.Commit h salt page answer) w = PlacedOf P w × (Names P w × (count_of h ≤ page_limit))
AsksOf P (job.Checkpoint salt page answer) w = PlacedOf P w
AsksOf P (job.MainLength salt answer) w = PlacedOf P w
AsksOf P (job.LogLength salt answer) w = PlacedOf P w
AsksOf P (job.LogHeader salt answer) w = w.pager.wal.len ≡ header_size

pub record MadeOf (P : ℕ → Bool) (w : World) : Type 0 where
  pub slots : length w.pager.staged.pages ≡ staged_limit
  pub asked : AsksOf P w.pager.job w

-- a store whose next step is not refused for its areas
pub record ReadyOf (P : ℕ → Bool) (g : List ℕ) (w : World) : Type 0 where
  pub right : step_fine g w ≡ true
  pub made : MadeOf P w

-- of every page: so are the stores that the calls make
abbrev pub every : ℕ → Bool
every n = true

abbrev pub Made : World → Type 0
Made w = MadeOf every w

abbrev pub Ready : List ℕ → World → Type 0
Ready g w = ReadyOf every g w

pub ready-fine : (g : List ℕ) (w : World) → step_fine g w ≡ true → Fine w × (length g ≡ staging_area)
ready-fine g w e =
    let a = both_true (fine w) (staging_fine g) e in
    (fine-parts w a.0, eqb-true (length g) staging_area a.1)

pub fine-ready : (g : List ℕ) (w : World) → Fine w → length g ≡ staging_area → step_fine g w ≡ true
fine-ready g w s e = rw (fine-whole w s, eq-eqb (length g) staging_area e)
