-- A checkpoint's step that sets the main file's length. Assumes nothing.
use mathlib.Core.Path.{◌≡◌, refl, ap, ◌∙◌}
use mathlib.Core.List.{List, [], ◌∷◌}
use Prim.Native.Nat.{ℕ, zero, suc, ◌*◌, ◌≤◌, ◌<◌}
use native.Mathlib.Omega.{arith}
use borrow.Author.Tests.{le-leb}
use Rattle.page.specs.Page.{page_size}
use Rattle.header.specs.declared.DbHeader.{DbHeader}
use Rattle.pager_state.specs.World.{World, main_area_size, count_of, header_of}
use Rattle.pager_state.specs.Stores.{Disk, disk_of, stored, cut_store, len_cut}
use Rattle.pager_state.specs.Checkpoint.{main_length_act, main_length_stored, empty_todo, checkpoint_todo, checkpoint_advance}
use Rattle.pager_state.specs.Commit.{commit_todo, commit_advance}
use Rattle.pager_state.specs.Steps.{todo, advance}
use Rattle.pager_state.specs.declared.Job.TheVariants as job
use Rattle.pager_state.proofs.Next.{todo-by, advance-by}
use Rattle.history.specs.Model.{Model}
use Rattle.history.proofs.Files.{lasting, len-file}
use Rattle.history.proofs.Disk.{OnDisk, DiskOk}
use Rattle.history.proofs.Rest.{Held, Flattened, ForSome, step-fine, held-disk, held-stored}
use Rattle.history.proofs.Stepping.{StepOk}

-- ---- the main length

module _ (g : List ℕ) (w : World) (b : Model) (z : List ℕ) (salt answer : ℕ) (job_is : w.pager.job ≡ job.MainLength salt answer) (k : ForSome (Flattened salt w g b) z) where
  abbrev c : Flattened salt w g b k.l k.S k.P k.mh
  c = k.it

  abbrev o : OnDisk (disk_of w) b k.l k.S k.P [] k.mh
  o = k.it.held.on

  abbrev size : ℕ
  size = page_size * count_of (header_of w.pager)

  size_is : size ≡ page_size * count_of b.header
  size_is = ap (λ (h : DbHeader). page_size * count_of h) c.held.header

  within : size ≤ w.pager.storage.len
  within = omega (arith, size_is, o.main.has, ap count_of c.own)

  stored_is : stored (main_length_act w) (disk_of w) ≡ record { main = lasting (disk_of w).main size; log = (disk_of w).log }
  stored_is = rw (len-file (disk_of w).main size within)

  abbrev v : World
  v = main_length_stored salt answer w

  disk-is : disk_of v ≡ stored (main_length_act w) (disk_of w)
  unfolding main_length_stored
  disk-is = refl

  on-after : OnDisk (disk_of v) b k.l k.S k.P [] k.mh
  on-after =
      let n : count_of k.mh ≡ count_of b.header = ap count_of c.own in
      rw (disk-is, stored_is) (record {
        log = o.log;
        main =
            record {
              area = o.main.area;
              fits = omega (arith, within, o.main.fits);
              long = omega (arith, size_is, o.model.least);
              has = omega (arith, size_is, n);
              head = o.main.head;
            };
        model = o.model;
      })

  main-after : v.main ≡ w.main
  main-after = ap (λ (d : Disk). d.main.area) (disk-is ∙ stored_is)

  held_after : Held v g b k.l k.S k.P k.mh
  unfolding main_length_stored
  held_after = held-stored c.held (stored (main_length_act w) (disk_of w)) w.pager.storage.header (job.LogLength salt answer) k.mh on-after

  after-ok : Flattened salt v g b k.l k.S k.P k.mh
  unfolding main_length_stored
  after-ok =
      record { held = held_after; own = c.own; flat = λ n h1 h2. rw main-after (c.flat n h1 h2); full = c.full; fits = c.fits }

  cut_ok : (j : ℕ) → j < 1 → DiskOk (cut_store (main_length_act w) j (disk_of w)) b z
  unfolding len_cut
  cut_ok zero h = held-disk c.held k.kept
  cut_ok (suc j) h = absurd (omega arith)

  todo-is : todo g w ≡ main_length_act w ∷ empty_todo salt answer v
  unfolding commit_todo checkpoint_todo
  todo-is = todo-by g w (job.MainLength salt answer) job_is

  left_is : todo g v ≡ empty_todo salt answer v
  unfolding commit_todo checkpoint_todo main_length_stored
  left_is = todo-by g v (job.LogLength salt answer) refl

  next-is : advance g w ≡ v
  unfolding commit_advance checkpoint_advance
  next-is = advance-by g w (job.MainLength salt answer) job_is

  pub length-step : StepOk g w b z
  unfolding main_length_stored
  length-step =
      record {
        act = main_length_act w;
        rest = empty_todo salt answer v;
        next = v;
        todo_is = todo-is;
        next_is = next-is;
        lies = le-leb size main_area_size (omega (arith, size_is, o.model.most));
        covers = tt;
        fine = step-fine c.held;
        disk = disk-is;
        left = left_is;
        after = record { l = k.l; S = k.S; P = k.P; mh = k.mh; it = after-ok; kept = k.kept };
        cut = cut_ok;
      }
