-- A checkpoint's step that sets the log's length: the main file alone is then the model's. Assumes nothing.
use mathlib.Core.Path.{◌≡◌, refl, sym, ap, ◌∙◌}
use mathlib.Core.List.{List, [], ◌∷◌, ◌++◌}
use Prim.Native.Nat.{ℕ, zero, suc, ◌*◌, ◌≤◌, ◌<◌}
use native.Mathlib.Omega.{arith}
use lib.ListN.{take}
use lib.Seq.{take-take, take_at}
use Rattle.std.specs.Prelude.{Some, Ok}
use Rattle.page.specs.Page.{page_size}
use Rattle.header.specs.declared.DbHeader.{DbHeader}
use Rattle.mvcc.specs.Batch.{Each}
use Rattle.wal.specs.Header.{header_size, encode_wal_header}
use Rattle.wal.specs.Recovery.{last_count, batches_in}
use Rattle.wal.specs.Write.{empty_wal}
use Rattle.wal.specs.declared.WalHeader.{WalHeader}
use Rattle.wal.proofs.Encoding.{length-encode_wal_header}
use Rattle.wal.proofs.Laid.{joined}
use Rattle.pager_state.specs.World.{World, count_of}
use Rattle.pager_state.specs.Overlay.{page_from}
use Rattle.pager_state.specs.Opening.{place_from}
use Rattle.pager_state.specs.Stores.{content, disk_of, stored, cut_store, len_file, len_cut}
use Rattle.pager_state.specs.Checkpoint.{log_length_act, log_length_stored, header_todo, checkpoint_todo, checkpoint_advance}
use Rattle.pager_state.specs.Commit.{commit_todo, commit_advance}
use Rattle.pager_state.specs.Steps.{todo, advance}
use Rattle.pager_state.specs.declared.Job.TheVariants as job
use Rattle.pager_state.proofs.Next.{todo-by, advance-by}
use Rattle.history.specs.Model.{Model, model_empty}
use Rattle.history.proofs.Files.{lasting, same-file, len-file}
use Rattle.history.proofs.Disk.{header_over, ModelIs, OnDisk, DiskOk, log-alone, log-len}
use Rattle.history.proofs.Rest.{Held, Flattened, Bared, ForSome, step-fine, held-disk}
use Rattle.history.proofs.Stepping.{StepOk}
use Rattle.history.proofs.CheckpointHeader.{has-true}

-- ---- the log's length

-- without frames the model is the main file's, where that has every page
bare-model : {m : List ℕ} {b : Model} {S : List (List ℕ)} {mh : DbHeader} → ModelIs m b S mh → mh ≡ b.header
    → ((n : ℕ) → 1 ≤ n → n < count_of b.header → b.pages n ≡ Some (page_from (page_size * n) m)) → ModelIs m (model_empty b) [] mh
unfolding header_over place_from last_count batches_in Each
bare-model {m} {b} {S} {mh} o own flat =
    record {
      top = ap Ok own;
      plain = o.plain;
      least = o.least;
      most = o.most;
      pages = λ n n1 n2. let q : count_of mh ≡ count_of b.header = ap count_of own in let n3 : n < count_of mh = omega arith in rw (has-true mh n n1 n3) (sym (flat n n1 n2));
      there = o.there;
      above = o.above;
      batches = refl;
      times = tt;
    }

pub empty-len : (h : WalHeader) → (empty_wal h).len ≡ header_size
unfolding empty_wal
empty-len h = refl

pub empty-header : (h : WalHeader) → (empty_wal h).header ≡ h
unfolding empty_wal
empty-header h = refl

module _ (g : List ℕ) (w : World) (b : Model) (z : List ℕ) (salt answer : ℕ) (job_is : w.pager.job ≡ job.LogLength salt answer) (k : ForSome (Flattened salt w g b) z) where
  abbrev c : Flattened salt w g b k.l k.S k.P k.mh
  c = k.it

  abbrev o : OnDisk (disk_of w) b k.l k.S k.P [] k.mh
  o = k.it.held.on

  within : header_size ≤ w.pager.wal.len
  within = omega (arith, log-len o)

  stored_is : stored log_length_act (disk_of w) ≡ record { main = (disk_of w).main; log = lasting (disk_of w).log header_size }
  stored_is = rw (len-file (disk_of w).log header_size within)

  abbrev v : World
  v = log_length_stored salt answer w

  disk-is : disk_of v ≡ stored log_length_act (disk_of w)
  unfolding log_length_stored len_file
  disk-is =
      λ i. record { main = (disk_of w).main; log = same-file {f = record { area = (stored log_length_act (disk_of w)).log.area; len = (empty_wal w.pager.wal.header).len }} {g = (stored log_length_act (disk_of w)).log} refl (empty-len w.pager.wal.header) i }

  alone : content (lasting (disk_of w).log header_size) ≡ encode_wal_header k.l
  alone =
      sym (take-take header_size w.pager.wal.len w.log within)
      ∙ ap (take header_size) o.log.bytes ∙ take_at (encode_wal_header k.l) (joined (k.S ++ k.P) ++ []) header_size (length-encode_wal_header k.l)

  on-after : OnDisk (disk_of v) (model_empty b) k.l [] [] [] k.mh
  on-after =
      rw (disk-is, stored_is) (record {
        log = log-alone (lasting (disk_of w).log header_size) k.l o.log.written alone o.log.area (omega arith);
        main = o.main;
        model = bare-model o.model c.own c.flat;
      })

  held_after : Held v g (model_empty b) k.l [] [] k.mh
  unfolding log_length_stored batches_in
  held_after =
      let q = c.held in
      record {
        on = on-after;
        table_long = q.table_long;
        staging_long = q.staging_long;
        salt = ap (λ (h : WalHeader). h.salt) (empty-header w.pager.wal.header) ∙ q.salt;
        older = rw (empty-header w.pager.wal.header) q.older;
        clock = rw (empty-header w.pager.wal.header) q.clock;
        header = q.header;
        clean = q.clean;
        slots = q.slots;
        staged = q.staged;
        waiting = refl;
      }

  after-ok : Bared salt v g (model_empty b) k.l [] [] k.mh
  unfolding log_length_stored
  after-ok = record { held = held_after; own = c.own; none_committed = refl; no_waiting = refl; full = c.full; fits = c.fits }

  cut_ok : (j : ℕ) → j < 1 → DiskOk (cut_store log_length_act j (disk_of w)) b z
  unfolding len_cut
  cut_ok zero h = held-disk c.held k.kept
  cut_ok (suc j) h = absurd (omega arith)

  todo-is : todo g w ≡ log_length_act ∷ header_todo salt v
  unfolding commit_todo checkpoint_todo
  todo-is = todo-by g w (job.LogLength salt answer) job_is

  left_is : todo g v ≡ header_todo salt v
  unfolding commit_todo checkpoint_todo log_length_stored
  left_is = todo-by g v (job.LogHeader salt answer) refl

  next-is : advance g w ≡ v
  unfolding commit_advance checkpoint_advance
  next-is = advance-by g w (job.LogLength salt answer) job_is

  pub empty-step : StepOk g w b z
  unfolding log_length_stored joined
  empty-step =
      record {
        act = log_length_act;
        rest = header_todo salt v;
        next = v;
        todo_is = todo-is;
        next_is = next-is;
        lies = refl;
        covers = tt;
        fine = step-fine c.held;
        disk = disk-is;
        left = left_is;
        after = record { l = k.l; S = []; P = []; mh = k.mh; it = after-ok; kept = refl };
        cut = cut_ok;
      }
