-- A checkpoint's last step, that stores the log's new header: the store is at rest again. Assumes nothing.
use mathlib.Core.Path.{◌≡◌, refl, sym, ap, ◌∙◌}
use mathlib.Core.List.{List, [], ◌∷◌, ◌++◌}
use mathlib.Core.Logic.{◌⊎◌, inl, inr}
use Prim.Native.Nat.{ℕ, zero, suc, ◌+◌, max, ◌≤◌, ◌<◌}
use native.Mathlib.Nat.{zero-add}
use native.Mathlib.Omega.{arith}
use borrow.Author.Tests.{le-leb, lt-leb, lt-ltb, le-ltb, ne_eqb}
use lib.ListN.{length, get_or}
use Rattle.le.specs.Le.{put}
use Rattle.le.proofs.Tests.{le-or-lt, eq-or-not}
use Rattle.le.proofs.Stores.{length-put, part-put}
use Rattle.header.specs.declared.DbHeader.{DbHeader}
use Rattle.wal.specs.Header.{header_size, encode_wal_header}
use Rattle.wal.specs.Recovery.{batches_in, wal_area}
use Rattle.wal.specs.Write.{empty_wal}
use Rattle.wal.specs.declared.WalHeader.{WalHeader}
use Rattle.wal.proofs.Encoding.{length-encode_wal_header}
use Rattle.wal.proofs.HeaderRoundTrip.{Written}
use Rattle.wal.proofs.Laid.{joined}
use Rattle.wal.proofs.Writing.{truncated-written}
use Rattle.pager_state.specs.World.{World, count_of, header_of}
use Rattle.pager_state.specs.Overlay.{entry}
use Rattle.pager_state.specs.Opening.{place_from, has_page}
use Rattle.pager_state.specs.Stores.{content, disk_of, stored, cut_store, put_file, put_front}
use Rattle.pager_state.specs.Checkpoint.{checkpointed_entry, checkpointed_from, next_header, log_header_act, checkpointed, checkpoint_todo, checkpoint_advance}
use Rattle.pager_state.specs.Commit.{commit_todo, commit_advance}
use Rattle.pager_state.specs.Steps.{todo, advance}
use Rattle.pager_state.specs.declared.Job.TheVariants as job
use Rattle.pager_state.proofs.Next.{todo-by, advance-by}
use Rattle.history.specs.Model.{Model}
use Rattle.history.proofs.Files.{putting, same-file, put-file, reach-none}
use Rattle.history.proofs.Disk.{OnDisk, DiskOk, log-alone, log-len}
use Rattle.history.proofs.Rest.{Held, Tabled, Resting, Bared, ForSome, step-fine, held-disk}
use Rattle.history.proofs.Stepping.{StepOk}
use Rattle.history.proofs.CheckpointLogLength.{empty-len, empty-header}

-- ---- the log header

checkpointed-at : (c i : ℕ) (t : List ℕ) (n : ℕ) → n < length t → get_or (checkpointed_from c i t) n 0 ≡ checkpointed_entry c (i + n) (get_or t n 0)
unfolding checkpointed_from
checkpointed-at c i [] n h = absurd (omega arith)
checkpointed-at c i (x ∷ t) zero h = let e : i + 0 ≡ i = omega arith in rw e
checkpointed-at c i (x ∷ t) (suc n) h = let e : suc i + n ≡ i + suc n = omega arith in checkpointed-at c (suc i) t n (omega arith) ∙ rw e

checkpointed-long : (c i : ℕ) (t : List ℕ) → length (checkpointed_from c i t) ≡ length t
unfolding checkpointed_from
checkpointed-long c i [] = refl
checkpointed-long c i (x ∷ t) = ap suc (checkpointed-long c (suc i) t)

entry-checkpointed : (h : DbHeader) (n x : ℕ) → (1 ≤ n → n < count_of h → x ≡ 0 → ⊥) → (n ≡ 0) ⊎ (n ≡ 0 → ⊥) → (count_of h ≤ n) ⊎ (n < count_of h)
    → checkpointed_entry (count_of h) n x ≡ entry 0 (has_page h n)
entry-checkpointed h n x k (inl e) q = rw e
entry-checkpointed h n x k (inr e) (inl q) =
    let h1 : 1 ≤ n = pos (le-or-lt 1 n) in
    rw (ne_eqb n 0 e, le-leb (count_of h) n q, le-leb 1 n h1, le-ltb n (count_of h) q)
  where
    pos : (1 ≤ n) ⊎ (n < 1) → 1 ≤ n
    pos (inl r) = r
    pos (inr r) = absurd (e (omega arith))
entry-checkpointed h n x k (inr e) (inr q) =
    let h1 : 1 ≤ n = pos (le-or-lt 1 n) in
    rw (ne_eqb n 0 e, lt-leb (count_of h) n q, le-leb 1 n h1, lt-ltb n (count_of h) q, ne_eqb x 0 (k h1 q))
  where
    pos : (1 ≤ n) ⊎ (n < 1) → 1 ≤ n
    pos (inl r) = r
    pos (inr r) = absurd (e (omega arith))

module _ (g : List ℕ) (w : World) (b : Model) (z : List ℕ) (salt answer : ℕ) (job_is : w.pager.job ≡ job.LogHeader salt answer) (k : ForSome (Bared salt w g b) z) where
  abbrev c : Bared salt w g b k.l k.S k.P k.mh
  c = k.it

  abbrev o : OnDisk (disk_of w) b k.l k.S k.P [] k.mh
  o = k.it.held.on

  nothing-there : k.S ++ k.P ≡ []
  nothing-there = rw (c.none_committed, c.no_waiting)

  len_is : w.pager.wal.len ≡ header_size
  len_is = log-len o ∙ omega (arith, ap length nothing-there)

  abbrev enc : List ℕ
  enc = encode_wal_header (next_header w salt)

  enc-long : length enc ≡ header_size
  enc-long = length-encode_wal_header (next_header w salt)

  next-written : Written (next_header w salt)
  next-written = truncated-written w.pager.wal.header salt c.fits c.held.clock

  stored_is : stored (log_header_act w salt) (disk_of w) ≡ record { main = (disk_of w).main; log = putting (disk_of w).log 0 enc }
  stored_is = rw (put-file (disk_of w).log 0 enc (omega arith))

  abbrev v : World
  v = checkpointed salt w

  disk-is : disk_of v ≡ stored (log_header_act w salt) (disk_of w)
  unfolding checkpointed put_file
  disk-is =
      let e : header_size ≡ max w.pager.wal.len (0 + length enc) = omega (arith, enc-long, len_is) in
      λ i. record { main = (disk_of w).main; log = same-file {f = record { area = (stored (log_header_act w salt) (disk_of w)).log.area; len = (empty_wal (next_header w salt)).len }} {g = (stored (log_header_act w salt) (disk_of w)).log} refl (empty-len (next_header w salt) ∙ e) i }

  content-after : content (putting (disk_of w).log 0 enc) ≡ encode_wal_header (next_header w salt)
  content-after =
      let e : max w.pager.wal.len (0 + length enc) ≡ header_size = omega (arith, enc-long, len_is) in
      rw e (part-put header_size w.log 0 enc enc-long (omega arith))

  area-after : length (put w.log 0 enc) ≡ wal_area
  area-after = length-put w.log 0 enc (omega (arith, enc-long, o.log.area)) ∙ o.log.area

  on-after : OnDisk (disk_of v) b (next_header w salt) [] [] [] k.mh
  on-after =
      rw (disk-is, stored_is) (record {
        log = log-alone (putting (disk_of w).log 0 enc) (next_header w salt) next-written content-after area-after (omega (arith, len_is, enc-long));
        main = o.main;
        model = rw c.none_committed at o.model;
      })

  held_after : Held v g b (next_header w salt) [] [] k.mh
  unfolding checkpointed batches_in
  held_after =
      let q = c.held in
      record {
        on = on-after;
        table_long = checkpointed-long (count_of (header_of w.pager)) 0 w.table ∙ q.table_long;
        staging_long = q.staging_long;
        salt = ap (λ (h : WalHeader). h.salt) (empty-header (next_header w salt));
        older = rw (empty-header (next_header w salt)) (omega arith);
        clock = rw (empty-header (next_header w salt)) next-written.clock;
        header = q.header;
        clean = q.clean;
        slots = q.slots;
        staged = q.staged;
        waiting = rw c.no_waiting at q.waiting;
      }

  table-after : Tabled v ([] ++ []) k.mh
  unfolding checkpointed place_from
  table-after n hn =
      let n1 : n < length w.table = omega (arith, c.held.table_long) in
      let e : count_of (header_of w.pager) ≡ count_of b.header = ap count_of c.held.header in
      checkpointed-at (count_of (header_of w.pager)) 0 w.table n n1
      ∙ ap (λ (c : ℕ). checkpointed_entry c (0 + n) (get_or w.table n 0)) e
      ∙ ap (λ (m : ℕ). checkpointed_entry (count_of b.header) m (get_or w.table n 0)) (zero-add n)
      ∙ entry-checkpointed b.header n (get_or w.table n 0) (c.full n) (eq-or-not n 0) (le-or-lt (count_of b.header) n)
      ∙ ap (λ (h : DbHeader). entry 0 (has_page h n)) (sym c.own)

  after-ok : Resting v g b (next_header w salt) [] [] k.mh
  after-ok = record { held = held_after; table = table-after; loose = λ n hn. refl }

  cut_ok : (j : ℕ) → j < header_size → DiskOk (cut_store (log_header_act w salt) j (disk_of w)) b z
  unfolding put_front
  cut_ok j h = rw (reach-none enc j h) (held-disk c.held k.kept)

  todo-is : todo g w ≡ log_header_act w salt ∷ []
  unfolding commit_todo checkpoint_todo
  todo-is = todo-by g w (job.LogHeader salt answer) job_is

  left_is : todo g v ≡ []
  unfolding commit_todo checkpoint_todo checkpointed
  left_is = todo-by g v job.Idle refl

  next-is : advance g w ≡ v
  unfolding commit_advance checkpoint_advance
  next-is = advance-by g w (job.LogHeader salt answer) job_is

  kept : joined [] ≡ z
  kept = rw c.none_committed at k.kept

  pub header-step : StepOk g w b z
  unfolding checkpointed
  header-step =
      record {
        act = log_header_act w salt;
        rest = [];
        next = v;
        todo_is = todo-is;
        next_is = next-is;
        lies = le-leb (0 + length enc) wal_area (omega (arith, enc-long));
        covers = (omega (arith, enc-long), omega (arith, enc-long));
        fine = step-fine c.held;
        disk = disk-is;
        left = left_is;
        after = record { l = next_header w salt; S = []; P = []; mh = k.mh; it = after-ok; kept = kept };
        cut = λ j hj. cut_ok j (omega (arith, enc-long));
      }
