-- A checkpoint's step that stores a page. Assumes nothing.
use mathlib.Core.Path.{◌≡◌, refl, sym, ap, ◌∙◌}
use mathlib.Core.Bool.{Bool, true, false}
use mathlib.Core.List.{List, [], ◌∷◌, ◌++◌}
use mathlib.Core.Logic.{◌⊎◌, inl, inr}
use Prim.Native.Nat.{ℕ, zero, suc, ◌+◌, ◌*◌, max, min, ◌≤◌, ◌<◌}
use native.Mathlib.Omega.{arith}
use borrow.Author.Tests.{le-leb, leb-true, ltb-true, lt-ltb}
use lib.Dec.{leb, ltb}
use lib.ListN.{length, take, length-take}
use Rattle.std.specs.Prelude.{Some, Option, None}
use Rattle.le.specs.Choice.{pick}
use Rattle.le.specs.Le.{put}
use Rattle.le.proofs.Tests.{le-or-lt, eq-or-not}
use Rattle.le.proofs.Compare.{both_true}
use Rattle.le.proofs.Stores.{length-put, take_put}
use Rattle.page.specs.Page.{page_size}
use Rattle.header.specs.Header.{decode_header}
use Rattle.header.specs.declared.DbHeader.{DbHeader}
use Rattle.wal.specs.declared.WalHeader.{WalHeader}
use Rattle.pager_state.specs.World.{World, main_area_size, page_limit, count_of, header_of}
use Rattle.pager_state.specs.Overlay.{page_from, in_log, log_bytes}
use Rattle.pager_state.specs.Opening.{has_page}
use Rattle.pager_state.specs.Pages.{pages_from, in_checkpoint_by, in_checkpoint}
use Rattle.pager_state.specs.Stores.{Disk, disk_of, stored, cut_store}
use Rattle.pager_state.specs.Checkpoint.{is_empty, page_act, page_stored, pages_todo, checkpoint_todo, pages_advance, checkpoint_advance}
use Rattle.pager_state.specs.Checkpoint as checkpoint
use Rattle.pager_state.specs.Commit.{commit_todo, commit_advance}
use Rattle.pager_state.specs.Steps.{todo, advance}
use Rattle.pager_state.specs.declared.Job.TheVariants as job
use Rattle.pager_state.proofs.Next.{todo-by, advance-by}
use Rattle.pager_state.proofs.Searches.{First, first}
use Rattle.history.specs.Model.{Model, or_else}
use Rattle.history.proofs.Files.{putting, put-file, put-front, reach-behind, take_min, page-other, page-same}
use Rattle.history.proofs.Frames.{last_in, last-append, last-long}
use Rattle.history.proofs.Disk.{main_page, view_of, OnDisk, DiskOk, whole-left}
use Rattle.history.proofs.Opening.{model-over}
use Rattle.history.proofs.Rest.{Held, Checkpointing, ForSome, log-has, log-lacks, step-fine, held-stored}
use Rattle.history.proofs.Stepping.{StepOk}

-- a page that the log has not is the main file's
pub record OnMain (b : Model) (mh : DbHeader) (m : List ℕ) (n : ℕ) : Type 0 where
  pub has : has_page mh n ≡ true
  pub is : b.pages n ≡ Some (page_from (page_size * n) m)

main-by : (b : Model) (mh : DbHeader) (m : List ℕ) (n : ℕ) (x : List ℕ) (t : Bool) → has_page mh n ≡ t → pick t (Some (page_from (page_size * n) m)) None ≡ b.pages n
    → b.pages n ≡ Some x → OnMain b mh m n
main-by b mh m n x true e p q = record { has = e; is = sym p }
main-by b mh m n x false e p q = let z : ◌≡◌ {A = ℕ} 0 1 = cc in absurd (omega arith)

pub must-main : {d : Disk} {b : Model} {l : WalHeader} {S P : List (List ℕ)} {t : List ℕ} {mh : DbHeader} → OnDisk d b l S P t mh → (n : ℕ) → 1 ≤ n
    → n < count_of b.header → last_in n S ≡ None → OnMain b mh d.main.area n
must-main {d} {b} {l} {S} {P} {t} {mh} o n h1 h2 e =
    let r = o.model.there n h1 h2 in
    let p : main_page mh d.main.area n ≡ b.pages n = rw e at (o.model.pages n h1 h2) in
    main-by b mh d.main.area n r.0 (has_page mh n) refl p r.1

pub has-below : (mh : DbHeader) (n : ℕ) → has_page mh n ≡ true → n < count_of mh
has-below mh n e = ltb-true n (count_of mh) (both_true (leb 1 n) (ltb n (count_of mh)) e).1

main-eq : (mh : DbHeader) (a c : List ℕ) (n : ℕ) → page_from (page_size * n) a ≡ page_from (page_size * n) c → main_page mh a n ≡ main_page mh c n
main-eq mh a c n e = rw e

-- the main file with some bytes of a page that the log has
pub page-stored : {d : Disk} {b : Model} {l : WalHeader} {S P : List (List ℕ)} {t : List ℕ} {mh : DbHeader} → OnDisk d b l S P t mh → (n : ℕ) (x xs : List ℕ)
    → 1 ≤ n → n < count_of b.header → last_in n S ≡ Some x → length xs ≤ page_size
    → OnDisk (record { main = putting d.main (page_size * n) xs; log = d.log }) b l S P t mh
page-stored {d} {b} {l} {S} {P} {t} {mh} o n x xs h1 h2 e hx =
    let c : count_of b.header ≤ page_limit = o.model.most in
    let a : length d.main.area ≡ main_area_size = o.main.area in
    record {
      log = o.log;
      main =
          record {
            area = length-put d.main.area (page_size * n) xs (omega arith) ∙ a;
            fits = omega (arith, o.main.fits);
            long = omega (arith, o.main.long);
            has = omega (arith, o.main.has);
            head = ap decode_header (take_put page_size d.main.area (page_size * n) xs (omega arith) (omega arith)) ∙ o.main.head;
          };
      model = model-over o.model o.model.top (λ m m1 m2. go m m1 m2 c a (eq-or-not m n));
    }
  where
    go : (m : ℕ) → 1 ≤ m → m < count_of b.header → count_of b.header ≤ page_limit → length d.main.area ≡ main_area_size → (m ≡ n) ⊎ (m ≡ n → ⊥)
        → view_of S mh (put d.main.area (page_size * n) xs) m ≡ b.pages m
    go m m1 m2 c a (inl q) =
        let r : last_in m S ≡ Some x = rw q e in
        ap (λ (y : Option (List ℕ)). or_else y (main_page mh (put d.main.area (page_size * n) xs) m)) r
        ∙ sym (ap (λ (y : Option (List ℕ)). or_else y (main_page mh d.main.area m)) r) ∙ o.model.pages m m1 m2
    go m m1 m2 c a (inr q) =
        ap (or_else (last_in m S)) (main-eq mh (put d.main.area (page_size * n) xs) d.main.area m (page-other d.main.area n xs hx (omega arith) m q))
        ∙ o.model.pages m m1 m2

-- ---- the step

module _ (g : List ℕ) (w : World) (b : Model) (z : List ℕ) (salt p answer : ℕ) (job_is : w.pager.job ≡ job.Checkpoint salt p answer) (k : ForSome (Checkpointing salt p w g b) z) where
  abbrev c : Checkpointing salt p w g b k.l k.S k.P k.mh
  c = k.it

  abbrev o : OnDisk (disk_of w) b k.l k.S k.P [] k.mh
  o = k.it.held.on

  abbrev main-len : ℕ
  main-len = w.pager.storage.len

  count-is : count_of (header_of w.pager) ≡ count_of b.header
  count-is = ap count_of c.held.header

  last-committed : (n : ℕ) → n < page_limit → last_in n (k.S ++ k.P) ≡ last_in n k.S
  last-committed n hn = last-append n k.S k.P ∙ rw (c.loose n hn)

  -- a page that isn't checkpointed is not in the log
  not-checkpointed : (n : ℕ) → 1 ≤ n → n < count_of b.header → in_checkpoint w n ≡ false → last_in n k.S ≡ None
  unfolding in_checkpoint_by
  not-checkpointed n h1 h2 e =
      let hn : n < page_limit = omega (arith, o.model.most) in
      let h3 : n < count_of (header_of w.pager) = omega (arith, count-is) in
      let q : in_log w.table n ≡ false = rw (le-leb 1 n h1, lt-ltb n (count_of (header_of w.pager)) h3) at e in
      sym (last-committed n hn) ∙ log-lacks c.held c.table n hn q

  -- the pages below i that the log has are stored
  pub stored-below : (i : ℕ) → ((m : ℕ) → p ≤ m → m < i → in_checkpoint w m ≡ false) → (m : ℕ) (x : List ℕ) → 1 ≤ m → m < i → m < count_of b.header → last_in m k.S ≡ Some x
      → (page_from (page_size * m) w.main ≡ x) × (page_size * suc m ≤ main-len)
  stored-below i before m x h1 h2 h3 e = go (le-or-lt p m)
    where
      go : (p ≤ m) ⊎ (m < p) → (page_from (page_size * m) w.main ≡ x) × (page_size * suc m ≤ main-len)
      go (inl q) = let r = not-checkpointed m h1 h3 (before m q h2) in let zz : ◌≡◌ {A = ℕ} 0 1 = cc in absurd (omega arith)
      go (inr q) = c.stored m x h1 q h3 e

  long-by : (m : ℕ) → 1 ≤ m → m < count_of b.header → ((x : List ℕ) → last_in m k.S ≡ Some x → page_size * suc m ≤ main-len) → (y : Option (List ℕ)) → last_in m k.S ≡ y
      → page_size * suc m ≤ main-len
  long-by m h1 h2 s (Some x) e = s x e
  long-by m h1 h2 s None e = omega (arith, has-below k.mh m (must-main o m h1 h2 e).has, o.main.has)

  -- so the main file reaches up to page i
  pub reaches : (i : ℕ) → ((m : ℕ) → p ≤ m → m < i → in_checkpoint w m ≡ false) → 1 ≤ i → i ≤ count_of b.header → page_size * i ≤ main-len
  reaches zero before h1 h2 = omega arith
  reaches (suc zero) before h1 h2 = omega (arith, o.main.long)
  reaches (suc (suc m)) before h1 h2 =
      long-by (suc m) (omega arith) (omega arith)
      (λ x e. (stored-below (suc (suc m)) before (suc m) x (omega arith) (omega arith) (omega arith) e).1) (last_in (suc m) k.S) refl

  module _ (n : ℕ) (ns : List ℕ) (found : pages_from (in_checkpoint w) p ≡ n ∷ ns) where
    at : First (in_checkpoint w) p n
    at = first (in_checkpoint w) p n ns found

    rest-is : pages_from (in_checkpoint w) (suc n) ≡ ns
    rest-is = let s = at.split in cc

    abbrev x : List ℕ
    x = log_bytes w.table w.log n

    record CheckpointedPage : Type 0 where
      low : 1 ≤ n
      high : n < count_of b.header
      has : in_log w.table n ≡ true

    checkpointed-page : CheckpointedPage
    unfolding in_checkpoint_by
    checkpointed-page =
        let a = both_true (leb 1 n) _ at.holds in
        let d = both_true (ltb n (count_of (header_of w.pager))) (in_log w.table n) a.1 in
        record {
          low = leb-true 1 n a.0;
          high = omega (arith, ltb-true n (count_of (header_of w.pager)) d.0, count-is);
          has = d.1;
        }

    low : 1 ≤ n
    low = checkpointed-page.low

    high : n < count_of b.header
    high = checkpointed-page.high

    small : n < page_limit
    small = at.below

    last-is : last_in n k.S ≡ Some x
    last-is = sym (last-committed n small) ∙ log-has c.held c.table n small checkpointed-page.has

    x-long : length x ≡ page_size
    x-long = last-long n x (whole-left k.S k.P o.log.whole) last-is

    at-inside : page_size * n ≤ main-len
    at-inside = reaches n at.before low (omega (arith, high))

    in_area : page_size * n ≤ length w.main
    in_area = omega (arith, at-inside, o.main.fits, o.main.area)

    stored_is : (flush : Bool) → stored (page_act w n flush) (disk_of w) ≡ record { main = putting (disk_of w).main (page_size * n) x; log = (disk_of w).log }
    stored_is flush = rw (put-file (disk_of w).main (page_size * n) x at-inside)

    cut-is : (flush : Bool) (j : ℕ) → cut_store (page_act w n flush) j (disk_of w) ≡ record { main = putting (disk_of w).main (page_size * n) (take j x); log = (disk_of w).log }
    cut-is flush j =
        rw (reach-behind (page_size * n) x j (omega (arith, low)), put-front (disk_of w).main (page_size * n) x (min j (length x)) at-inside, take_min j x)

    abbrev v : World
    v = page_stored salt answer n w

    disk-is : disk_of v ≡ stored (page_act w n (is_empty ns)) (disk_of w)
    unfolding page_stored
    disk-is = refl

    on-after : OnDisk (disk_of v) b k.l k.S k.P [] k.mh
    on-after = rw (disk-is, stored_is (is_empty ns)) (page-stored o n x x low high last-is (omega (arith, x-long)))

    main-after : v.main ≡ put w.main (page_size * n) x
    main-after = ap (λ (d : Disk). d.main.area) (disk-is ∙ stored_is (is_empty ns))

    len_after : v.pager.storage.len ≡ max main-len (page_size * n + length x)
    len_after = ap (λ (d : Disk). d.main.len) (disk-is ∙ stored_is (is_empty ns))

    stored-after : (m : ℕ) (y : List ℕ) → 1 ≤ m → m < suc n → m < count_of b.header → last_in m k.S ≡ Some y
        → (page_from (page_size * m) v.main ≡ y) × (page_size * suc m ≤ v.pager.storage.len)
    stored-after m y h1 h2 h3 e = go (eq-or-not m n)
      where
        below : (m ≡ n → ⊥) → m < n
        below ne = last (le-or-lt n m)
          where
            last : (n ≤ m) ⊎ (m < n) → m < n
            last (inl r) = absurd (ne (omega arith))
            last (inr r) = r

        go : (m ≡ n) ⊎ (m ≡ n → ⊥) → (page_from (page_size * m) v.main ≡ y) × (page_size * suc m ≤ v.pager.storage.len)
        go (inl q) =
            let s : last_in n k.S ≡ Some y = rw q at e in
            let xy : x ≡ y = cc (last-is) in
            (rw (main-after, q) (page-same w.main n x (omega (arith, x-long)) in_area x-long ∙ xy), omega (arith, len_after, x-long))
        go (inr q) =
            let r = stored-below n at.before m y h1 (below q) h3 e in
            (rw main-after (page-other w.main n x (omega (arith, x-long)) in_area m q ∙ r.0), omega (arith, len_after, r.1))

    held_after : Held v g b k.l k.S k.P k.mh
    unfolding page_stored
    held_after = held-stored c.held (stored (page_act w n false) (disk_of w)) (checkpoint.own_header w) (job.Checkpoint salt (suc n) answer) k.mh on-after

    after-ok : Checkpointing salt (suc n) v g b k.l k.S k.P k.mh
    unfolding page_stored
    after-ok = record { held = held_after; table = c.table; loose = c.loose; fits = c.fits; stored = stored-after }

    todo-is : todo g w ≡ page_act w n (is_empty ns) ∷ pages_todo salt answer ns v
    unfolding commit_todo checkpoint_todo pages_todo
    todo-is = todo-by g w (job.Checkpoint salt p answer) job_is ∙ ap (λ (y : List ℕ). pages_todo salt answer y w) found

    left_is : todo g v ≡ pages_todo salt answer ns v
    unfolding commit_todo checkpoint_todo page_stored in_checkpoint_by
    left_is = todo-by g v (job.Checkpoint salt (suc n) answer) refl ∙ ap (λ (y : List ℕ). pages_todo salt answer y v) rest-is

    next-is : advance g w ≡ v
    unfolding commit_advance checkpoint_advance
    next-is = advance-by g w (job.Checkpoint salt p answer) job_is ∙ ap (λ (y : List ℕ). pages_advance salt answer y w) found

    cut_ok : (j : ℕ) → DiskOk (cut_store (page_act w n (is_empty ns)) j (disk_of w)) b z
    cut_ok j =
        let q : length (take j x) ≤ page_size = rw length-take (omega (arith, x-long)) in
        rw (cut-is (is_empty ns) j) (record {
          l = k.l;
          S = k.S;
          P = k.P;
          t = [];
          mh = k.mh;
          on = page-stored o n x (take j x) low high last-is q;
          kept = k.kept;
        })

    pub page-step : StepOk g w b z
    unfolding page_stored
    page-step =
        record {
          act = page_act w n (is_empty ns);
          rest = pages_todo salt answer ns v;
          next = v;
          todo_is = todo-is;
          next_is = next-is;
          lies = le-leb (page_size * n + length x) main_area_size (omega (arith, x-long, small));
          covers = (omega (arith, x-long), omega (arith, x-long));
          fine = step-fine c.held;
          disk = disk-is;
          left = left_is;
          after = record { l = k.l; S = k.S; P = k.P; mh = k.mh; it = after-ok; kept = k.kept };
          cut = λ j hj. cut_ok j;
        }
