-- A checkpoint's step that stores the main header: every page then stands in the main file. Assumes nothing.
use mathlib.Core.Path.{◌≡◌, refl, sym, ap, ◌∙◌}
use mathlib.Core.Bool.{Bool, true, false}
use mathlib.Core.List.{List, [], ◌∷◌, ◌++◌}
use mathlib.Core.Logic.{◌⊎◌, inl, inr}
use Prim.Native.Nat.{ℕ, ◌+◌, ◌*◌, min, ◌≤◌, ◌<◌}
use native.Mathlib.Omega.{arith}
use borrow.Author.Tests.{le-leb, lt-ltb}
use lib.Dec.{eqb}
use lib.ListN.{length, take, get_or, length-take}
use lib.Seq.{take_all, take-take, length-take-le}
use Rattle.std.specs.Prelude.{Some, Option, None, Ok, Result}
use Rattle.refusal.specs.declared.Refusal.{Refusal}
use Rattle.le.specs.Choice.{pick}
use Rattle.le.specs.Le.{put}
use Rattle.le.proofs.Tests.{le-or-lt}
use Rattle.le.proofs.Stores.{length-put, part-put}
use Rattle.page.specs.Page.{page_size}
use Rattle.header.specs.Header.{encode_header, decode_header}
use Rattle.header.specs.declared.DbHeader.{DbHeader}
use Rattle.header.proofs.Encoding.{length-encode_header}
use Rattle.header.proofs.RoundTrip.{decode-encode, decode-front}
use Rattle.wal.specs.Header.{header_size}
use Rattle.wal.specs.Recovery.{last_count}
use Rattle.wal.specs.declared.WalHeader.{WalHeader}
use Rattle.pager_state.specs.World.{World, main_area_size, page_limit, count_of, header_of}
use Rattle.pager_state.specs.Overlay.{page_from, entry}
use Rattle.pager_state.specs.Opening.{place_from, has_page, recounted}
use Rattle.pager_state.specs.Pages.{pages_from, in_checkpoint}
use Rattle.pager_state.specs.Stores.{Disk, disk_of, stored, cut_store, put_front}
use Rattle.pager_state.specs.Checkpoint.{main_header_act, main_header_stored, length_todo, pages_todo, pages_advance, checkpoint_todo, checkpoint_advance}
use Rattle.pager_state.specs.Commit.{commit_todo, commit_advance}
use Rattle.pager_state.specs.Steps.{todo, advance}
use Rattle.pager_state.specs.declared.Job.TheVariants as job
use Rattle.pager_state.proofs.Next.{todo-by, advance-by}
use Rattle.pager_state.proofs.Searches.{pages-none}
use Rattle.history.specs.Model.{Model, or_else}
use Rattle.history.proofs.Files.{putting, put-file, put-front, reach-front, reach-none, take_min, page-other}
use Rattle.history.proofs.Frames.{last_in, last-append}
use Rattle.history.proofs.Disk.{main_page, view_of, header_over, OnDisk, DiskOk}
use Rattle.history.proofs.Opening.{model-over}
use Rattle.history.proofs.Rest.{Held, Checkpointing, Flattened, ForSome, in-log, step-fine, held-disk, held-stored}
use Rattle.history.proofs.CheckpointPage.{must-main, stored-below, reaches}
use Rattle.history.proofs.Stepping.{StepOk}

-- ---- the header that counts, once it is the main file's own

again_by : (t : Bool) (mh h : DbHeader) (c : Option ℕ) (x : Result DbHeader Refusal) → pick t (Ok (recounted mh c)) x ≡ Ok h
    → pick t (Ok (recounted h c)) x ≡ Ok h
again_by true mh h None x e = refl
again_by true mh h (Some c) x e =
    let q : recounted mh (Some c) ≡ h = cc in
    let n : c ≡ count_of h = ap count_of q in
    ap {B = (Result DbHeader Refusal)} (λ (y : ℕ). Ok (record { page_count = y; schema_root_page = h.schema_root_page; format_version = h.format_version; freelist_head = h.freelist_head })) n
again_by false mh h c x e = e

header-again : (mh h : DbHeader) (S : List (List ℕ)) → header_over mh S ≡ Ok h → header_over h S ≡ Ok h
unfolding header_over
header-again mh h S e = again_by (eqb (place_from 0 0 S) 0) mh h (last_count S) (decode_header _) e

-- ---- the main file's first bytes with a header's

front-is : (m enc : List ℕ) (j : ℕ) → header_size ≤ j → length enc ≡ page_size → page_size ≤ length m → take header_size (take page_size (put m 0 (take j enc))) ≡ take header_size enc
front-is m enc j h e n =
    let l : header_size ≤ length (take j enc) = rw length-take (omega arith) in
    let p : take (length (take j enc)) (put m 0 (take j enc)) ≡ take j enc = part-put (length (take j enc)) m 0 (take j enc) refl (omega arith) in
    take-take header_size page_size (put m 0 (take j enc)) (omega arith)
    ∙ sym (take-take header_size (length (take j enc)) (put m 0 (take j enc)) l) ∙ ap (take header_size) p ∙ take-take header_size j enc h

flat_view : (u : Option (List ℕ)) (p x : Option (List ℕ)) (y : List ℕ) → or_else u p ≡ x → x ≡ Some y → or_else u (Some y) ≡ x
flat_view None p x y e f = sym f
flat_view (Some a) p x y e f = e

pub has-true : (h : DbHeader) (n : ℕ) → 1 ≤ n → n < count_of h → has_page h n ≡ true
has-true h n a c = rw (le-leb 1 n a, lt-ltb n (count_of h) c)

-- the main file with at least 32 bytes of the header that counts, where it has every page
pub head-stored : {d : Disk} {b : Model} {l : WalHeader} {S P : List (List ℕ)} {t : List ℕ} {mh : DbHeader} → OnDisk d b l S P t mh
    → ((n : ℕ) → 1 ≤ n → n < count_of b.header → b.pages n ≡ Some (page_from (page_size * n) d.main.area)) → page_size * count_of b.header ≤ d.main.len
    → (j : ℕ) → header_size ≤ j → OnDisk (record { main = putting d.main 0 (take j (encode_header b.header)); log = d.log }) b l S P t b.header
head-stored {d} {b} {l} {S} {P} {t} {mh} o flat tall j h =
    let enc : List ℕ = encode_header b.header in
    let e : length enc ≡ page_size = length-encode_header b.header in
    let a : length d.main.area ≡ main_area_size = o.main.area in
    let q : length (take j enc) ≤ page_size = rw length-take (omega arith) in
    let w : length (put d.main.area 0 (take j enc)) ≡ main_area_size = length-put d.main.area 0 (take j enc) (omega arith) ∙ a in
    let n : length (take page_size (put d.main.area 0 (take j enc))) ≡ length enc = length-take-le page_size (put d.main.area 0 (take j enc)) (omega arith) ∙ sym e in
    record {
      log = o.log;
      main =
          record {
            area = w;
            fits = omega (arith, o.main.fits);
            long = omega (arith, o.main.long);
            has = omega arith;
            head = decode-front (take page_size (put d.main.area 0 (take j enc))) enc n (front-is d.main.area enc j h e (omega arith)) ∙ decode-encode b.header o.model.plain;
          };
      model = model-over o.model (header-again mh b.header S o.model.top) (λ m m1 m2. pages m m1 m2 q a);
    }
  where
    pages : (m : ℕ) → 1 ≤ m → m < count_of b.header → length (take j (encode_header b.header)) ≤ page_size → length d.main.area ≡ main_area_size
        → view_of S b.header (put d.main.area 0 (take j (encode_header b.header))) m ≡ b.pages m
    pages m m1 m2 q a =
        let xs : List ℕ = take j (encode_header b.header) in
        let p : page_from (page_size * m) (put d.main.area 0 xs) ≡ page_from (page_size * m) d.main.area =
        page-other d.main.area 0 xs q (omega arith) m (λ z. omega arith) in
        rw (has-true b.header m m1 m2, p)
        (flat_view (last_in m S) (main_page mh d.main.area m) (b.pages m) (page_from (page_size * m) d.main.area) (o.model.pages m m1 m2) (flat m m1 m2))

-- ---- the main header

entry_zero : (p : ℕ) (t : Bool) → entry p t ≡ 0 → (p ≡ 0) × (t ≡ false)
entry_zero p true e = absurd (omega arith)
entry_zero p false e = (omega arith, refl)

module _ (g : List ℕ) (w : World) (b : Model) (z : List ℕ) (salt p answer : ℕ) (job_is : w.pager.job ≡ job.Checkpoint salt p answer) (k : ForSome (Checkpointing salt p w g b) z)
    (none_left : pages_from (in_checkpoint w) p ≡ []) where
  abbrev c : Checkpointing salt p w g b k.l k.S k.P k.mh
  c = k.it

  abbrev o : OnDisk (disk_of w) b k.l k.S k.P [] k.mh
  o = k.it.held.on

  no_more : (m : ℕ) → p ≤ m → m < count_of b.header → in_checkpoint w m ≡ false
  no_more m a h = pages-none (in_checkpoint w) p none_left m a (omega (arith, o.model.most))

  flat-by : (n : ℕ) → 1 ≤ n → n < count_of b.header → (y : Option (List ℕ)) → last_in n k.S ≡ y → b.pages n ≡ Some (page_from (page_size * n) w.main)
  flat-by n h1 h2 (Some x) e =
      let r = stored-below g w b z salt p answer job_is k (count_of b.header) no_more n x h1 h2 h2 e in
      sym (o.model.pages n h1 h2) ∙ rw (e, r.0)
  flat-by n h1 h2 None e = (must-main o n h1 h2 e).is

  flat : (n : ℕ) → 1 ≤ n → n < count_of b.header → b.pages n ≡ Some (page_from (page_size * n) w.main)
  flat n h1 h2 = flat-by n h1 h2 (last_in n k.S) refl

  tall : page_size * count_of b.header ≤ w.pager.storage.len
  tall = reaches g w b z salt p answer job_is k (count_of b.header) no_more o.model.least (omega arith)

  -- every page below the count is in the table
  full : (n : ℕ) → 1 ≤ n → n < count_of b.header → get_or w.table n 0 ≡ 0 → ⊥
  full n h1 h2 e =
      let hn : n < page_limit = omega (arith, o.model.most) in
      let r = entry_zero (place_from n 0 (k.S ++ k.P)) (has_page k.mh n) (sym (c.table n hn) ∙ e) in
      let i : None ≡ last_in n (k.S ++ k.P) = rw r.0 at (in-log c.held c.table n hn) in
      let s : last_in n k.S ≡ None = sym (last-append n k.S k.P ∙ rw (c.loose n hn)) ∙ sym i in
      let q = (must-main o n h1 h2 s).has in
      let t : has_page k.mh n ≡ false = r.1 in
      let zz : ◌≡◌ {A = ℕ} 0 1 = cc in omega arith

  abbrev enc : List ℕ
  enc = encode_header (header_of w.pager)

  enc-is : encode_header (header_of w.pager) ≡ encode_header b.header
  enc-is = ap encode_header c.held.header

  enc-long : length enc ≡ page_size
  enc-long = length-encode_header (header_of w.pager)

  stored_is : stored (main_header_act w) (disk_of w) ≡ record { main = putting (disk_of w).main 0 enc; log = (disk_of w).log }
  stored_is = rw (put-file (disk_of w).main 0 enc (omega arith))

  on-with : (j : ℕ) → header_size ≤ j → OnDisk (record { main = putting (disk_of w).main 0 (take j enc); log = (disk_of w).log }) b k.l k.S k.P [] b.header
  on-with j h = rw enc-is (head-stored o flat tall j h)

  abbrev v : World
  v = main_header_stored salt answer w

  disk-is : disk_of v ≡ stored (main_header_act w) (disk_of w)
  unfolding main_header_stored
  disk-is = refl

  on-after : OnDisk (disk_of v) b k.l k.S k.P [] b.header
  on-after = rw (disk-is, stored_is) (rw (take_all page_size enc (omega (arith, enc-long))) at (on-with page_size (omega arith)))

  held_after : Held v g b k.l k.S k.P b.header
  unfolding main_header_stored
  held_after = held-stored c.held (stored (main_header_act w) (disk_of w)) (header_of w.pager) (job.MainLength salt answer) b.header on-after

  main-after : v.main ≡ put w.main 0 enc
  main-after = ap (λ (d : Disk). d.main.area) (disk-is ∙ stored_is)

  flat_after : (n : ℕ) → 1 ≤ n → n < count_of b.header → b.pages n ≡ Some (page_from (page_size * n) v.main)
  flat_after n h1 h2 =
      let q : length enc ≤ page_size = omega (arith, enc-long) in
      let s : page_from (page_size * n) (put w.main 0 enc) ≡ page_from (page_size * n) w.main = page-other w.main 0 enc q (omega arith) n (λ y. omega arith) in
      rw (main-after, s) (flat n h1 h2)

  after-ok : Flattened salt v g b k.l k.S k.P b.header
  unfolding main_header_stored
  after-ok = record { held = held_after; own = refl; flat = flat_after; full = full; fits = c.fits }

  cut_by : (j : ℕ) → (header_size ≤ j) ⊎ (j < header_size) → DiskOk (cut_store (main_header_act w) j (disk_of w)) b z
  unfolding put_front
  cut_by j (inl h) =
      rw (reach-front enc j h (omega (arith, enc-long)), put-front (disk_of w).main 0 enc (min j (length enc)) (omega arith), take_min j enc)
      (record { l = k.l; S = k.S; P = k.P; t = []; mh = b.header; on = on-with j h; kept = k.kept })
  cut_by j (inr h) = rw (reach-none enc j h) (held-disk c.held k.kept)

  todo-is : todo g w ≡ main_header_act w ∷ length_todo salt answer v
  unfolding commit_todo checkpoint_todo pages_todo
  todo-is = todo-by g w (job.Checkpoint salt p answer) job_is ∙ ap (λ (y : List ℕ). pages_todo salt answer y w) none_left

  left_is : todo g v ≡ length_todo salt answer v
  unfolding commit_todo checkpoint_todo main_header_stored
  left_is = todo-by g v (job.MainLength salt answer) refl

  next-is : advance g w ≡ v
  unfolding commit_advance checkpoint_advance
  next-is = advance-by g w (job.Checkpoint salt p answer) job_is ∙ ap (λ (y : List ℕ). pages_advance salt answer y w) none_left

  pub head_step : StepOk g w b z
  unfolding main_header_stored
  head_step =
      record {
        act = main_header_act w;
        rest = length_todo salt answer v;
        next = v;
        todo_is = todo-is;
        next_is = next-is;
        lies = le-leb (0 + length enc) main_area_size (omega (arith, enc-long));
        covers = (omega (arith, enc-long), omega (arith, enc-long));
        fine = step-fine c.held;
        disk = disk-is;
        left = left_is;
        after = record { l = k.l; S = k.S; P = k.P; mh = b.header; it = after-ok; kept = k.kept };
        cut = λ j hj. cut_by j (le-or-lt header_size j);
      }
