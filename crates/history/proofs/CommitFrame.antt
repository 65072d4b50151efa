-- A commit's step that stores a differing page's frame. Assumes nothing.
use mathlib.Core.Path.{◌≡◌, refl, sym, ap, ◌∙◌}
use mathlib.Core.Bool.{true, false, not}
use mathlib.Core.List.{List, [], ◌∷◌, ◌++◌, append_assoc, append-nil}
use mathlib.Core.Logic.{◌⊎◌, inl, inr}
use Prim.Native.Nat.{ℕ, suc, ◌+◌, ◌*◌, ◌^◌, max, ◌≤◌, ◌<◌}
use native.Mathlib.Omega.{arith}
use borrow.Author.Tests.{le-leb}
use lib.ListN.{length, length-set}
use Rattle.std.specs.Prelude.{Some, Option, None}
use Rattle.le.specs.Choice.{both}
use Rattle.le.specs.Le.{same_bytes}
use Rattle.le.proofs.Tests.{le-or-lt, eq-or-not}
use Rattle.le.proofs.Compare.{both_true}
use Rattle.page.specs.Page.{page_size}
use Rattle.header.specs.declared.DbHeader.{DbHeader}
use Rattle.frame.specs.Frame.{frame_size, encode_frame}
use Rattle.frame.proofs.Stores.{length-encode_frame}
use Rattle.frame.proofs.RoundTrip.{body_back}
use Rattle.wal.specs.Recovery.{chunk_at, page_of, good, wal_area}
use Rattle.wal.specs.Recovery as wal
use Rattle.wal.specs.Write.{longer, with_frame}
use Rattle.wal.specs.declared.WalHeader.{WalHeader}
use Rattle.wal.specs.declared.Wal.{Wal}
use Rattle.wal.proofs.Frames.{page-encoded, count-encoded, good-page}
use Rattle.pager_state.specs.World.{World, page_limit}
use Rattle.pager_state.specs.Overlay.{is_staged, staged_bytes, committed_bytes}
use Rattle.pager_state.specs.Pages.{pages_from, differs_in, differs}
use Rattle.pager_state.specs.Stores.{Disk, disk_of, Other, stored, put_file}
use Rattle.pager_state.specs.Checkpoint.{checkpoint_todo, checkpoint_advance}
use Rattle.pager_state.specs.Commit.{salt_of, frame_act, page_frame_stored, frames_todo, frames_advance, commit_todo, commit_advance}
use Rattle.pager_state.specs.Steps.{todo, advance}
use Rattle.pager_state.specs.declared.Job.TheVariants as job
use Rattle.pager_state.proofs.Next.{todo-by, advance-by}
use Rattle.pager_state.proofs.Searches.{First, first, pages-same}
use Rattle.history.specs.Model.{Model}
use Rattle.history.proofs.Files.{same-file}
use Rattle.history.proofs.Frames.{last_in, last-same, last-other, batches_of, batches-append, batches-page, or_give}
use Rattle.history.proofs.Slots.{staged-long}
use Rattle.history.proofs.Disk.{view_of, OnDisk, log-len}
use Rattle.history.proofs.Rest.{Held, Tabled, Committing, ForSome, world_page, page-view, committed-bytes, step-fine}
use Rattle.history.proofs.Append.{whole-store, whole-on, cut_ok}
use Rattle.history.proofs.Stepping.{StepOk, table-entered, settled}

pub framed-len : (v : Wal) (c : ℕ) → (with_frame v c).len ≡ v.len + frame_size
unfolding longer
framed-len v c = refl

pub framed-header : (v : Wal) (c : ℕ) → (with_frame v c).header ≡ v.header
unfolding longer
framed-header v c = refl

module _ (g : List ℕ) (w : World) (b : Model) (z : List ℕ) (h : DbHeader) (salt p answer : ℕ) (job_is : w.pager.job ≡ job.Commit h salt p answer)
    (k : ForSome (Committing h salt p w g b) z) (n : ℕ) (ns : List ℕ) (found : pages_from (differs g w) p ≡ n ∷ ns) where
  abbrev c : Committing h salt p w g b k.l k.S k.P k.mh
  c = k.it

  abbrev fs : List (List ℕ)
  fs = k.S ++ k.P

  at : First (differs g w) p n
  at = first (differs g w) p n ns found

  rest-is : pages_from (differs g w) (suc n) ≡ ns
  rest-is = let s = at.split in cc

  abbrev bytes : List ℕ
  bytes = staged_bytes w.pager.staged g n

  abbrev f : List ℕ
  f = encode_frame n 0 (salt_of w) (staged_bytes w.pager.staged g n)

  abbrev v : World
  v = page_frame_stored g h salt answer n w

  is-staged : is_staged w.pager.staged n ≡ true
  unfolding differs_in
  is-staged = (both_true (is_staged w.pager.staged n) _ at.holds).0

  bytes-long : length bytes ≡ page_size
  bytes-long = staged-long w.pager.staged c.held.slots g n c.held.staging_long is-staged

  f-long : length f ≡ frame_size
  f-long = length-encode_frame n 0 (salt_of w) bytes bytes-long

  small : n < 2 ^ 32
  small = omega (arith, at.below)

  salt-fits : salt_of w < 2 ^ 32
  salt-fits = rw c.held.salt c.held.on.log.written.salt

  f-good : good k.l.salt f ≡ true
  f-good =
      ap (λ (s : ℕ). good s f) (sym c.held.salt)
      ∙ good-page n 0 (salt_of w) bytes small salt-fits (λ e. omega (arith, at.below))

  f-page : page_of f ≡ n
  f-page = page-encoded n 0 (salt_of w) bytes small

  f-count : wal.commit_count f ≡ 0
  f-count = count-encoded n 0 (salt_of w) bytes (omega arith)

  room : w.pager.wal.len + frame_size ≤ wal_area
  room = omega (arith, c.room)

  at-is : w.pager.wal.len ≡ chunk_at (length fs)
  at-is = log-len c.held.on ∙ omega arith

  again : k.S ++ (k.P ++ (f ∷ [])) ≡ fs ++ (f ∷ [])
  again = sym (append_assoc k.S k.P (f ∷ []))

  disk-is : disk_of v ≡ stored (frame_act g w n) (disk_of w)
  unfolding page_frame_stored put_file
  disk-is =
      let e : w.pager.wal.len + frame_size ≡ max w.pager.wal.len (w.pager.wal.len + length f) = omega (arith, f-long) in
      λ i. record { main = (disk_of w).main; log = same-file {f = record { area = (stored (frame_act g w n) (disk_of w)).log.area; len = (with_frame w.pager.wal 0).len }} {g = (stored (frame_act g w n) (disk_of w)).log} refl (framed-len w.pager.wal 0 ∙ e) i }

  on-after : OnDisk (disk_of v) b k.l k.S (k.P ++ (f ∷ [])) [] k.mh
  on-after = rw (disk-is, whole-store c.held.on f f-long f-good room Other false) (whole-on c.held.on f f-long f-good room f-count)

  held_after : Held v g b k.l k.S (k.P ++ (f ∷ [])) k.mh
  unfolding page_frame_stored
  held_after =
      let q = c.held in
      record {
        on = on-after;
        table_long = length-set w.table n _ ∙ q.table_long;
        staging_long = q.staging_long;
        salt = ap (λ (x : WalHeader). x.salt) (framed-header w.pager.wal 0) ∙ q.salt;
        older = rw (framed-header w.pager.wal 0) q.older;
        clock = rw (framed-header w.pager.wal 0) q.clock;
        header = q.header;
        clean = q.clean;
        slots = q.slots;
        staged = q.staged;
        waiting = batches-append k.P (f ∷ []) ∙ rw (batches-page f (λ e. omega (arith, f-page, at.below))) (append-nil (batches_of k.P) ∙ q.waiting);
      }

  table-after : Tabled v (k.S ++ (k.P ++ (f ∷ []))) k.mh
  unfolding page_frame_stored
  table-after m hm =
      rw again (table-entered w.table fs k.mh f n w.pager.wal.len c.held.table_long at.below f-page at-is c.table m hm)

  -- its own page is the staged one, others stay
  own-page : world_page v n ≡ Some bytes
  own-page =
      page-view held_after table-after n at.below
      ∙ rw (again, last-same n fs f f-page, body_back n 0 (salt_of w) bytes)

  view-other : (m : ℕ) → (m ≡ n → ⊥) → view_of (k.S ++ (k.P ++ (f ∷ []))) k.mh w.main m ≡ view_of fs k.mh w.main m
  view-other m e = rw (again, last-other m fs f (λ q. e (sym q ∙ f-page)))

  main-after : v.main ≡ w.main
  unfolding page_frame_stored
  main-after = refl

  other-page : (m : ℕ) → m < page_limit → (m ≡ n → ⊥) → world_page v m ≡ world_page w m
  other-page m hm e =
      page-view held_after table-after m hm ∙ rw main-after (view-other m e) ∙ sym (page-view c.held c.table m hm)

  differs-other : (m : ℕ) → m < page_limit → (m ≡ n → ⊥) → differs g v m ≡ differs g w m
  unfolding differs_in page_frame_stored
  differs-other m hm e =
      let q : committed_bytes v m ≡ committed_bytes w m = committed-bytes v m ∙ ap (λ (x : Option (List ℕ)). or_give x []) (other-page m hm e) ∙ sym (committed-bytes w m) in
      ap (λ (x : List ℕ). both (is_staged w.pager.staged m) (not (same_bytes (staged_bytes w.pager.staged g m) x))) q

  pages-left : pages_from (differs g v) (suc n) ≡ ns
  pages-left =
      pages-same (differs g v) (differs g w) (suc n) (λ m a hm. differs-other m hm (λ e. omega arith)) ∙ rest-is

  done-after : (m : ℕ) → m < page_limit → m < suc n → is_staged w.pager.staged m ≡ true → world_page v m ≡ Some (staged_bytes w.pager.staged g m)
  done-after m hm lt s = go (eq-or-not m n) (le-or-lt p m)
    where
      go : (m ≡ n) ⊎ (m ≡ n → ⊥) → (p ≤ m) ⊎ (m < p) → world_page v m ≡ Some (staged_bytes w.pager.staged g m)
      go (inl e) q = rw e own-page
      go (inr e) (inl q) =
          let lt' : m < n = below e in
          other-page m hm e
          ∙ settled g w m (at.before m q lt') s (staged-long w.pager.staged c.held.slots g m c.held.staging_long s)
        where
          below : (m ≡ n → ⊥) → m < n
          below ne = last (le-or-lt n m)
            where
              last : (n ≤ m) ⊎ (m < n) → m < n
              last (inl r) = absurd (ne (omega arith))
              last (inr r) = r
      go (inr e) (inr q) = other-page m hm e ∙ c.done m hm q s

  unstaged-after : (m : ℕ) → m < page_limit → is_staged w.pager.staged m ≡ false → last_in m (k.P ++ (f ∷ [])) ≡ None
  unstaged-after m hm s =
      let ne : page_of f ≡ m → ⊥ = λ e. let q : is_staged w.pager.staged m ≡ true = ap (is_staged w.pager.staged) (sym e ∙ f-page) ∙ is-staged in let zz : ◌≡◌ {A = ℕ} 0 1 = cc in omega arith in
      last-other m k.P f ne ∙ c.unstaged m hm s

  room_after : v.pager.wal.len + frame_size * (length (pages_from (differs g v) (suc n)) + 1) ≤ wal_area
  room_after = rw pages-left (omega (arith, c.room, ap length found, len_after))
    where
      len_after : v.pager.wal.len ≡ w.pager.wal.len + frame_size
      len_after = ap (λ (d : Disk). d.log.len) disk-is ∙ whole-len
        where
          whole-len : (stored (frame_act g w n) (disk_of w)).log.len ≡ w.pager.wal.len + frame_size
          whole-len = ap (λ (d : Disk). d.log.len) (whole-store c.held.on f f-long f-good room Other false) ∙ omega (arith, f-long)

  after-ok : Committing h salt (suc n) v g b k.l k.S (k.P ++ (f ∷ [])) k.mh
  unfolding page_frame_stored
  after-ok =
      record {
        held = held_after;
        table = table-after;
        given = c.given;
        plain = c.plain;
        least = c.least;
        most = c.most;
        fits = c.fits;
        unstaged = unstaged-after;
        done = done-after;
        joins = c.joins;
        room = room_after;
      }

  todo-is : todo g w ≡ frame_act g w n ∷ frames_todo g h salt answer ns v
  unfolding commit_todo checkpoint_todo frames_todo
  todo-is =
      todo-by g w (job.Commit h salt p answer) job_is
      ∙ append-nil (frames_todo g h salt answer (pages_from (differs g w) p) w) ∙ ap (λ (x : List ℕ). frames_todo g h salt answer x w) found

  left_is : todo g v ≡ frames_todo g h salt answer ns v
  unfolding commit_todo checkpoint_todo page_frame_stored
  left_is =
      todo-by g v (job.Commit h salt (suc n) answer) refl
      ∙ append-nil (frames_todo g h salt answer (pages_from (differs g v) (suc n)) v) ∙ ap (λ (x : List ℕ). frames_todo g h salt answer x v) pages-left

  next-is : advance g w ≡ v
  unfolding commit_advance checkpoint_advance
  next-is =
      advance-by g w (job.Commit h salt p answer) job_is
      ∙ ap (λ (x : List ℕ). frames_advance g h salt answer x w) found

  pub frame_step : StepOk g w b z
  unfolding page_frame_stored
  frame_step =
      record {
        act = frame_act g w n;
        rest = frames_todo g h salt answer ns v;
        next = v;
        todo_is = todo-is;
        next_is = next-is;
        lies = le-leb (w.pager.wal.len + length f) wal_area (omega (arith, f-long, room));
        covers = (omega (arith, f-long), omega (arith, f-long));
        fine = step-fine c.held;
        disk = disk-is;
        left = left_is;
        after = record { l = k.l; S = k.S; P = k.P ++ (f ∷ []); mh = k.mh; it = after-ok; kept = k.kept };
        cut = λ j hj. cut_ok c.held.on f f-long f-good room Other false j (omega (arith, f-long)) z k.kept;
      }
