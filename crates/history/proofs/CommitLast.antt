-- A commit's step that stores the commit frame: what the model enters is what the files then hold. Assumes nothing.
use mathlib.Core.Path.{◌≡◌, refl, sym, ap, ◌∙◌}
use mathlib.Core.Bool.{Bool, true, false}
use mathlib.Core.List.{List, [], ◌∷◌, ◌++◌, append_assoc, append-nil}
use mathlib.Core.Logic.{◌⊎◌, inl, inr}
use Prim.Native.Nat.{ℕ, ◌+◌, ◌*◌, ◌^◌, max, ◌≤◌, ◌<◌}
use native.Mathlib.Omega.{arith}
use borrow.Author.Tests.{le-leb, lt-ltb, le-ltb, ne_eqb}
use lib.Dec.{leb}
use lib.ListN.{length, take, length-append, length-set}
use lib.Seq.{take_all, drop_at}
use Rattle.std.specs.Prelude.{Some, None, Ok}
use Rattle.le.specs.Choice.{pick}
use Rattle.le.proofs.Tests.{le-or-lt}
use Rattle.header.specs.Header.{encode_header}
use Rattle.header.specs.declared.DbHeader.{DbHeader}
use Rattle.header.proofs.Encoding.{length-encode_header}
use Rattle.header.proofs.RoundTrip.{decode-encode}
use Rattle.frame.specs.Frame.{frame_size, encode_frame, body_of}
use Rattle.frame.proofs.Stores.{length-encode_frame}
use Rattle.frame.proofs.RoundTrip.{body_back}
use Rattle.wal.specs.Header.{header_size, encode_wal_header}
use Rattle.wal.specs.Recovery.{chunk_at, page_of, good, page_in, batches_in, wal_area}
use Rattle.wal.specs.Recovery as wal
use Rattle.wal.specs.Write.{with_frame}
use Rattle.wal.specs.declared.WalHeader.{WalHeader}
use Rattle.wal.proofs.Encoding.{length-encode_wal_header}
use Rattle.wal.proofs.Frames.{page-encoded, count-encoded, good-page}
use Rattle.wal.proofs.Laid.{joined, joined-append}
use Rattle.pager_state.specs.World.{World, page_limit, count_of, none_staged}
use Rattle.pager_state.specs.Overlay.{is_staged, staged_bytes, slot_of}
use Rattle.pager_state.specs.Pages.{pages_from, differs}
use Rattle.pager_state.specs.Stores.{Disk, content, disk_of, Act, CommitFrame, stored, put_file}
use Rattle.pager_state.specs.Checkpoint.{checkpoint_todo, checkpoint_advance}
use Rattle.pager_state.specs.Commit.{checkpoint_frames, salt_of, commit_frame_act, committed_pager, committed_world, frames_todo, frames_advance, commit_todo, commit_advance}
use Rattle.pager_state.specs.Steps.{todo, advance}
use Rattle.pager_state.specs.declared.Staged.{Staged}
use Rattle.pager_state.specs.declared.Job.TheVariants as job
use Rattle.pager_state.proofs.Next.{todo-by, advance-by}
use Rattle.pager_state.proofs.Searches.{pages-none}
use Rattle.history.specs.Model.{Model, or_else, model_pages, model_commit}
use Rattle.history.specs.Run.{kept_by}
use Rattle.history.proofs.Files.{same-file, length-content}
use Rattle.history.proofs.Frames.{last-same, last-other, page-last, place_same, batches_of, batches-append, batches-page}
use Rattle.history.proofs.Slots.{Slots, staged-long}
use Rattle.history.proofs.Disk.{view_of, header_over, OnDisk, log-len, log-inside}
use Rattle.history.proofs.Rest.{Held, Tabled, Resting, Committing, Checkpointing, ForSome, InvJob, world_page, page-view, page-committed, step-fine}
use Rattle.history.proofs.Append.{longer, whole-store, committed-on, cut_ok}
use Rattle.history.proofs.Stepping.{StepOk, table-entered, settled}
use Rattle.history.proofs.CommitFrame.{framed-len, framed-header}

-- nothing is staged any more
pub none-slots : (s : Staged) → Slots s → Slots (none_staged s)
none-slots s k = record { few = omega arith; long = k.long; low = λ i h. absurd (omega arith); once = λ i h. absurd (omega arith) }

pub none-staged : (s : Staged) (n : ℕ) → is_staged (none_staged s) n ≡ false
unfolding is_staged slot_of
none-staged s n = refl

-- what the model enters
entered_below : (b : Model) (n : ℕ) → 1 ≤ n → n < count_of b.given → model_pages b n ≡ or_else (b.staged n) (b.pages n)
unfolding model_pages
entered_below b n h k = rw (lt-ltb n (count_of b.given) k, le-leb 1 n h)

entered-above : (b : Model) (n : ℕ) → count_of b.given ≤ n → model_pages b n ≡ None
unfolding model_pages
entered-above b n h = rw (le-ltb n (count_of b.given) h)

no-commit : (g : List ℕ) (v : World) (salt answer : ℕ) (t : Bool) → commit_todo g (pick t (job.Checkpoint salt 0 answer) job.Idle) v ≡ []
unfolding commit_todo
no-commit g v salt answer true = refl
no-commit g v salt answer false = refl

module _ (g : List ℕ) (w : World) (b : Model) (z : List ℕ) (h : DbHeader) (salt p answer : ℕ) (job_is : w.pager.job ≡ job.Commit h salt p answer)
    (k : ForSome (Committing h salt p w g b) z) (none_left : pages_from (differs g w) p ≡ []) where
  abbrev c : Committing h salt p w g b k.l k.S k.P k.mh
  c = k.it

  abbrev fs : List (List ℕ)
  fs = k.S ++ k.P

  abbrev f : List ℕ
  f = encode_frame 0 (count_of h) (salt_of w) (encode_header h)

  abbrev S' : List (List ℕ)
  S' = k.S ++ (k.P ++ (encode_frame 0 (count_of h) (salt_of w) (encode_header h) ∷ []))

  abbrev v : World
  v = committed_world h salt answer w

  f-long : length f ≡ frame_size
  f-long = length-encode_frame 0 (count_of h) (salt_of w) (encode_header h) (length-encode_header h)

  salt-fits : salt_of w < 2 ^ 32
  salt-fits = rw c.held.salt c.held.on.log.written.salt

  f-good : good k.l.salt f ≡ true
  f-good =
      ap (λ (s : ℕ). good s f) (sym c.held.salt)
      ∙ good-page 0 (count_of h) (salt_of w) (encode_header h) (omega arith) salt-fits (λ e. omega arith)

  f-page : page_of f ≡ 0
  f-page = page-encoded 0 (count_of h) (salt_of w) (encode_header h) (omega arith)

  f-count : wal.commit_count f ≡ count_of h
  f-count = count-encoded 0 (count_of h) (salt_of w) (encode_header h) (omega (arith, c.most))

  f-commits : wal.commit_count f ≡ 0 → ⊥
  f-commits e = omega (arith, f-count, c.least)

  room : w.pager.wal.len + frame_size ≤ wal_area
  room = omega (arith, c.room)

  at-is : w.pager.wal.len ≡ chunk_at (length fs)
  at-is = log-len c.held.on ∙ omega arith

  again : S' ≡ fs ++ (f ∷ [])
  again = sym (append_assoc k.S k.P (f ∷ []))

  stored_is : stored (commit_frame_act h w) (disk_of w) ≡ longer c.held.on f f-long f-good room f
  stored_is = whole-store c.held.on f f-long f-good room CommitFrame true

  disk-is : disk_of v ≡ stored (commit_frame_act h w) (disk_of w)
  unfolding committed_world committed_pager put_file
  disk-is =
      let e : w.pager.wal.len + frame_size ≡ max w.pager.wal.len (w.pager.wal.len + length f) = omega (arith, f-long) in
      λ i. record { main = (disk_of w).main; log = same-file {f = record { area = (stored (commit_frame_act h w) (disk_of w)).log.area; len = (with_frame w.pager.wal (count_of h)).len }} {g = (stored (commit_frame_act h w) (disk_of w)).log} refl (framed-len w.pager.wal (count_of h) ∙ e) i }

  -- ---- the pages

  all_settled : (n : ℕ) → n < page_limit → is_staged w.pager.staged n ≡ true → world_page w n ≡ Some (staged_bytes w.pager.staged g n)
  all_settled n hn s = go (le-or-lt p n)
    where
      go : (p ≤ n) ⊎ (n < p) → world_page w n ≡ Some (staged_bytes w.pager.staged g n)
      go (inl q) =
          settled g w n (pages-none (differs g w) p none_left n q hn) s (staged-long w.pager.staged c.held.slots g n c.held.staging_long s)
      go (inr q) = c.done n hn q s

  model-staged : (n : ℕ) (t : Bool) → is_staged w.pager.staged n ≡ t → b.staged n ≡ pick t (Some (staged_bytes w.pager.staged g n)) None
  model-staged n t e = sym (c.held.staged n) ∙ rw e

  -- a page that is not staged was below the old count
  old-page : (n : ℕ) → 1 ≤ n → n < count_of h → is_staged w.pager.staged n ≡ false → n < count_of b.header
  old-page n h1 h2 s = go (le-or-lt (count_of b.header) n)
    where
      go : (count_of b.header ≤ n) ⊎ (n < count_of b.header) → n < count_of b.header
      go (inl q) = let e = c.joins n h1 q h2 in let zz : ◌≡◌ {A = ℕ} 0 1 = cc in absurd (omega arith)
      go (inr q) = q

  page-now : (n : ℕ) → 1 ≤ n → n < count_of h → (t : Bool) → is_staged w.pager.staged n ≡ t → world_page w n ≡ or_else (b.staged n) (b.pages n)
  page-now n h1 h2 true s =
      all_settled n (omega (arith, c.most)) s ∙ sym (rw (model-staged n true s))
  page-now n h1 h2 false s =
      let hn : n < page_limit = omega (arith, c.most) in
      page-committed c.held c.table n hn (c.unstaged n hn s) ∙ c.held.on.model.pages n h1 (old-page n h1 h2 s) ∙ sym (rw (model-staged n false s))

  page-there : (n : ℕ) → 1 ≤ n → n < count_of h → (t : Bool) → is_staged w.pager.staged n ≡ t → (x : List ℕ) × (or_else (b.staged n) (b.pages n) ≡ Some x)
  page-there n h1 h2 true s = (staged_bytes w.pager.staged g n, rw (model-staged n true s))
  page-there n h1 h2 false s = let r = c.held.on.model.there n h1 (old-page n h1 h2 s) in (r.0, rw (model-staged n false s) r.1)

  page-committed' : (n : ℕ) → 1 ≤ n → n < count_of h → view_of S' k.mh w.main n ≡ or_else (b.staged n) (b.pages n)
  page-committed' n h1 h2 =
      rw (again, last-other n fs f (λ e. omega (arith, f-page))) (sym (page-view c.held c.table n (omega (arith, c.most))))
      ∙ page-now n h1 h2 (is_staged w.pager.staged n) refl

  -- ---- header and batches

  top-is : header_over k.mh S' ≡ Ok h
  unfolding header_over
  top-is =
      let e : body_of (page_in 0 (fs ++ (f ∷ []))) ≡ encode_header h =
      page-last 0 (fs ++ (f ∷ [])) (body_of f) (last-same 0 fs f f-page) ∙ body_back 0 (count_of h) (salt_of w) (encode_header h) in
      let q : header_size + frame_size * length fs ≡ 0 → ⊥ = λ x. omega arith in
      rw (again, place_same 0 fs f f-page, ne_eqb (header_size + frame_size * length fs) 0 q, e) (decode-encode h c.plain)

  batches-is : batches_of S' ≡ b.committed ++ b.waiting
  batches-is =
      batches-append k.S (k.P ++ (f ∷ []))
      ∙ rw (batches-append k.P (f ∷ []), batches-page f (λ e. omega (arith, f-page)), append-nil (batches_of k.P), c.held.on.model.batches, c.held.waiting)

  given-count : count_of b.given ≡ count_of h
  given-count = ap count_of c.given

  on-after : OnDisk (disk_of v) (model_commit b) k.l S' [] [] k.mh
  on-after =
      rw (disk-is, stored_is) (committed-on c.held.on f f-long f-good room f-commits (model_commit b) (record {
        top = top-is ∙ ap Ok (sym c.given);
        plain = rw c.given c.plain;
        least = omega (arith, given-count, c.least);
        most = omega (arith, given-count, c.most);
        pages = λ n h1 h2. page-committed' n h1 (omega (arith, given-count)) ∙ sym (entered_below b n h1 h2);
        there = λ n h1 h2. let r = page-there n h1 (omega (arith, given-count)) (is_staged w.pager.staged n) refl in (r.0, entered_below b n h1 h2 ∙ r.1);
        above = entered-above b;
        batches = batches-is;
        times = rw (append-nil (b.committed ++ b.waiting)) c.held.on.model.times;
      }))

  held_after : Held v g (model_commit b) k.l S' [] k.mh
  unfolding committed_world committed_pager batches_in
  held_after =
      let q = c.held in
      record {
        on = on-after;
        table_long = length-set w.table 0 _ ∙ q.table_long;
        staging_long = q.staging_long;
        salt = ap (λ (x : WalHeader). x.salt) (framed-header w.pager.wal (count_of h)) ∙ q.salt;
        older = rw (framed-header w.pager.wal (count_of h)) q.older;
        clock = rw (framed-header w.pager.wal (count_of h)) q.clock;
        header = sym c.given;
        clean = q.clean;
        slots = none-slots w.pager.staged q.slots;
        staged = λ n. rw (none-staged w.pager.staged n);
        waiting = refl;
      }

  table-after : Tabled v (S' ++ []) k.mh
  unfolding committed_world
  table-after m hm =
      rw (append-nil S', again) (table-entered w.table fs k.mh f 0 w.pager.wal.len c.held.table_long (omega arith) f-page at-is c.table m hm)

  -- ---- the committed bytes

  kept-is : joined S' ≡ kept_by (commit_frame_act h w) (stored (commit_frame_act h w) (disk_of w)) z
  kept-is =
      let d : Disk = stored (commit_frame_act h w) (disk_of w) in
      let o : OnDisk (stored (commit_frame_act h w) (disk_of w)) (model_commit b) k.l S' [] [] k.mh = rw disk-is at on-after in
      let n : length (content d.log) ≡ d.log.len = length-content d.log (log-inside o) in
      let m : d.log.len ≡ w.pager.wal.len + frame_size = ap (λ (x : Disk). x.log.len) stored_is ∙ omega (arith, f-long) in
      let t : take (w.pager.wal.len + length f) (content d.log) ≡ content d.log =
      take_all (w.pager.wal.len + length f) (content d.log) (omega (arith, f-long, n, m)) in
      let R : List ℕ = joined (k.P ++ (f ∷ [])) in
      let a : joined S' ≡ z ++ R = joined-append k.S (k.P ++ (f ∷ [])) ∙ ap (λ (x : List ℕ). x ++ R) k.kept in
      let b : encode_wal_header k.l ++ (joined (S' ++ []) ++ []) ≡ encode_wal_header k.l ++ z ++ R =
      ap (λ (x : List ℕ). encode_wal_header k.l ++ x) (append-nil (joined (S' ++ [])) ∙ ap joined (append-nil S') ∙ a) ∙ sym (append_assoc (encode_wal_header k.l) z R) in
      let front : length (encode_wal_header k.l ++ z) ≡ header_size + length z =
      length-append (encode_wal_header k.l) z ∙ omega (arith, length-encode_wal_header k.l) in
      a ∙ ap (λ (x : List ℕ). z ++ x) (sym (rw (t, o.log.bytes, b) (drop_at (encode_wal_header k.l ++ z) R (header_size + length z) front)))

  -- ---- after the commit frame

  resting : Resting v g (model_commit b) k.l S' [] k.mh
  resting = record { held = held_after; table = table-after; loose = λ n hn. refl }

  checkpoint-begun : Checkpointing salt 0 v g (model_commit b) k.l S' [] k.mh
  checkpoint-begun =
      record {
        held = held_after;
        table = table-after;
        loose = λ n hn. refl;
        fits = c.fits;
        stored = λ n x h1 h2 hc e. absurd (omega arith);
      }

  after-by : (t : Bool) → InvJob (pick t (job.Checkpoint salt 0 answer) job.Idle) v g (model_commit b) (kept_by (commit_frame_act h w) (stored (commit_frame_act h w) (disk_of w)) z)
  after-by true = record { l = k.l; S = S'; P = []; mh = k.mh; it = checkpoint-begun; kept = kept-is }
  after-by false = record { l = k.l; S = S'; P = []; mh = k.mh; it = resting; kept = kept-is }

  todo-is : todo g w ≡ commit_frame_act h w ∷ checkpoint_todo v.pager.job v
  unfolding commit_todo checkpoint_todo frames_todo
  todo-is =
      todo-by g w (job.Commit h salt p answer) job_is
      ∙ append-nil (frames_todo g h salt answer (pages_from (differs g w) p) w) ∙ ap (λ (x : List ℕ). frames_todo g h salt answer x w) none_left

  left_is : todo g v ≡ checkpoint_todo v.pager.job v
  unfolding todo committed_world committed_pager
  left_is = ap (λ (x : List Act). x ++ checkpoint_todo v.pager.job v) (no-commit g v salt answer (leb checkpoint_frames (with_frame w.pager.wal (count_of h)).frame_count))

  next-is : advance g w ≡ v
  unfolding commit_advance checkpoint_advance
  next-is =
      advance-by g w (job.Commit h salt p answer) job_is ∙ ap (λ (x : List ℕ). frames_advance g h salt answer x w) none_left

  pub commit-frame-step : StepOk g w b z
  unfolding committed_world committed_pager
  commit-frame-step =
      record {
        act = commit_frame_act h w;
        rest = checkpoint_todo v.pager.job v;
        next = v;
        todo_is = todo-is;
        next_is = next-is;
        lies = le-leb (w.pager.wal.len + length f) wal_area (omega (arith, f-long, room));
        covers = (omega (arith, f-long), omega (arith, f-long));
        fine = step-fine c.held;
        disk = disk-is;
        left = left_is;
        after = after-by (leb checkpoint_frames (with_frame w.pager.wal (count_of h)).frame_count);
        cut = λ j hj. cut_ok c.held.on f f-long f-good room CommitFrame true j (omega (arith, f-long)) z k.kept;
      }
