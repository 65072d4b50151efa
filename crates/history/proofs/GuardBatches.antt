-- Batches that are appended: nothing refuses them while there is room, and once committed an opening returns them.
use mathlib.Core.Path.{◌≡◌, sym, ap, ◌∙◌}
use mathlib.Core.Bool.{true}
use mathlib.Core.List.{List, [], ◌∷◌, ◌++◌}
use Prim.Native.Nat.{ℕ, zero, suc, ◌+◌, ◌*◌, ◌^◌, ◌≤◌, ◌<◌}
use native.Mathlib.Omega.{arith}
use borrow.Author.Tests.{le-leb}
use lib.ListN.{length, replicate}
use Rattle.std.specs.Prelude.{None, Err}
use Rattle.le.specs.Le.{put, Bytes}
use Rattle.le.proofs.Stores.{length-put}
use Rattle.le.proofs.Compare.{no_test}
use Rattle.page.specs.Page.{page_size}
use Rattle.refusal.specs.Refusal.{number_of}
use Rattle.refusal.specs.declared.Refusal.TheVariants as refusal
use Rattle.refusal.proofs.Rows.{accepted}
use Rattle.header.specs.declared.DbHeader.{DbHeader}
use Rattle.frame.specs.Frame.{frame_size}
use Rattle.frame.proofs.Stores.{length-encode_frame}
use Rattle.mvcc.specs.Seen.{refusal_of, decodes, canonical}
use Rattle.mvcc.proofs.Canonical.{decodes-none, decodes-zero, canonical-length}
use Rattle.wal.specs.Header.{header_size}
use Rattle.wal.specs.Recovery.{batch_page, wal_area}
use Rattle.wal.specs.Write.{longer, with_frame}
use Rattle.pager_state.specs.Commit.{checkpoint_frames}
use Rattle.pager_state.specs.World.{World, world, count_of, with_wal}
use Rattle.pager_state.specs.Batches.{append_refusal, batch_frame, append_batch, append_after}
use Rattle.pager_state.specs.Opening.{create_fine}
use Rattle.pager_state.specs.Steps.{differing, commit_world, commit_start, commit_refusal}
use Rattle.pager_state.proofs.Made.{Made}
use Rattle.history.specs.Model.{batch_in, first_model}
use Rattle.history.specs.Calls.{Append, Commit, Words, refused_by, world_after}
use Rattle.history.specs.Run.{Run, whole, Whole, next, start}
use Rattle.history.specs.Demand3.{Demand3}
use Rattle.history.specs.Guards.{new_store, GoodHeader, Joined, Unrefused, UnrefusedBatch, LongerBy, Empty, Ends, after, Accepted, committed_batch, frames_after, Returned, Recovers, Filled}
use Rattle.history.proofs.GuardRefusals.{told-full, none-begun, unrefused, unrefused-batch, batch-told-full}
use Rattle.history.proofs.GuardCommit.{commit-frame-idle, commit-ends}
use Rattle.history.proofs.GuardNew.{fine-create, none-staged, none_differ, new-unrefused, new-made, new-count, new_none, new-len, new-frames}
use Rattle.history.proofs.GuardHistories.{made-history}
use Rattle.history.proofs.GuardModel.{world-after, staging-after, append-model, open-model, commit-batches}
use Rattle.history.proofs.GuardReached.{Reached, reached-none, reached-whole, reached-made, opening-taken, opening-returns}

-- ---- in any history

module _ (d : Demand3) (t l m g : List ℕ) (salt : ℕ) (f : create_fine t l m g ≡ true) (small : salt < 2 ^ 32) where
  abbrev new : Run
  new = start t l m g salt

  module _ {r : Run} (k : Reached new r) (body : List ℕ) (h : DbHeader) (next : ℕ) (b : Bytes body) (v : Words h) (s : next < 2 ^ 32)
      (a : Accepted (Append body) r) (c : Accepted (Commit h next) (whole (Append body) r)) (few : frames_after (whole (Append body) r) < checkpoint_frames) where
    abbrev appended : Run
    appended = whole (Append body) r

    reached-appended : Reached new appended
    reached-appended = reached-whole k (Append body) b

    reached-committed-front : Reached new (committed_batch body h next r)
    reached-committed-front = reached-whole reached-appended (Commit h next) (v, s)

    all-committed : (committed_batch body h next r).model.committed ≡ r.model.committed ++ (r.model.waiting ++ (batch_in body ∷ []))
    unfolding refused_by
    all-committed =
        let u = reached-made reached-appended (new-made t l m g salt f) in
        let e = accepted (commit_refusal appended.staging appended.world h) c in
        commit-batches h next appended c (commit-frame-idle appended.staging appended.world h next u.slots (omega arith) e few)
        ∙ rw (append-model body r a)

    pub returned : Returned r body h next
    returned =
        record {
          batches = all-committed;
          opened = λ lent z.
              opening-returns d t l m g salt f small reached-committed-front lent z
              ∙ rw (open-model lent (committed_batch body h next r) (opening-taken d t l m g salt f small reached-committed-front lent z)) all-committed;
        }

-- ---- one batch more

-- a body that can be appended
pub record Good (body : List ℕ) : Type 0 where
  pub page : length body ≤ page_size
  pub bytes : Bytes body
  pub decoded : decodes body ≡ true

good-refusal : (body : List ℕ) → Good body → refusal_of body ≡ 0
good-refusal body k = decodes-zero body k.decoded

-- no refusal but 15 of a commit, nothing staged, k frames
pub record Ready (h : DbHeader) (k : ℕ) (r : Run) : Type 0 where
  pub unrefused : Unrefused r.staging r.world h
  pub log_file : r.world.pager.wal.len ≡ header_size + frame_size * k
  pub unstaged : r.world.pager.staged.count ≡ 0
  pub frames : r.world.pager.wal.frame_count ≡ k

module _ (h : DbHeader) (k : ℕ) (r : Run) (u : Ready h k r) (body : List ℕ) (b : Good body) where
  unrefused-by : UnrefusedBatch r.world.pager r.world.log body
  unrefused-by =
      record {
        log = u.unrefused.areas.log;
        log_file = u.unrefused.log_file;
        page = b.page;
        long = λ e. omega (arith, e, good-refusal body b);
        marked = λ e. omega (arith, e, good-refusal body b);
        rests = u.unrefused.rests;
        writes = u.unrefused.writes;
      }

  batch-full : k ≡ 1024 → (append_batch r.world.pager r.world.log body).answer ≡ Err refusal.LogFull
  batch-full e = batch-told-full r.world.pager r.world.log body unrefused-by (omega (arith, u.log_file, e))

  module _ (low : k < 1024) where
    append-none : append_refusal r.world.pager r.world.log body ≡ None
    append-none =
        let room : r.world.pager.wal.len + frame_size ≤ wal_area = omega (arith, u.log_file) in
        unrefused-batch r.world.pager r.world.log body unrefused-by
        ∙ rw (le-leb (r.world.pager.wal.len + frame_size) wal_area room) (decodes-none body b.decoded)

    append-taken : Accepted (Append body) r
    unfolding refused_by
    append-taken = ap number_of append-none

    abbrev appended_world : World
    appended_world =
        world (with_wal r.world.pager (with_frame r.world.pager.wal 0)) r.world.table (put r.world.log r.world.pager.wal.len (batch_frame r.world.pager body))
        r.world.main

    pub append-world : (whole (Append body) r).world ≡ appended_world
    unfolding world_after append_batch append_after
    append-world = world-after (Append body) r ∙ rw append-none

    append-long : length appended_world.log ≡ wal_area
    unfolding batch_frame
    append-long =
        let n = length-encode_frame batch_page 0 r.world.pager.wal.header.salt (canonical body) (canonical-length body b.bytes b.decoded b.page) in
        length-put r.world.log r.world.pager.wal.len (batch_frame r.world.pager body) (omega (arith, n, u.log_file, u.unrefused.areas.log)) ∙ u.unrefused.areas.log

    pub append-ready : Ready h (suc k) (whole (Append body) r)
    unfolding longer
    append-ready =
        let x = u.unrefused in
        let e = append-world in
        let y : (whole (Append body) r).staging ≡ r.staging = staging-after (Append body) r in
        let room : r.world.pager.wal.len + frame_size ≤ wal_area = omega (arith, u.log_file) in
        record {
          unrefused = rw (e, y)
              (record {
                areas = record { table = x.areas.table; staging = x.areas.staging; log = append-long; main = x.areas.main };
                log_file = room;
                main_file = x.main_file;
                pages = x.pages;
                compared = λ n l o i. no_test (sym (none-staged r.world u.unstaged n) ∙ o);
                rests = x.rests;
                writes = x.writes;
                header = x.header;
                joined = x.joined;
              });
          log_file = rw e (omega (arith, u.log_file));
          unstaged = rw e u.unstaged;
          frames = rw e (omega (arith, u.frames));
        }

  -- ---- and a commit

  none-differs : differing r.staging r.world ≡ 0
  none-differs = none_differ r.world u.unstaged r.staging

  pub ready-begun : k < 1024 → commit_refusal r.staging r.world h ≡ None
  ready-begun low = unrefused r.staging r.world h u.unrefused (omega (arith, u.log_file, none-differs))

  module _ (q : Made r.world) (low : k < 1024) (salt : ℕ) where
    ready-ends : Ends r.staging r.world h salt
    ready-ends =
        commit-ends r.staging r.world h salt q.slots (omega (arith, u.frames)) (ready-begun low)

    pub ready-longer : k < 99 → LongerBy r.world (commit_world r.staging r.world h salt) 1
    ready-longer e = rw none-differs at (ready-ends.below (omega (arith, u.frames, none-differs)))

    ready-checkpointed : 99 ≤ k → Empty (commit_world r.staging r.world h salt)
    ready-checkpointed e = ready-ends.above (omega (arith, u.frames, none-differs))

  ready-full : k ≡ 1024 → commit_start r.staging r.world h ≡ Err refusal.LogFull
  ready-full e = told-full r.staging r.world h u.unrefused (omega (arith, u.log_file, none-differs, e))

-- ---- from a new store on

filled : (h : DbHeader) (body : List ℕ) → Good body → (n k : ℕ) (r : Run) → Ready h k r → k + n ≤ 1024
    → Ready h (k + n) (after (replicate n (Whole (Append body))) r)
unfolding after next
filled h body b zero k r u e = let z : k + 0 ≡ k = omega arith in rw z u
filled h body b (suc n) k r u e =
    let z : suc k + n ≡ k + suc n = omega arith in
    rw z at (filled h body b n (suc k) (whole (Append body) r) (append-ready h k r u body b (omega arith)) (omega arith))

module _ (t l m g : List ℕ) (salt : ℕ) (f : create_fine t l m g ≡ true) (h : DbHeader) (k : GoodHeader h) (c : count_of h ≤ 2) where
  pub new-ready : Ready h 0 (start t l m g salt)
  unfolding start
  new-ready =
      let j : Joined (new_store t l m g salt) h = λ n a b d. absurd (omega (arith, new-count t l m g salt f, b, c, d)) in
      record {
        unrefused = new-unrefused t l m g salt f (new_store t l m g salt).pager.staged h k j g (fine-create t l m g f).staging;
        log_file = new-len t l m g salt f;
        unstaged = new_none t l m g salt f;
        frames = new-frames t l m g salt f;
      }

  pub fills : (body : List ℕ) → Good body → (n : ℕ) → n ≤ 1024 → Filled (after (replicate n (Whole (Append body))) (start t l m g salt)) body h n
  fills body b n e =
      let r : Run = after (replicate n (Whole (Append body))) (start t l m g salt) in
      let z : 0 + n ≡ n = omega arith in
      let u : Ready h n r = rw z at (filled h body b n 0 (start t l m g salt) new-ready (omega arith)) in
      let q : Made r.world = made-history (replicate n (Whole (Append body))) (start t l m g salt) (new-made t l m g salt f) in
      record {
        log_file = u.log_file;
        longer = λ z next. ready-longer h n r u body b q (omega arith) next z;
        checkpointed = λ z low next. ready-checkpointed h n r u body b q low next z;
        room = λ low. none-begun r.staging r.world h (ready-begun h n r u body b low);
        full = ready-full h n r u body b;
        full_batch = batch-full h n r u body b;
      }

  pub recovers : Demand3 → salt < 2 ^ 32 → (body : List ℕ) → Good body → (next : ℕ) → Words h → next < 2 ^ 32 → Recovers (start t l m g salt) body h next
  unfolding refused_by start first_model
  recovers d small body b next v s =
      let r : Run = start t l m g salt in
      let a : Accepted (Append body) r = append-taken h 0 r new-ready body b (omega arith) in
      let u : Ready h 1 (whole (Append body) r) = append-ready h 0 r new-ready body b (omega arith) in
      let e : Accepted (Commit h next) (whole (Append body) r) = ap number_of (ready-begun h 1 (whole (Append body) r) u body b (omega arith)) in
      let few : frames_after (whole (Append body) r) < checkpoint_frames = omega (arith, u.frames, none-differs h 1 (whole (Append body) r) u body b) in
      let x : Returned r body h next = returned d t l m g salt f small (reached-none r) body h next b.bytes v s a e few in
      record { appended = a; committed = e; batches = x.batches; opened = x.opened }
