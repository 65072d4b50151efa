-- Appending a batch. Assumes nothing.
use mathlib.Core.Path.{◌≡◌, refl, sym, ap, ◌∙◌}
use mathlib.Core.Bool.{Bool, true, false, not}
use mathlib.Core.List.{List, [], ◌∷◌, ◌++◌, append_assoc}
use Prim.Native.Nat.{ℕ, ◌+◌, ◌^◌, max, ◌≤◌, ◌<◌}
use native.Mathlib.Omega.{arith}
use borrow.Author.Tests.{leb-true}
use lib.Dec.{leb}
use lib.ListN.{length}
use Rattle.std.specs.Prelude.{None}
use Rattle.le.specs.Choice.{both}
use Rattle.le.specs.Le.{put, Bytes}
use Rattle.le.proofs.Compare.{both_true}
use Rattle.page.specs.Page.{page_size}
use Rattle.refusal.specs.declared.Refusal.TheVariants as refusal
use Rattle.refusal.proofs.Rows.{accepted}
use Rattle.refusal.proofs.Judged.{met, first-none}
use Rattle.frame.specs.Frame.{frame_size, encode_frame, body_of}
use Rattle.frame.proofs.Stores.{length-encode_frame}
use Rattle.frame.proofs.RoundTrip.{body_back}
use Rattle.mvcc.specs.Batch.{Each}
use Rattle.mvcc.specs.Seen.{decode_refusal, decodes, commit_ts_of, canonical, heading_refusal}
use Rattle.mvcc.proofs.Bytes.{field-small}
use Rattle.mvcc.proofs.Encode.{each_append}
use Rattle.mvcc.proofs.Canonical.{none-decodes, canonical-decodes, canonical-commit_ts_of, canonical-records, canonical-length}
use Rattle.wal.specs.Recovery.{page_of, batch_page, good, wal_area}
use Rattle.wal.specs.Recovery as wal
use Rattle.wal.specs.Write.{with_frame, has_room}
use Rattle.wal.specs.declared.WalHeader.{WalHeader}
use Rattle.wal.proofs.Frames.{page-encoded, count-encoded, good-batch}
use Rattle.pager_state.specs.World.{World, world, page_limit, log_fine, busy, read_only, with_wal}
use Rattle.pager_state.specs.Batches.{append_refusal, batch_frame, append_batch, append_after}
use Rattle.pager_state.specs.Stores.{disk_of, Act, Put, Batched, stored}
use Rattle.pager_state.specs.declared.FileKind.TheVariants as file
use Rattle.pager_state.specs.declared.Job.TheVariants as job
use Rattle.pager_state.proofs.Begun.{off, not-busy}
use Rattle.history.specs.Model.{Batch, Model, batch_in, model_wait, model_stores}
use Rattle.history.specs.Calls.{Append, refused_by, stores_of, world_after}
use Rattle.history.specs.Run.{kept_after}
use Rattle.history.proofs.Frames.{last-other, place_other, batches-append, batches-batch}
use Rattle.history.proofs.Disk.{Timed, OnDisk, DiskOk}
use Rattle.history.proofs.Opening.{re-model}
use Rattle.history.proofs.Rest.{Resting, ForSome, Inv, held-disk}
use Rattle.history.proofs.Append.{longer, whole-store, whole-on, cut_ok}
use Rattle.history.proofs.CommitFrame.{framed-len, framed-header}
use Rattle.history.proofs.Running.{cut-none, cut-cons}
use Rattle.history.proofs.Taken.{Taken, taken-by, at_rest, rest-inv}

module _ (w : World) (g : List ℕ) (b : Model) (z : List ℕ) (i : Inv w g b z) (body : List ℕ) (bs : Bytes body) (ok : refused_by (Append body) w g ≡ 0) where
  taken : append_refusal w.pager w.log body ≡ None
  unfolding refused_by
  taken = accepted _ ok

  record Appending : Type 0 where
    short : length body ≤ page_size
    idle : w.pager.job ≡ job.Idle
    room : w.pager.wal.len + frame_size ≤ wal_area
    does : decodes body ≡ true

  appending-ok : Appending
  unfolding append_refusal
  appending-ok =
      let l : Bool = log_fine w.pager.wal.len w.log in
      let a = met (both l (leb (length body) page_size)) refusal.Area _ taken in
      let c = met (not (busy w.pager)) refusal.Busy _ (first-none (heading_refusal body) _ a.1).1 in
      let d = met (not (read_only w.pager)) refusal.ReadOnly _ c.1 in
      let m = met (has_room w.pager.wal) refusal.LogFull (decode_refusal body) d.1 in
      record {
        short = leb-true _ _ (both_true l (leb (length body) page_size) a.0).1;
        idle = not-busy w.pager.job (off _ c.0);
        room = leb-true _ _ m.0;
        does = none-decodes body m.1;
      }

  idle : w.pager.job ≡ job.Idle
  idle = appending-ok.idle

  does : decodes body ≡ true
  does = appending-ok.does

  room : w.pager.wal.len + frame_size ≤ wal_area
  room = appending-ok.room

  k : ForSome (Resting w g b) z
  k = at_rest w g b z i idle

  abbrev pub f : List ℕ
  f = encode_frame batch_page 0 w.pager.wal.header.salt (canonical body)

  f-long : length f ≡ frame_size
  f-long = length-encode_frame batch_page 0 w.pager.wal.header.salt (canonical body) (canonical-length body bs does appending-ok.short)

  salt-fits : w.pager.wal.header.salt < 2 ^ 32
  salt-fits = rw k.it.held.salt k.it.held.on.log.written.salt

  f-good : good k.l.salt f ≡ true
  f-good =
      ap (λ (s : ℕ). good s f) (sym k.it.held.salt)
      ∙ good-batch 0 w.pager.wal.header.salt (canonical body) salt-fits ∙ canonical-decodes body bs does

  f-page : page_of f ≡ batch_page
  f-page = page-encoded batch_page 0 w.pager.wal.header.salt (canonical body) (omega arith)

  f-count : wal.commit_count f ≡ 0
  f-count = count-encoded batch_page 0 w.pager.wal.header.salt (canonical body) (omega arith)

  f-batch : batch_in (body_of f) ≡ batch_in body
  unfolding batch_in
  f-batch =
      rw (body_back batch_page 0 w.pager.wal.header.salt (canonical body), canonical-commit_ts_of body bs does, canonical-records body bs does)

  abbrev pub v : World
  v = world (with_wal w.pager (with_frame w.pager.wal 0)) w.table (put w.log w.pager.wal.len f) w.main

  abbrev pub act : Act
  act = Put Batched file.Log w.pager.wal.len f false

  stored_is : stored act (disk_of w) ≡ longer k.it.held.on f f-long f-good room f
  stored_is = whole-store k.it.held.on f f-long f-good room Batched false

  pub disk-is : disk_of v ≡ stored act (disk_of w)
  disk-is =
      let e : (with_frame w.pager.wal 0).len ≡ max w.pager.wal.len (w.pager.wal.len + length f) = framed-len w.pager.wal 0 ∙ omega (arith, f-long) in
      let q : disk_of v ≡ longer k.it.held.on f f-long f-good room f =
      λ j. record { main = (disk_of w).main; log = record { area = put w.log w.pager.wal.len f; len = e j } } in
      q ∙ sym stored_is

  on-after : OnDisk (disk_of v) b k.l k.S (k.P ++ (f ∷ [])) [] k.mh
  on-after = rw (disk-is, stored_is) (whole-on k.it.held.on f f-long f-good room f-count)

  again : k.S ++ (k.P ++ (f ∷ [])) ≡ k.S ++ k.P ++ (f ∷ [])
  again = sym (append_assoc k.S k.P (f ∷ []))

  other : (n : ℕ) → n < page_limit → page_of f ≡ n → ⊥
  other n h e = omega (arith, f-page)

  -- the body is bytes
  timed : Timed (b.committed ++ (b.waiting ++ (batch_in body ∷ [])))
  unfolding Each batch_in commit_ts_of
  timed =
      rw (← append_assoc b.committed b.waiting (batch_in body ∷ []))
      (each_append (λ (x : Batch). x.time < 2 ^ 64) (b.committed ++ b.waiting) (batch_in body ∷ []) k.it.held.on.model.times
      (field-small 8 8 body bs, tt))

  resting : Resting v g (model_wait (batch_in body) b) k.l k.S (k.P ++ (f ∷ [])) k.mh
  resting =
      let q = k.it.held in
      record {
        held =
            record {
              on = re-model on-after (model_wait (batch_in body) b) refl refl refl timed;
              table_long = q.table_long;
              staging_long = q.staging_long;
              salt = ap (λ (x : WalHeader). x.salt) (framed-header w.pager.wal 0) ∙ q.salt;
              older = rw (framed-header w.pager.wal 0) q.older;
              clock = rw (framed-header w.pager.wal 0) q.clock;
              header = q.header;
              clean = q.clean;
              slots = q.slots;
              staged = q.staged;
              waiting = batches-append k.P (f ∷ []) ∙ rw (batches-batch f f-page, f-batch, q.waiting);
            };
        table = λ n h. rw (again, place_other n (k.S ++ k.P) f (other n h)) (k.it.table n h);
        loose = λ n h. last-other n k.P f (other n h) ∙ k.it.loose n h;
      }

  pub world_is : world_after (Append body) w g ≡ v
  unfolding world_after append_batch append_after batch_frame
  world_is = rw taken

  pub stores-is : stores_of (Append body) w g ≡ act ∷ []
  unfolding stores_of batch_frame
  stores-is = refl

  after-ok : Inv v g (model_wait (batch_in body) b) z
  after-ok =
      rest-inv v g (model_wait (batch_in body) b) z idle (record { l = k.l; S = k.S; P = k.P ++ (f ∷ []); mh = k.mh; it = resting; kept = k.kept })

  after-disk : DiskOk (stored act (disk_of w)) (model_wait (batch_in body) b) z
  after-disk = rw disk-is at (held-disk resting.held k.kept)

  pub append-ok : Taken (Append body) w g b z
  unfolding model_stores kept_after
  append-ok =
      taken-by (Append body) w g b z world_is stores-is after-ok
      (cut-cons body act [] (disk_of w) b z (omega (arith, f-long), omega (arith, f-long))
      (λ j hj. cut_ok k.it.held.on f f-long f-good room Batched false j (omega (arith, f-long)) z k.kept) after-disk
      (cut-none body (stored act (disk_of w)) (model_wait (batch_in body) b) z after-disk))
