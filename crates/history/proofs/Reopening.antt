-- The store that a clean opening gives: it is at rest, and its recovered batches are the model's committed ones. Assumes nothing.
use mathlib.Core.Path.{◌≡◌, refl, sym, ap, ◌∙◌}
use mathlib.Core.Bool.{Bool, true, false}
use mathlib.Core.List.{List, [], ◌∷◌, map}
use Prim.Native.Nat.{ℕ, zero, suc, ◌+◌, ◌-◌, ◌*◌, ◌≤◌, ◌<◌}
use native.Mathlib.Nat.{zero-add}
use native.Mathlib.Omega.{arith}
use borrow.Author.Tests.{eq-eqb, le-leb}
use lib.ListN.{length, take, drop, get_or, length-take, length-drop, drop_of_length-le}
use lib.Seq.{take-take}
use Rattle.std.specs.Prelude.{Err, None, Ok, Option, Result, Some}
use Rattle.refusal.specs.declared.Refusal.{Refusal}
use Rattle.le.specs.Choice.{pick}
use Rattle.le.proofs.Fields.{part-part}
use Rattle.frame.specs.Frame.{frame_size, frame_at, body_of}
use Rattle.frame.proofs.Places.{body-there}
use Rattle.wal.specs.Header.{header_size}
use Rattle.wal.specs.Recovery.{chunks, chunk_at, is_batch, batches_in, wal_area}
use Rattle.wal.specs.Read.{batch_from, next_batch}
use Rattle.wal.proofs.Places.{get-chunk}
use Rattle.wal.proofs.Recovered.{committed-committed}
use Rattle.wal.proofs.Reading.{Walked, batches-walked}
use Rattle.wal.specs.declared.BatchAt.{BatchAt}
use Rattle.pager_state.specs.World.{World, world, log_fine, busy}
use Rattle.pager_state.specs.Overlay.{page_from}
use Rattle.pager_state.specs.Opening.{table_of, opens_as, open_refusal}
use Rattle.pager_state.specs.Batches.{recovered_refusal, next_recovered}
use Rattle.pager_state.specs.Stores.{Disk, content}
use Rattle.pager_state.specs.declared.AccessMode.TheVariants as mode
use Rattle.history.specs.Model.{Model, Batch, batch_in, model_open, model_stores}
use Rattle.history.specs.Calls.{Lent, read_into, opened_world}
use Rattle.history.specs.Run.{Run, Left, Attempt, kept_after, cut_opening, reopening, reopened}
use Rattle.history.specs.Demand3.{walked_at, walked, Returns, Sized, AllSized, Reopens}
use Rattle.history.proofs.Files.{lasting}
use Rattle.history.proofs.Disk.{OnDisk, DiskOk, LeftOk, disk-kept, committed-is, committed-len}
use Rattle.history.proofs.Rest.{Inv}
use Rattle.history.proofs.Opening.{Areas, laid_on, sized-areas, open_log, open_store, point-is, open-len, open-salt, open-clock, open-below, opens, table_is, area-is, stores-is, cut_on, open-cut, rests}

abbrev pub InvRun : Run → Type 0
InvRun r = Inv r.world r.staging r.model r.kept

-- ---- walking the batches

-- what is told of each batch that an open store gives, from a frame's index on
abbrev pub told_at : {A : Type 0} → (List ℕ → A) → Result (Option BatchAt) Refusal → List ℕ → (ℕ → List A) → List A
told_at tell (Ok (Some b)) l rest = tell (page_from (b.offset + 16) l) ∷ rest (b.index + 1)
told_at tell (Ok None) l rest = []
told_at tell (Err r) l rest = []

pub record Walk {A : Type 0} (tell : List ℕ → A) (w : World) (by : ℕ → ℕ → List A) : Type 0 where
  pub none : (i : ℕ) → by 0 i ≡ []
  pub more : (k i : ℕ) → by (suc k) i ≡ told_at tell (next_recovered w.pager w.log i) w.log (by k)

-- demand 3's is one
told-walked : (f : Result (Option BatchAt) Refusal) (l : List ℕ) (rest : ℕ → List Batch) → walked_at f l rest ≡ told_at batch_in f l rest
told-walked (Ok (Some b)) l rest = refl
told-walked (Ok None) l rest = refl
told-walked (Err r) l rest = refl

pub walked-walk : (w : World) → Walk batch_in w (λ k i. walked k w i)
unfolding walked
walked-walk w = record { none = λ i. refl; more = λ k i. told-walked (next_recovered w.pager w.log i) w.log (walked k w) }

-- a batch that is found is one of the frames
Within : ℕ → Option BatchAt → Type 0
Within e (Some b) = b.index < e
Within e None = Unit {0}

within_step : (i k : ℕ) (t : Bool) (r : Option BatchAt) → Within (suc i + k) r → Within (i + suc k) (pick t (Some (record { index = i; offset = chunk_at i })) r)
unfolding Within
within_step i k true r h = omega arith
within_step i k false (Some b) h = omega arith
within_step i k false None h = tt

batch-within : (i : ℕ) (fs : List (List ℕ)) → Within (i + length fs) (batch_from i fs)
unfolding batch_from Within
batch-within i [] = tt
batch-within i (f ∷ fs) =
    let e : i + 1 ≡ suc i = omega arith in
    within_step i (length fs) (is_batch f) (batch_from (i + 1) fs) (rw e (batch-within (suc i) fs))

within_more : (e n : ℕ) (r : Option BatchAt) → e ≤ n → Within e r → Within n r
unfolding Within
within_more e n (Some b) h w = omega arith
within_more e n None h w = tt

module _ (w : World) (S : List (List ℕ)) (fine : log_fine w.pager.wal.len w.log ≡ true) (idle : busy w.pager ≡ false)
    (end : w.pager.recovered ≡ chunk_at (length S)) (front : chunks (take (chunk_at (length S)) w.log) ≡ S) (long : header_size + frame_size * length S ≤ length w.log) where
  next-is : (i : ℕ) → next_recovered w.pager w.log i ≡ Ok (batch_from i (drop i S))
  unfolding next_recovered recovered_refusal next_batch
  next-is i = rw (fine, idle, end, front)

  body_is : (j : ℕ) → j < length S → page_from (chunk_at j + 16) w.log ≡ body_of (get_or S j [])
  body_is j h =
      let n : length (take (chunk_at (length S)) w.log) ≡ header_size + frame_size * length S = length-take (chunk_at (length S)) w.log ∙ omega arith in
      let g : get_or (chunks (take (chunk_at (length S)) w.log)) j [] ≡ frame_at (chunk_at j) (take (chunk_at (length S)) w.log) =
      get-chunk j (take (chunk_at (length S)) w.log) (omega arith) in
      let f : frame_at (chunk_at j) (take (chunk_at (length S)) w.log) ≡ frame_at (chunk_at j) w.log =
      rw zero-add at (part-part frame_size (chunk_at j) (chunk_at (length S)) 0 w.log (omega arith)) in
      let e : get_or S j [] ≡ frame_at (chunk_at j) w.log = rw front at (g ∙ f) in
      sym (rw e (body-there (chunk_at j) w.log))

  inside : (i m : ℕ) → length S - i ≡ m → Within (length S) (batch_from i (drop i S))
  unfolding batch_from Within
  inside i zero e = rw (drop_of_length-le S {i = i} (omega arith)) tt
  inside i (suc m) e = within_more (i + length (drop i S)) (length S) (batch_from i (drop i S)) (omega (arith, length-drop i S)) (batch-within i (drop i S))

  -- any walk tells the bodies of the batches among the frames, in order
  module _ {A : Type 0} (tell : List ℕ → A) (by : ℕ → ℕ → List A) (walk : Walk tell w by) where
    abbrev told : List (List ℕ) → List A
    told fs = map (λ (f : List ℕ). tell (body_of f)) fs

    walk_step : (k i : ℕ) → ((m : ℕ) → length S ≤ k + m → by k m ≡ told (batches_in (drop m S))) → length S ≤ suc k + i → (r : Option BatchAt)
        → Walked S i r → Within (length S) r → told_at tell (Ok r) w.log (by k) ≡ told (batches_in (drop i S))
    unfolding Within
    walk_step k i later h None f b = sym (ap told f)
    walk_step k i later h (Some found) f b =
        let n : length S ≤ k + (found.index + 1) = omega (arith, f.behind) in
        let p : page_from (found.offset + 16) w.log ≡ body_of (get_or S found.index []) = rw f.place (body_is found.index b) in
        rw (p, later (found.index + 1) n) (sym (ap told f.batches))

    walk_is : (k i : ℕ) → length S ≤ k + i → by k i ≡ told (batches_in (drop i S))
    unfolding batches_in
    walk_is zero i h = rw (walk.none i, drop_of_length-le S {i = i} (omega arith))
    walk_is (suc k) i h =
        rw (walk.more k i, next-is i) (walk_step k i (walk_is k) h (batch_from i (drop i S)) (batches-walked S i) (inside i (length S - i) refl))

-- ---- after the opening

module _ {d : Disk} {b : Model} {z : List ℕ} (k : DiskOk d b z) (lent : Lent) (a : Areas lent d) (w : World) where
  pub on : OnDisk (read_into lent d) b k.l k.S k.P k.t k.mh
  on = laid_on k.on lent a

  abbrev pub opens_to : World
  opens_to = world (open_store on) (table_of k.mh k.S) (read_into lent d).log.area (read_into lent d).main.area

  pub world_is : opened_world mode.ReadWrite lent d w ≡ opens_to
  unfolding opened_world
  world_is =
      rw (opens on lent.table lent.staging a.table a.staging, table_is on lent.table lent.staging a.table a.staging, area-is on lent.table lent.staging a.table a.staging)

  pub opened-rest : Inv (opened_world mode.ReadWrite lent d w) lent.staging (model_open b) z
  unfolding opens_as
  opened-rest =
      rw world_is (record {
        l = k.l;
        S = k.S;
        P = [];
        mh = k.mh;
        it = rests (record { main = (read_into lent d).main; log = lasting (read_into lent d).log (chunk_at (length k.S)) }) (model_open b) k.l k.S k.mh k.mh (open_log on)
            (chunk_at (length k.S)) lent.staging (cut_on on) (open-len on) (open-salt on)
            (omega (arith, open-clock on)) (open-below on) a.staging (λ n. refl) refl;
        kept = k.kept;
      })

  -- a walk tells the bodies of the committed frames' batches
  walked_on : {A : Type 0} (tell : List ℕ → A) (by : ℕ → ℕ → List A) → Walk tell opens_to by → by 1025 0 ≡ map (λ (f : List ℕ). tell (body_of f)) (batches_in k.S)
  unfolding opens_as
  walked_on tell by walk =
      let len : (open_log on).len ≤ wal_area = rw (open-len on) (omega (arith, committed-len on, on.log.fits)) in
      let fine : log_fine (open_log on).len (read_into lent d).log.area ≡ true =
      rw (eq-eqb (length (read_into lent d).log.area) wal_area on.log.area, le-leb (open_log on).len wal_area len) in
      let few : header_size + frame_size * length k.S ≤ wal_area = omega (arith, committed-len on, on.log.fits) in
      let front : chunks (take (chunk_at (length k.S)) (read_into lent d).log.area) ≡ k.S =
      ap chunks (sym (take-take (chunk_at (length k.S)) d.log.len (read_into lent d).log.area (committed-len on)) ∙ ap (λ (m : ℕ). take m (content (read_into lent d).log)) (sym (point-is on)))
      ∙ committed-committed (content (read_into lent d).log) ∙ committed-is on in
      walk_is opens_to k.S fine refl refl front (rw on.log.area few) tell by walk 1025 0 (omega arith)

  pub opened-told : {A : Type 0} (tell : List ℕ → A) (by : ℕ → ℕ → List A) → Walk tell (opened_world mode.ReadWrite lent d w) by
      → by 1025 0 ≡ map (λ (f : List ℕ). tell (body_of f)) (batches_in k.S)
  opened-told tell by walk = walked_on tell by (rw world_is at walk)

  pub opened-returns : walked 1025 (opened_world mode.ReadWrite lent d w) 0 ≡ b.committed
  opened-returns =
      opened-told batch_in (λ k i. walked k (opened_world mode.ReadWrite lent d w) i) (walked-walk (opened_world mode.ReadWrite lent d w)) ∙ k.on.model.batches

-- ---- the openings that follow a cut

module _ (lent : Lent) (s : Sized lent) (x : Left) (k : LeftOk x) where
  areas : Areas lent x.disk
  areas = sized-areas k.on lent s

  on-laid : OnDisk (read_into lent x.disk) x.model k.l k.S k.P k.t k.mh
  on-laid = laid_on k.on lent areas

  pub reopening-taken : open_refusal (reopening lent x) ≡ 0
  unfolding reopening
  reopening-taken = rw (opens on-laid lent.table lent.staging s.table s.staging)

  pub reopened-inv : (w : World) → InvRun (reopened lent w x)
  unfolding reopened model_stores kept_after
  reopened-inv w = rw (stores-is on-laid mode.ReadWrite) (opened-rest k lent areas w)

  pub reopened-returns : (w : World) → Returns (reopened lent w x)
  unfolding reopened model_stores
  reopened-returns w = rw (stores-is on-laid mode.ReadWrite) (opened-returns k lent areas w)

pub cut-opening : (a : Attempt) → Sized a.lent → (x : Left) → LeftOk x → LeftOk (cut_opening a x)
unfolding cut_opening
cut-opening a s x k =
    let o = laid_on k.on a.lent (sized-areas k.on a.lent s) in
    rw (stores-is o mode.ReadWrite) (open-cut o x.kept k.kept 0 a.bytes)

pub reopens-ok : (attempts : List Attempt) (lent : Lent) → AllSized attempts → Sized lent → (w : World) (x : Left) → LeftOk x → Reopens attempts lent w x
reopens-ok [] lent sa s w x k = (disk-kept x k, (reopening-taken lent s x k, reopened-returns lent s x k w))
reopens-ok (a ∷ rest) lent sa s w x k = (disk-kept x k, reopens-ok rest lent sa.1 s w (cut_opening a x) (cut-opening a sa.0 x k))
