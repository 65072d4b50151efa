-- The batches that a clean opening gives, in any history: bodies of committed frames, which decode; and the clock that it takes. Assumes nothing.
use mathlib.Core.Path.{◌≡◌, refl, sym, ap, ◌∙◌}
use mathlib.Core.Bool.{Bool, true, false}
use mathlib.Core.List.{List, [], ◌∷◌, ◌++◌, map}
use Prim.Native.Nat.{ℕ, ◌^◌, max, ◌≤◌, ◌<◌}
use native.Mathlib.Omega.{arith}
use Rattle.le.specs.Choice.{pick}
use Rattle.le.proofs.Compare.{both_true}
use Rattle.frame.specs.Frame.{intact, body_of}
use Rattle.mvcc.specs.Batch.{Each}
use Rattle.mvcc.specs.Seen.{decodes}
use Rattle.wal.specs.Header.{wal_header_in}
use Rattle.wal.specs.Recovery.{is_batch, readable, good, good_front, batches_in, Recovered, recovered}
use Rattle.wal.specs.declared.WalHeader.{WalHeader}
use Rattle.pager_state.specs.World.{World}
use Rattle.pager_state.specs.Stores.{Disk, content, disk_of}
use Rattle.pager_state.specs.Opening.{opens_as, greatest, create_fine}
use Rattle.pager_state.specs.Queries.{clock_of, log_clock}
use Rattle.pager_state.specs.declared.AccessMode.{AccessMode}
use Rattle.pager_state.specs.declared.AccessMode.TheVariants as mode
use Rattle.pager_state.specs.declared.Job.TheVariants as job
use Rattle.history.specs.Model.{Batch, Model, batch_in}
use Rattle.history.specs.Calls.{Lent, Call, Open, opened_world, world_after}
use Rattle.history.specs.Run.{Run, whole, cut_call, Attempt, reopened, Event, Cut, next, start}
use Rattle.history.specs.Demand3.{Sized, TypedEvent, AllTyped}
use Rattle.history.specs.Guards.{after, Accepted}
use Rattle.history.proofs.Frames.{batches_of}
use Rattle.history.proofs.Disk.{DiskOk, recovered-is}
use Rattle.history.proofs.Rest.{Held, ForSome, inv-held}
use Rattle.history.proofs.Opening.{Areas, sized-areas, open-len, open-clock, cut_on}
use Rattle.history.proofs.Reopening.{InvRun, Walk, on, world_is, opened-told}
use Rattle.history.proofs.Creation.{created-inv}
use Rattle.history.proofs.Demand3Holds.{areas-of, never, cut_ok, cut-openings}
use Rattle.history.proofs.GuardModel.{world-after}
use Rattle.history.proofs.FilesAfter.{inv-history}

-- ---- batches among good frames

readable_of : (salt : ℕ) (f : List ℕ) → good salt f ≡ true → readable f ≡ true
unfolding good
readable_of salt f h = (both_true (intact salt f) (readable f) h).1

abbrev Decoding : List ℕ → Type 0
Decoding f = decodes (body_of f) ≡ true

batch-more : (f : List ℕ) (rest : List (List ℕ)) (b : Bool) → is_batch f ≡ b → readable f ≡ true → Each Decoding rest → Each Decoding (pick b (f ∷ rest) rest)
unfolding Each
batch-more f rest true e h more = (rw e at h, more)
batch-more f rest false e h more = more

module _ (salt : ℕ) where
  front_by : (f : List ℕ) (fs : List (List ℕ)) (b : Bool) → good salt f ≡ b → pick b (f ∷ good_front salt fs) [] ≡ f ∷ fs
      → (good salt f ≡ true) × (good_front salt fs ≡ fs)
  front_by f fs true e h = (e, cc)
  front_by f fs false e h = absurd (let z : ◌≡◌ {A = ℕ} 0 1 = cc in omega arith)

  decoding : (fs behind : List (List ℕ)) → good_front salt (fs ++ behind) ≡ fs ++ behind → Each Decoding (batches_in fs)
  unfolding good_front batches_in Each
  decoding [] behind h = tt
  decoding (f ∷ fs) behind h =
      let p = front_by f (fs ++ behind) (good salt f) refl h in
      batch-more f (batches_in fs) (is_batch f) refl (readable_of salt f p.0) (decoding fs behind p.1)

-- ---- what an open store gives

pub record Found (w : World) : Type 1 where
  pub rests : w.pager.job ≡ job.Idle
  pub batches : List (List ℕ)
  pub decode : Each Decoding batches
  pub clock : clock_of w.pager ≡ max (log_clock (disk_of w)) (greatest (map (λ (b : Batch). b.time) (map (λ (f : List ℕ). batch_in (body_of f)) batches)))
  pub told : {A : Type 0} (tell : List ℕ → A) (by : ℕ → ℕ → List A) → Walk tell w by → by 1025 0 ≡ map (λ (f : List ℕ). tell (body_of f)) batches

module _ {d : Disk} {b : Model} {z : List ℕ} (k : DiskOk d b z) (lent : Lent) (a : Areas lent d) (w : World) where
  -- an opening leaves the log's header
  opened-header : wal_header_in (content (disk_of (opened_world mode.ReadWrite lent d w)).log) ≡ k.l
  unfolding opens_as recovered
  opened-header =
      let o = on k lent a w in
      rw (world_is k lent a w, open-len o) (ap (λ (r : Recovered). r.header) (recovered-is (cut_on o)))

  opened-clock : clock_of (opened_world mode.ReadWrite lent d w).pager ≡ max k.l.clock_high_water (greatest (map (λ (x : Batch). x.time) (batches_of k.S)))
  unfolding opens_as
  opened-clock = ap (λ (v : World). clock_of v.pager) (world_is k lent a w) ∙ open-clock (on k lent a w)

  found : Found (opened_world mode.ReadWrite lent d w)
  unfolding opens_as
  found =
      record {
        rests = rw (world_is k lent a w);
        batches = batches_in k.S;
        decode = decoding k.l.salt k.S k.P k.on.log.good;
        clock = opened-clock ∙ ap (λ (h : WalHeader). max h.clock_high_water (greatest (map (λ (x : Batch). x.time) (batches_of k.S)))) (sym opened-header);
        told = λ tell by walk. opened-told k lent a w tell by walk;
      }

-- ---- in any history

module _ (t l m g : List ℕ) (salt : ℕ) (f : create_fine t l m g ≡ true) (small : salt < 2 ^ 32) (es : List Event) (typed : AllTyped es) where
  abbrev r : Run
  r = after es (start t l m g salt)

  inv : InvRun r
  inv = inv-history es (start t l m g salt) typed (created-inv t l m g salt f small)

  -- what the store held before
  held : ForSome (Held r.world r.staging r.model) r.kept
  held = inv-held r.world.pager.job r.world r.staging r.model r.kept inv

  abbrev files : DiskOk (disk_of r.world) r.model r.kept
  files = record { l = held.l; S = held.S; P = held.P; t = []; mh = held.mh; on = held.it.on; kept = held.kept }

  module _ (lent : Lent) (a : Areas lent (disk_of r.world)) where
    found_in : Found (whole (Open mode.ReadWrite lent) r).world
    unfolding world_after
    found_in = rw (world-after (Open mode.ReadWrite lent) r) (found files lent a r.world)

    -- the log's header is as it was, and has no later clock than the store had
    older-in : log_clock (disk_of (whole (Open mode.ReadWrite lent) r).world) ≤ clock_of r.world.pager
    unfolding world_after
    older-in =
        let e = ap (λ (w : World). log_clock (disk_of w)) (world-after (Open mode.ReadWrite lent) r)
        ∙ ap (λ (h : WalHeader). h.clock_high_water) (opened-header files lent a r.world) in
        omega (arith, e, held.it.older)

  pub opening-found : (lent : Lent) → Sized lent → Found (whole (Open mode.ReadWrite lent) r).world
  opening-found lent s = found_in lent (sized-areas held.it.on lent s)

  pub opening-older : (lent : Lent) → Sized lent → log_clock (disk_of (whole (Open mode.ReadWrite lent) r).world) ≤ clock_of r.world.pager
  opening-older lent s = older-in lent (sized-areas held.it.on lent s)

  -- an opening that is not refused
  pub accepted-found : (o : AccessMode) (lent : Lent) → Accepted (Open o lent) r → Found (whole (Open o lent) r).world
  accepted-found mode.ReadOnly lent e = let z : ⊥ = never r.world r.staging r.model r.kept inv lent e in absurd z
  accepted-found mode.ReadWrite lent e = found_in lent (areas-of r.world r.staging r.model r.kept inv lent mode.ReadWrite e)

  pub cut-found : (c : Call) (j k : ℕ) (attempts : List Attempt) (lent : Lent) → TypedEvent (Cut c j k attempts lent)
      → Found (next (Cut c j k attempts lent) r).world
  unfolding next reopened
  cut-found c j k attempts lent z =
      let d = cut-openings attempts z.1.0 (cut_call c j k r) (cut_ok c r z.0 inv j k) in
      found d lent (sized-areas d.on lent z.1.1) r.world
