-- A batch in a new store, committed: the clock that a clean opening takes, and what is left of it behind a checkpoint. Assumes nothing.
use mathlib.Core.Path.{◌≡◌, refl, sym, ap, ◌∙◌}
use mathlib.Core.Bool.{true}
use mathlib.Core.List.{List, [], map}
use Prim.Native.Nat.{ℕ, max, ◌^◌, ◌≤◌, ◌<◌}
use native.Mathlib.Omega.{arith}
use lib.IntN.{pos}
use Rattle.wal.specs.Write.{empty_wal, created_header, longer}
use Rattle.wal.specs.declared.WalHeader.{WalHeader}
use Rattle.pager_state.specs.Opening.{create_fine, first_header, opens_as, created_pager, greatest}
use Rattle.pager_state.specs.Stores.{disk_of}
use Rattle.pager_state.specs.Queries.{clock_of, log_clock}
use Rattle.pager_state.specs.declared.AccessMode.TheVariants as mode
use Rattle.pager_state.proofs.Made.{Made}
use Rattle.history.specs.Model.{Batch, batch_in}
use Rattle.history.specs.Calls.{Lent, Open, Append, Commit, Checkpoint}
use Rattle.history.specs.Run.{Run, whole, start}
use Rattle.history.specs.Demand3.{walked, Sized}
use Rattle.history.specs.Guards.{Body, Recovers}
use Rattle.history.proofs.Demand3Holds.{demand3}
use Rattle.history.proofs.Reopening.{walked-walk}
use Rattle.history.proofs.GuardNew.{new-made}
use Rattle.history.proofs.GuardHistories.{made-whole}
use Rattle.history.proofs.GuardBehind.{Commits, longer as committed-longer, checkpoint-begins, checkpoint-taken, checkpoint-to}
use Rattle.history.proofs.GuardModel.{open-model, checkpoint-empty}
use Rattle.history.proofs.GuardReached.{Reached, reached-none, reached-whole, opening-taken, opening-returns}
use Rattle.history.proofs.GuardFound.{Found, opening-found, opening-older}
use Rattle.history.proofs.GuardBatches.{Good, Ready, append-world, append-ready, ready-begun, ready-longer, new-ready, recovers}
use Rattle.history.proofs.GuardBody as sample
use Rattle.history.proofs.Guards.{met}
use Rattle.opening_clock.specs.OpeningClock.{Tells, body_at, committed_at, Falls}
use Rattle.opening_clock.proofs.Found.{at-rest-tells}

module _ (t l m g : List ℕ) (first : ℕ) (f : create_fine t l m g ≡ true) (small : first < 2 ^ 32) (time salt : ℕ) (early : time < 2 ^ 64) (fits : salt < 2 ^ 32) where
  abbrev new : Run
  new = start t l m g first

  abbrev body : List ℕ
  body = body_at time

  there : Body time (pos 0) body
  there = sample.body time (pos 0) early met.row

  good : Good body
  good = record { page = omega (arith, there.long); bytes = there.bytes; decoded = there.decoded }

  ready : Ready first_header 0 new
  ready = new-ready t l m g first f first_header met.good (omega (arith, met.two))

  -- ---- appended

  abbrev appended : Run
  appended = whole (Append body) new

  appended-ready : Ready first_header 1 appended
  appended-ready = append-ready first_header 0 new ready body good (omega arith)

  appended-made : Made appended.world
  appended-made = made-whole (Append body) new (new-made t l m g first f)

  new-clock : clock_of new.world.pager ≡ 0
  unfolding start created_pager opens_as empty_wal created_header
  new-clock = refl

  appended-header : appended.world.pager.wal.header ≡ new.world.pager.wal.header
  unfolding longer
  appended-header = rw (append-world first_header 0 new ready body good (omega arith))

  -- ---- committed

  abbrev committed : Run
  committed = committed_at time salt new

  commits : Commits appended first_header salt 1
  commits =
      record {
        made = appended-made;
        taken = ready-begun first_header 1 appended appended-ready body good (omega arith);
        writes = appended-ready.unrefused.writes;
        some = omega arith;
        ends = ready-longer first_header 1 appended appended-ready body good appended-made (omega arith) salt (omega arith);
      }

  committed-clock : clock_of committed.world.pager ≡ 0
  committed-clock =
      ap (λ (h : WalHeader). h.clock_high_water)
      ((committed-longer commits).header ∙ appended-header)
      ∙ new-clock

  -- ---- opened, in a history of its own

  -- where the clock is 0 an opening takes the greatest of the committed times
  tells : {r : Run} → Reached new r → clock_of r.world.pager ≡ 0 → {bs : List Batch} → r.model.committed ≡ bs → (lent : Lent) → Sized lent
      → Tells (whole (Open mode.ReadWrite lent) r).world.pager (greatest (map (λ (b : Batch). b.time) bs))
  tells {r} k zero {bs} e lent z =
      let w = (whole (Open mode.ReadWrite lent) r).world in
      let found : Found w = rw k.is at (opening-found t l m g first f small k.events k.typed lent z) in
      let older : log_clock (disk_of w) ≤ clock_of r.world.pager = rw k.is at (opening-older t l m g first f small k.events k.typed lent z) in
      let returned : walked 1025 w 0 ≡ bs =
      opening-returns demand3 t l m g first f small k lent z ∙ rw (open-model lent r (opening-taken demand3 t l m g first f small k lent z)) e in
      let batches = sym (found.told batch_in (λ n i. walked n w i) (walked-walk w)) ∙ returned in
      at-rest-tells w.pager found.rests (found.clock ∙ rw batches (omega (arith, older, zero)))

  here : Recovers new body first_header salt
  here = recovers t l m g first f first_header met.good (omega (arith, met.two)) demand3 small body good salt met.words fits

  reached : Reached new committed
  reached = reached-whole (reached-whole (reached-none new) (Append body) there.bytes) (Commit first_header salt) (met.words, fits)

  raised : (lent : Lent) → Sized lent → Tells (whole (Open mode.ReadWrite lent) committed).world.pager time
  unfolding greatest
  raised lent z =
      let alone : max time 0 ≡ time = omega arith in
      rw (there.says, alone) at (tells reached committed-clock here.batches lent z)

  -- ---- behind a checkpoint

  abbrev checkpointed : Run
  checkpointed = whole (Checkpoint salt) committed

  checkpointed-clock : clock_of checkpointed.world.pager ≡ 0
  checkpointed-clock = (checkpoint-to commits salt).clock ∙ committed-clock

  none_left : checkpointed.model.committed ≡ []
  none_left = checkpoint-empty salt committed (checkpoint-taken commits salt) (checkpoint-begins commits)

  fallen : (lent : Lent) → Sized lent → Tells (whole (Open mode.ReadWrite lent) checkpointed).world.pager 0
  unfolding greatest
  fallen lent z = tells (reached-whole reached (Checkpoint salt) fits) checkpointed-clock none_left lent z

  pub falls : Falls new time salt
  falls = record { appended = here.appended; committed = here.committed; checkpointed = checkpoint-taken commits salt; raised = raised; fallen = fallen }
