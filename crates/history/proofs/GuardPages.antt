-- A page that is staged and committed reads back, wherever demand 3 holds.
use mathlib.Core.Path.{◌≡◌, refl, ap, ◌∙◌}
use mathlib.Core.Bool.{Bool, true, false}
use mathlib.Core.List.{List}
use Prim.Native.Nat.{ℕ, ◌^◌, ◌≤◌, ◌<◌}
use native.Mathlib.Omega.{arith}
use borrow.Author.Tests.{eq-eqb}
use Rattle.std.specs.Prelude.{Result, Err, None, Some, Ok}
use Rattle.le.specs.Le.{Bytes}
use Rattle.refusal.proofs.Rows.{accepted}
use Rattle.refusal.specs.declared.Refusal.{Refusal}
use Rattle.header.specs.declared.DbHeader.{DbHeader}
use Rattle.pager_state.specs.World.{World, count_of, busy_with}
use Rattle.pager_state.specs.Overlay.{find_page, read_page, bytes_at}
use Rattle.pager_state.specs.Queries.{header}
use Rattle.pager_state.specs.Opening.{create_fine}
use Rattle.pager_state.specs.Steps.{checkpoint_begins, checkpoint_world}
use Rattle.pager_state.specs.declared.AccessMode.TheVariants as mode
use Rattle.pager_state.specs.declared.Job.TheVariants as job
use Rattle.pager_state.specs.declared.PageFound.{PageFound}
use Rattle.pager_state.specs.declared.PageFound.TheVariants as found
use Rattle.pager_state.proofs.Made.{Made}
use Rattle.pager_state.proofs.Done.{commit-done, checkpoint-done}
use Rattle.history.specs.Calls.{ReadMode, Ask, Open, Stage, Commit, Checkpoint, Words, refused_by, world_after}
use Rattle.history.specs.Run.{Run, whole, Cut, start}
use Rattle.history.specs.Demand3.{reading_at, Demand3}
use Rattle.history.specs.Guards.{Accepted, reading, committed_page, ReadsBack}
use Rattle.history.proofs.GuardNew.{new-made}
use Rattle.history.proofs.GuardModel.{Shows, shows-read, world-after, stage-model, open-model, commit-header, commit-shows, checkpoint-shows, lost-shows, open-shows}
use Rattle.history.proofs.GuardReached.{Reached, reached-next, reached-whole, reached-made, reads-header, reads, opening-taken, opening-rests, lost-rests}

-- ---- a commit and a checkpoint that are not refused leave nothing part done

module _ (r : Run) (k : Made r.world) (salt : ℕ) where
  commit-rests : (h : DbHeader) → Accepted (Commit h salt) r → (whole (Commit h salt) r).world.pager.job ≡ job.Idle
  unfolding world_after refused_by
  commit-rests h e =
      rw (world-after (Commit h salt) r)
      (commit-done r.staging r.world h salt (accepted _ e) k.slots).idle

  checkpoint-goes-by : r.world.pager.job ≡ job.Idle → (b : Bool) → checkpoint_begins r.staging r.world ≡ b
      → (checkpoint_world r.staging r.world salt).pager.job ≡ job.Idle
  unfolding checkpoint_world
  checkpoint-goes-by i true e = (checkpoint-done r.staging r.world salt e k.slots).idle
  checkpoint-goes-by i false e = rw e i

  checkpoint-rests : r.world.pager.job ≡ job.Idle → Accepted (Checkpoint salt) r → (whole (Checkpoint salt) r).world.pager.job ≡ job.Idle
  unfolding world_after
  checkpoint-rests i e = rw (world-after (Checkpoint salt) r) (checkpoint-goes-by i (checkpoint_begins r.staging r.world) refl)

-- ---- a reading's bytes

pub some_same : (x y : List ℕ) → Some x ≡ Some y → x ≡ y
some_same x y e = cc

pub none-some : {A : Type 0} (y : List ℕ) → None ≡ Some y → A
none-some y e = let z : ◌≡◌ {A = ℕ} 0 1 = cc in absurd (omega arith)

read-bytes : (w : World) (g : List ℕ) (x : Result PageFound Refusal) (bytes : List ℕ) → reading_at w g x ≡ Some bytes → bytes_at w g x ≡ bytes
read-bytes w g (Ok (found.Staged at)) bytes e = some_same _ bytes e
read-bytes w g (Ok (found.Log at)) bytes e = some_same _ bytes e
read-bytes w g (Ok (found.Main at)) bytes e = some_same _ bytes e
read-bytes w g (Ok found.Nothing) bytes e = none-some bytes e
read-bytes w g (Err r) bytes e = none-some bytes e

-- ---- where demand 3 holds

module _ (d : Demand3) (t l m g : List ℕ) (salt : ℕ) (f : create_fine t l m g ≡ true) (small : salt < 2 ^ 32) where
  abbrev new : Run
  new = start t l m g salt

  pub header-back : {r : Run} → Reached new r → (h : DbHeader) (next : ℕ) → Words h → next < 2 ^ 32 → Accepted (Commit h next) r
      → header (whole (Commit h next) r).world.pager ≡ Ok h
  header-back {r} k h next v s c =
      reads-header d t l m g salt f small (reached-whole k (Commit h next) (v, s)) (ap busy_with (commit-rests r (reached-made k (new-made t l m g salt f)) next h c))
      ∙ ap Ok (commit-header h next r c)

  -- a page that the model shows, at rest
  shown : {r : Run} → Reached new r → r.world.pager.job ≡ job.Idle → Made r.world → (n : ℕ) (bytes : List ℕ) → 1 ≤ n → Shows r.model n bytes
      → ReadsBack r n bytes
  unfolding read_page
  shown {r} k i q n bytes a y =
      let now : reading r n ≡ Some bytes = reads d t l m g salt f small k (ap busy_with i) n a ∙ shows-read r.model n bytes y in
      record {
        now = now;
        bytes = read-bytes r.world r.staging (find_page r.world r.staging n) bytes now;
        opens = opening-taken d t l m g salt f small k;
        opened = λ lent z.
            let c : Accepted (Open mode.ReadWrite lent) r = opening-taken d t l m g salt f small k lent z in
            reads d t l m g salt f small (reached-whole k (Open mode.ReadWrite lent) tt) (opening-rests d t l m g salt f small k lent z) n a
            ∙ rw (open-model lent r c) (shows-read _ n bytes (open-shows n bytes r.model y));
        lost = λ attempts s lent z.
            reads d t l m g salt f small (reached-next k (Cut (Ask ReadMode) 0 0 attempts lent) (tt, (s, z))) (lost-rests d t l m g salt f small k attempts s lent z) n a
            ∙ shows-read _ n bytes (lost-shows n bytes attempts lent r y);
        checkpointed = λ next z c.
            reads d t l m g salt f small (reached-whole k (Checkpoint next) z) (ap busy_with (checkpoint-rests r q next i c)) n a
            ∙ shows-read _ n bytes (checkpoint-shows next r c i n bytes y);
      }

  module _ {r : Run} (k : Reached new r) (n : ℕ) (bytes : List ℕ) (h : DbHeader) (next : ℕ) (b : Bytes bytes) (v : Words h) (s : next < 2 ^ 32)
      (e : Accepted (Stage n bytes) r) (c : Accepted (Commit h next) (whole (Stage n bytes) r)) (a : 1 ≤ n) (z : n < count_of h) where
    reached-staged : Reached new (whole (Stage n bytes) r)
    reached-staged = reached-whole k (Stage n bytes) b

    reached-committed : Reached new (committed_page n bytes h next r)
    reached-committed = reached-whole reached-staged (Commit h next) (v, s)

    page-waits : (whole (Stage n bytes) r).model.staged n ≡ Some bytes
    page-waits = rw (stage-model n bytes r e, eq-eqb n n refl)

    pub reads-back : ReadsBack (committed_page n bytes h next r) n bytes
    reads-back =
        let q = new-made t l m g salt f in
        shown reached-committed (commit-rests (whole (Stage n bytes) r) (reached-made reached-staged q) next h c) (reached-made reached-committed q) n bytes a
        (commit-shows h next (whole (Stage n bytes) r) c n bytes page-waits a z)
