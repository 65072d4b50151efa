-- The first page that is committed in a new store: nothing refuses it, and a checkpoint leaves it in the main file.
use mathlib.Core.Path.{◌≡◌, sym, ap, ◌∙◌}
use mathlib.Core.Bool.{Bool, true, false}
use mathlib.Core.List.{List}
use Prim.Native.Nat.{ℕ, ◌+◌, ◌*◌, ◌^◌, ◌<◌}
use native.Mathlib.Omega.{arith}
use borrow.Author.Tests.{eq-eqb}
use lib.Dec.{leb}
use lib.ListN.{length, length-set}
use Rattle.std.specs.Prelude.{Ok, None, Some}
use Rattle.le.specs.Choice.{pick}
use Rattle.le.specs.Le.{put, Bytes}
use Rattle.le.proofs.Stores.{length-put}
use Rattle.page.specs.Page.{page_size}
use Rattle.refusal.specs.Refusal.{number_of}
use Rattle.header.specs.declared.DbHeader.{DbHeader}
use Rattle.pager_state.specs.World.{World, staging_area, staged_limit, count_of, header_of, busy, read_only}
use Rattle.pager_state.specs.Overlay.{page_from, slot_of, in_log, on_main, below, place_page, read_refusal, find_page}
use Rattle.pager_state.specs.Staging.{stage_refusal, with_slot, staged_after, staging_bytes}
use Rattle.pager_state.specs.Opening.{create_fine}
use Rattle.pager_state.specs.Steps.{differing, commit_refusal, step_fine, commit_world}
use Rattle.pager_state.specs.declared.Staged.{Staged}
use Rattle.pager_state.specs.declared.Job.TheVariants as job
use Rattle.pager_state.specs.declared.PageFound.TheVariants as found
use Rattle.pager_state.proofs.Made.{Made}
use Rattle.history.specs.Calls.{Stage, Commit, Checkpoint, Words, refused_by, world_after}
use Rattle.history.specs.Run.{Run, whole, start}
use Rattle.history.specs.Demand3.{reading_at, Demand3}
use Rattle.history.specs.Guards.{GoodHeader, with_slots, LongerBy, Accepted, reading, committed_page, ReadsBack, Keeps}
use Rattle.history.proofs.GuardNew.{fine-create, few-differ, none-staged, new-begun, new-made, new-idle, new-count, new_none, new-frames, new-writes}
use Rattle.history.proofs.GuardHistories.{made-whole}
use Rattle.history.proofs.GuardCommit.{commit-ends}
use Rattle.history.proofs.GuardModel.{world-after, staging-after}
use Rattle.history.proofs.GuardBehind.{Commits, longer, checkpoint-starts, checkpoint-taken, checkpoint-ends, checkpoint-to}
use Rattle.history.proofs.GuardReached.{reached-none}
use Rattle.history.proofs.GuardPages.{some_same, none-some, reads-back}

-- ---- a page that is read from the main file

module _ (w : World) (g : List ℕ) (n : ℕ) (f : step_fine g w ≡ true) (i : w.pager.job ≡ job.Idle) (z : w.pager.staged.count ≡ 0)
    (l : in_log w.table n ≡ false) where
  found-main : find_page w g n ≡ Ok (pick (leb (count_of (header_of w.pager)) n) found.Nothing (pick (on_main w.table n) (found.Main (page_size * n)) found.Nothing))
  unfolding find_page read_refusal place_page below
  found-main = rw (f, i, none-staged w z n, l)

  main-by : (bytes : List ℕ) (a b : Bool) → reading_at w g (Ok (pick a found.Nothing (pick b (found.Main (page_size * n)) found.Nothing))) ≡ Some bytes
      → page_from (page_size * n) w.main ≡ bytes
  main-by bytes true b e = none-some bytes e
  main-by bytes false true e = some_same _ bytes e
  main-by bytes false false e = none-some bytes e

  read-main : (bytes : List ℕ) → reading_at w g (find_page w g n) ≡ Some bytes → page_from (page_size * n) w.main ≡ bytes
  read-main bytes e = main-by bytes (leb (count_of (header_of w.pager)) n) (on_main w.table n) (sym (ap (reading_at w g) found-main) ∙ e)

-- ---- staging it

module _ (t l m g : List ℕ) (salt : ℕ) (f : create_fine t l m g ≡ true) (bytes : List ℕ) (long : length bytes ≡ page_size) where
  abbrev new : Run
  new = start t l m g salt

  abbrev w : World
  w = new.world

  slot-first : slot_of w.pager.staged 1 ≡ 0
  unfolding slot_of
  slot-first = rw (new_none t l m g salt f)

  new-long : length new.staging ≡ staging_area
  unfolding start
  new-long = (fine-create t l m g f).staging

  stage-none : stage_refusal (busy w.pager) w.pager.staged new.staging 1 bytes ≡ None
  unfolding stage_refusal
  stage-none = rw (eq-eqb (length new.staging) staging_area new-long, eq-eqb (length bytes) page_size long, new-idle t l m g salt f, slot-first)

  stage-taken : Accepted (Stage 1 bytes) new
  unfolding refused_by
  stage-taken = ap number_of stage-none

  -- the slots then
  abbrev slots : Staged
  slots = with_slot w.pager.staged (slot_of w.pager.staged 1) 1

  abbrev staged : Run
  staged = whole (Stage 1 bytes) new

  staged-world : staged.world ≡ with_slots w slots
  unfolding world_after staged_after
  staged-world = world-after (Stage 1 bytes) new ∙ rw stage-none

  staged-staging : staged.staging ≡ put new.staging 0 bytes
  unfolding staging_bytes
  staged-staging = staging-after (Stage 1 bytes) new ∙ rw (stage-none, slot-first)

  staging-long : length staged.staging ≡ staging_area
  staging-long = ap length staged-staging ∙ length-put new.staging 0 bytes (omega (arith, new-long)) ∙ new-long

  -- ---- committing it

  module _ (h : DbHeader) (next : ℕ) (k : GoodHeader h) (two : count_of h ≡ 2) where
    first-begun : commit_refusal staged.staging staged.world h ≡ None
    unfolding with_slot
    first-begun =
        let z : length slots.pages ≡ staged_limit = length-set w.pager.staged.pages (slot_of w.pager.staged 1) 1 ∙ (new-made t l m g salt f).slots in
        rw staged-world
        (new-begun t l m g salt f slots z h k (λ n a b c. absurd (omega (arith, new-count t l m g salt f, b, c, two))) staged.staging staging-long)

    first_taken : Accepted (Commit h next) staged
    unfolding refused_by
    first_taken = ap number_of first-begun

    abbrev committed : Run
    committed = committed_page 1 bytes h next new

    staged-made : Made staged.world
    staged-made = made-whole (Stage 1 bytes) new (new-made t l m g salt f)

    staged-frames : staged.world.pager.wal.frame_count ≡ 0
    staged-frames = rw staged-world (new-frames t l m g salt f)

    staged-writes : read_only staged.world.pager ≡ false
    staged-writes = rw staged-world (new-writes t l m g salt f)

    first-longer : LongerBy staged.world (commit_world staged.staging staged.world h next) (differing staged.staging staged.world + 1)
    first-longer =
        let e = commit-ends staged.staging staged.world h next staged-made.slots (omega (arith, staged-frames)) first-begun in
        e.below (omega (arith, staged-frames, few-differ staged.staging staged.world staged-made.slots))

    abbrev frames : ℕ
    frames = differing staged.staging staged.world + 1

    commits : Commits staged h next frames
    commits = record { made = staged-made; taken = first-begun; writes = staged-writes; some = omega arith; ends = first-longer }

    -- ---- and a checkpoint

    module _ (last : ℕ) where
      abbrev checkpointed : Run
      checkpointed = whole (Checkpoint last) committed

      -- no page is staged or in the log: it is read from the main file
      in-main : reading checkpointed 1 ≡ Some bytes → page_from page_size checkpointed.world.main ≡ bytes
      in-main e =
          let ends = checkpoint-ends commits last in
          let to = checkpoint-to commits last in
          let fine : step_fine checkpointed.staging checkpointed.world ≡ true = rw (staging-after (Checkpoint last) committed) ends.ready.right in
          let unstaged : checkpointed.world.pager.staged.count ≡ 0 = rw to.staged (longer commits).unstaged in
          read-main checkpointed.world checkpointed.staging 1 fine ends.idle unstaged (to.empty.none 1) bytes e

    pub keeps : Demand3 → salt < 2 ^ 32 → Bytes bytes → Words h → next < 2 ^ 32 → Keeps new bytes h next
    keeps d small b v s =
        let back : ReadsBack committed 1 bytes =
        reads-back d t l m g salt f small (reached-none new) 1 bytes h next b v s stage-taken first_taken (omega arith) (omega arith) in
        record {
          staged = stage-taken;
          committed = first_taken;
          reads = back;
          begins = checkpoint-starts commits;
          checkpointed = λ last z. in-main last
              (back.checkpointed last z (checkpoint-taken commits last));
        }
