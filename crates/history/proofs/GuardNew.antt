-- A new store: its areas, and commits in it. Assumes nothing.
use mathlib.Core.Path.{◌≡◌, refl, sym, ap, subst, ◌∙◌}
use mathlib.Core.Bool.{true, false}
use mathlib.Core.List.{List, []}
use Prim.Native.Nat.{ℕ, ◌+◌, ◌≤◌}
use native.Mathlib.Omega.{arith}
use borrow.Author.Tests.{ltb-true, le-leb, le-ltb}
use lib.ListN.{length, length-take}
use Rattle.std.specs.Prelude.{None}
use Rattle.le.proofs.Compare.{no_test}
use Rattle.page.specs.Page.{page_size, empty_table_page}
use Rattle.page.proofs.Written.{length-empty_table_page}
use Rattle.header.specs.Header.{encode_header}
use Rattle.header.specs.declared.DbHeader.{DbHeader}
use Rattle.header.proofs.Encoding.{length-encode_header}
use Rattle.wal.specs.Header.{header_size, encode_wal_header}
use Rattle.wal.specs.Recovery.{wal_area}
use Rattle.wal.specs.Write.{created_header, empty_wal}
use Rattle.wal.proofs.Encoding.{length-encode_wal_header}
use Rattle.pager_state.specs.World.{World, world, main_area_size, staging_area, staged_limit, page_limit, count_of, header_of, read_only}
use Rattle.pager_state.specs.Overlay.{staged_pages, slot_of, is_staged}
use Rattle.pager_state.specs.Pages.{pages_from, differs}
use Rattle.pager_state.specs.Opening.{table_of, empty_staged, opens_as, first_header, log_stores, create_stores, empty_file, created_disk, created_pager, create_fine, create_table, create_log, create_main}
use Rattle.pager_state.specs.Steps.{differing, commit_refusal}
use Rattle.pager_state.specs.declared.Job.{Job}
use Rattle.pager_state.specs.declared.Job.TheVariants as job
use Rattle.pager_state.specs.declared.Staged.{Staged}
use Rattle.pager_state.proofs.Stored.{Areas, AllInside, all-areas}
use Rattle.pager_state.proofs.Sizes.{empty-len}
use Rattle.pager_state.proofs.Counts.{none-among, few-among}
use Rattle.pager_state.proofs.Steps.{differs-staged}
use Rattle.pager_state.proofs.Made.{AsksOf, Made, every}
use Rattle.pager_state.proofs.Opened.{created-made}
use Rattle.history.specs.Run.{start}
use Rattle.history.specs.Guards.{new_store, GoodHeader, Joined, Unrefused, with_slots, FramesInside, CommittedAlone}
use Rattle.history.proofs.Opening.{fine-sized, table-long}
use Rattle.history.proofs.GuardRefusals.{none-begun, unrefused}
use Rattle.history.proofs.GuardCommit.{commit-ends}
use Rattle.history.specs.Demand3.{Sized}

-- ---- areas

-- the lengths that creation asks for
pub fine-create : (t l m g : List ℕ) → create_fine t l m g ≡ true → Sized (record { table = t; staging = g; log = l; main = m })
fine-create t l m g e = fine-sized (record { table = t; staging = g; log = l; main = m }) 0 0 e

-- ---- no more pages are staged than there are slots

pub few-differ : (g : List ℕ) (w : World) → length w.pager.staged.pages ≡ staged_limit → differing g w ≤ staged_limit
unfolding differing pages_from is_staged slot_of
few-differ g w h =
    omega (
      arith,
      length-take w.pager.staged.count w.pager.staged.pages,
      few-among (staged_pages w.pager.staged) (differs g w) page_limit 0 (λ n e. ltb-true _ _ (differs-staged g w n e)),
    )

-- ---- the store that creation leaves

create-inside : (salt : ℕ) → AllInside (create_stores salt)
unfolding create_stores log_stores
create-inside salt =
    let a = length-encode_header first_header in
    let b = length-empty_table_page in
    let c = length-encode_wal_header (created_header salt) in (
      refl,
      (
        le-leb (0 + length (encode_header first_header)) main_area_size (omega arith),
        (
          le-leb (page_size + length empty_table_page) main_area_size (omega arith),
          (refl, (le-leb (0 + length (encode_wal_header (created_header salt))) wal_area (omega arith), tt)),
        ),
      ),
    )

-- what the guards of commits and checkpoints ask, of a store as the laws of steps ask
pub made-framed : (w : World) → Made w → (length w.pager.staged.pages ≡ staged_limit) × (w.pager.job ≡ job.Idle → FramesInside w)
made-framed w k = (k.slots, λ e n h i. subst (λ (j : Job). AsksOf every j w) e k.asked n h refl i)

module _ (t l m g : List ℕ) (salt : ℕ) (f : create_fine t l m g ≡ true) where
  new_is : new_store t l m g salt ≡ world (created_pager salt) (table_of first_header []) (created_disk l m salt).log.area (created_disk l m salt).main.area
  unfolding start create_table create_log create_main
  new_is = rw f

  pub new-made : Made (new_store t l m g salt)
  new-made = rw new_is (created-made salt _ _)

  pub new-idle : (new_store t l m g salt).pager.job ≡ job.Idle
  unfolding created_pager opens_as
  new-idle = rw new_is

  created-areas : Areas (created_disk l m salt)
  unfolding created_disk
  created-areas =
      let k = fine-create t l m g f in
      all-areas (create_stores salt) (record { main = empty_file m; log = empty_file l }) (create-inside salt)
      (record { log = record { area = k.log; len = omega arith }; main = record { area = k.main; len = omega arith } })

  -- no refusal but 15 is left for a commit in it
  pub new-unrefused : (s : Staged) (h : DbHeader) → GoodHeader h → Joined (with_slots (new_store t l m g salt) s) h → (staging : List ℕ) → length staging ≡ staging_area
      → Unrefused staging (with_slots (new_store t l m g salt) s) h
  unfolding created_pager opens_as first_header
  new-unrefused s h k j staging e =
      let a = created-areas in
      let n = new_is in
      record {
        areas = record { table = rw n (table-long first_header []); staging = e; log = rw n a.log.area; main = rw n a.main.area };
        log_file = rw n (omega (arith, empty-len (created_header salt)));
        main_file = rw n (omega arith);
        pages = rw n (omega arith);
        compared = λ i z o q. (made-framed (new_store t l m g salt) new-made).1 new-idle i z q;
        rests = rw n;
        writes = rw n;
        header = k;
        joined = j;
      }

  pub new-len : (new_store t l m g salt).pager.wal.len ≡ header_size
  unfolding created_pager opens_as
  new-len = rw new_is (empty-len (created_header salt))

  pub new-begun : (s : Staged) → length s.pages ≡ staged_limit → (h : DbHeader) → GoodHeader h → Joined (with_slots (new_store t l m g salt) s) h
      → (staging : List ℕ) → length staging ≡ staging_area → commit_refusal staging (with_slots (new_store t l m g salt) s) h ≡ None
  new-begun s z h k j staging e =
      let w : World = with_slots (new_store t l m g salt) s in
      unrefused staging w h (new-unrefused s h k j staging e) (omega (arith, new-len, few-differ staging w z))

-- ---- a commit with nothing staged

module _ (w : World) (z : w.pager.staged.count ≡ 0) where
  pub none-staged : (n : ℕ) → is_staged w.pager.staged n ≡ false
  unfolding is_staged
  none-staged n =
      let k = length-take w.pager.staged.count w.pager.staged.pages in
      le-ltb (slot_of w.pager.staged n) (length (staged_pages w.pager.staged)) (omega arith)

  pub none_differ : (g : List ℕ) → differing g w ≡ 0
  unfolding differing pages_from
  none_differ g = ap length (none-among (differs g w) page_limit 0 (λ n e. no_test (sym (none-staged n) ∙ differs-staged g w n e)))

module _ (t l m g : List ℕ) (salt : ℕ) (f : create_fine t l m g ≡ true) where
  abbrev new : World
  new = new_store t l m g salt

  pub new-writes : read_only new.pager ≡ false
  unfolding created_pager opens_as
  new-writes = rw (new_is t l m g salt f)

  pub new-count : count_of (header_of new.pager) ≡ 2
  unfolding created_pager opens_as first_header
  new-count = rw (new_is t l m g salt f)

  pub new_none : new.pager.staged.count ≡ 0
  unfolding created_pager opens_as empty_staged
  new_none = rw (new_is t l m g salt f)

  pub new-frames : new.pager.wal.frame_count ≡ 0
  unfolding created_pager opens_as empty_wal
  new-frames = rw (new_is t l m g salt f)

  none-counted : differing g new ≡ 0
  none-counted = none_differ new new_none g

  module _ (h : DbHeader) (k : GoodHeader h) (c : count_of h ≤ 2) where
    alone-begun : commit_refusal g new h ≡ None
    alone-begun =
        new-begun t l m g salt f new.pager.staged (new-made t l m g salt f).slots h k (λ n a b d. absurd (omega (arith, new-count, b, c, d))) g (fine-create t l m g f).staging

    pub committed-alone : (next : ℕ) → CommittedAlone g new h next
    committed-alone next =
        let e = commit-ends g new h next (new-made t l m g salt f).slots (omega (arith, new-frames)) alone-begun in
        let v = e.below (omega (arith, new-frames, none-counted)) in
        record {
          begun = none-begun g new h alone-begun;
          answer = e.answer ∙ rw none-counted;
          rests = v.rests;
          log_file = v.log_file ∙ omega (arith, none-counted, new-len t l m g salt f);
          frames = v.frames ∙ omega (arith, none-counted, new-frames);
        }
