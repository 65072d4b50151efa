-- How many pages can be staged, over histories. Assumes nothing.
use mathlib.Core.Path.{◌≡◌, refl, sym, ap, ◌∙◌}
use mathlib.Core.Bool.{Bool, true, false, not}
use mathlib.Core.List.{List}
use mathlib.Core.Logic.{◌⊎◌, inl, inr}
use Prim.Native.Nat.{ℕ, zero, suc, ◌+◌, ◌-◌, max, ◌≤◌, ◌<◌, ◌^◌}
use native.Mathlib.Omega.{arith}
use borrow.Author.Tests.{eq-eqb, ne_eqb, lt-ltb, le-ltb, le-leb, lt-leb, leb-true, ltb-true}
use lib.Dec.{leb, ltb, eqb}
use lib.ListN.{length, get_or, length-take}
use lib.Seq.{get_or-take}
use Rattle.std.specs.Prelude.{Some, None, Err, Ok}
use Rattle.le.specs.Choice.{pick, both}
use Rattle.le.proofs.Compare.{no_test, both_true}
use Rattle.le.proofs.Tests.{le-or-lt, eq-or-not}
use Rattle.refusal.specs.Refusal.{unless, number_of}
use Rattle.refusal.specs.declared.Refusal.TheVariants as refusal
use Rattle.page.specs.Page.{page_size}
use Rattle.header.specs.declared.DbHeader.{DbHeader}
use Rattle.wal.specs.Recovery.{wal_area}
use Rattle.pager_state.specs.World.{World, main_area_size, staged_limit, staging_area, page_limit, count_of, header_of, in_area, lengths_fine, fine, busy, read_only}
use Rattle.pager_state.specs.Overlay.{find_in, staged_pages, slot_of, is_staged, read_refusal}
use Rattle.pager_state.specs.Pages.{among, pages_from}
use Rattle.pager_state.specs.Staging.{stage_refusal}
use Rattle.pager_state.specs.Stores.{Disk}
use Rattle.pager_state.specs.Opening.{How, create_fine, open_pager, open_refusal, create_refusal}
use Rattle.pager_state.specs.Steps.{header_good, differing, lacking, room_for, commit_fine, commit_refusal, commit_start, checkpoint_refusal, step_answer}
use Rattle.pager_state.specs.declared.Staged.{Staged}
use Rattle.pager_state.proofs.Counts.{without, one_out, few-among, many-among}
use Rattle.pager_state.proofs.Searches.{pages-same}
use Rattle.pager_state.proofs.Slots.{find-length}
use Rattle.history.specs.Model.{Model}
use Rattle.history.specs.Calls.{Query, ReadHeader, ReadMode, ReadClock, ReadPage, ReadBatch, Call, Ask, Open, Stage, Clear, Append, Observe, Commit, Checkpoint, BeginCommit, BeginCheckpoint, Step, refused_by}
use Rattle.history.specs.Run.{Run, Event, start}
use Rattle.history.specs.Demand3.{AllTyped}
use Rattle.history.specs.Guards.{Joined, BegunGuard, LogFullGuard, after}
use Rattle.history.proofs.Slots.{Slots}
use Rattle.history.proofs.Rest.{Held, ForSome, inv-held}
use Rattle.history.proofs.Creation.{created-inv}
use Rattle.history.proofs.FilesAfter.{inv-history}
use Rattle.history.proofs.Guards as guards
use Rattle.staging_limit.specs.StagingLimit.{there, pages_staged, others_staged, staging_number, asks_staging, lent_staging, Wrong, most_pages, StagingLimit}

-- ---- the model's staged pages, counted

-- what the store has staged is what the model has
pub record Agrees (s : Staged) (b : Model) : Type 0 where
  pub slots : Slots s
  pub same : (n : ℕ) → is_staged s n ≡ there (b.staged n)

module _ {s : Staged} {b : Model} (k : Agrees s b) where
  abbrev is_there : ℕ → Bool
  is_there p = there (b.staged p)

  long : length (staged_pages s) ≡ s.count
  long = length-take s.count s.pages ∙ omega (arith, k.slots.few, k.slots.long)

  page-at : (i : ℕ) → i < length (staged_pages s) → get_or (staged_pages s) i 0 ≡ get_or s.pages i 0
  page-at i h = get_or-take s.count s.pages i 0 (omega (arith, long, h))

  is-in : (n : ℕ) → is_there n ≡ true → find_in (staged_pages s) n < length (staged_pages s)
  unfolding is_staged slot_of
  is-in n e = ltb-true (find_in (staged_pages s) n) (length (staged_pages s)) (k.same n ∙ e)

  is-there : (i : ℕ) → i < length (staged_pages s) → is_there (get_or (staged_pages s) i 0) ≡ true
  unfolding is_staged
  is-there i h =
      let e : slot_of s (get_or (staged_pages s) i 0) ≡ i = rw (page-at i h) (k.slots.once i (omega (arith, long, h))) in
      sym (k.same (get_or (staged_pages s) i 0)) ∙ lt-ltb (slot_of s (get_or (staged_pages s) i 0)) (length (staged_pages s)) (omega (arith, e, h))

  counted : pages_staged b ≡ s.count
  unfolding pages_staged pages_from slot_of
  counted =
      let most = few-among (staged_pages s) is_there page_limit 0 is-in in
      let low : (i : ℕ) → i < length (staged_pages s) → get_or (staged_pages s) i 0 < page_limit
      = λ i h. rw (page-at i h) (k.slots.low i (omega (arith, long, h))) in
      let least = many-among (staged_pages s) is_there page_limit 0 (λ i h. (is-there i h, (omega arith, low i h)))
      (λ i h. rw (page-at i h) (k.slots.once i (omega (arith, long, h)))) in
      omega (arith, long, most, least)

  -- but for a page that is staged, and for one that isn't
  others-of : (n : ℕ) → n < page_limit → is_there n ≡ true → others_staged b n + 1 ≡ s.count
  unfolding others_staged pages_staged pages_from
  others-of n h e = omega (arith, counted, one_out is_there n e page_limit 0 (omega arith) h)

  others-all : (n : ℕ) → is_there n ≡ false → others_staged b n ≡ s.count
  unfolding others_staged pages_staged
  others-all n e = ap length (pages-same (without is_there n) is_there 0 (λ m a c. go m (eq-or-not m n))) ∙ counted
    where
      go : (m : ℕ) → (m ≡ n) ⊎ (m ≡ n → ⊥) → without is_there n m ≡ is_there m
      go m (inl q) = rw (eq-eqb m n q) (sym (ap is_there q ∙ e))
      go m (inr q) = rw (ne_eqb m n q)

  -- a slot is free for the page exactly where not so many others are staged
  free : (n : ℕ) → n < page_limit → ltb (slot_of s n) staged_limit ≡ not (eqb (others_staged b n) staged_limit)
  unfolding slot_of is_staged
  free n h = go (is_there n) refl
    where
      go : (c : Bool) → is_there n ≡ c → ltb (slot_of s n) staged_limit ≡ not (eqb (others_staged b n) staged_limit)
      go true e =
          let f = k.slots.few in
          let o = others-of n h e in
          rw (
            lt-ltb (find_in (staged_pages s) n) staged_limit (omega (arith, is-in n e, long, f)),
            ne_eqb (others_staged b n) staged_limit (λ q. omega (arith, o, f, q)),
          )
      go false e = by_count (le-or-lt staged_limit s.count)
        where
          out : length (staged_pages s) ≤ find_in (staged_pages s) n
          out = not_in (le-or-lt (length (staged_pages s)) (find_in (staged_pages s) n))
            where
              not_in : (length (staged_pages s) ≤ find_in (staged_pages s) n) ⊎ (find_in (staged_pages s) n < length (staged_pages s))
                  → length (staged_pages s) ≤ find_in (staged_pages s) n
              not_in (inl q) = q
              not_in (inr q) = no_test (sym e ∙ sym (k.same n) ∙ lt-ltb (find_in (staged_pages s) n) (length (staged_pages s)) q)

          by_count : (staged_limit ≤ s.count) ⊎ (s.count < staged_limit) → ltb (find_in (staged_pages s) n) staged_limit ≡ not (eqb (others_staged b n) staged_limit)
          by_count (inl q) =
              rw (
                le-ltb (find_in (staged_pages s) n) staged_limit (omega (arith, out, long, q)),
                eq-eqb (others_staged b n) staged_limit (omega (arith, others-all n e, k.slots.few, q)),
              )
          by_count (inr q) =
              rw (
                lt-ltb (find_in (staged_pages s) n) staged_limit (omega (arith, find-length (staged_pages s) n, long, q)),
                ne_eqb (others_staged b n) staged_limit (λ z. omega (arith, others-all n e, q, z)),
              )

-- ---- in any history

same_number : (a c d e : Bool)
    → number_of (unless a refusal.Area (unless (not c) refusal.Busy (unless d refusal.Page (unless (not e) refusal.Staging None))))
    ≡ pick (not a) 1 (pick c 9 (pick (not d) 11 (pick e 12 0)))
same_number false c d e = refl
same_number true true d e = refl
same_number true false false e = refl
same_number true false true true = refl
same_number true false true false = refl

there-by : (t : Bool) (x : List ℕ) → t ≡ there (pick t (Some x) None)
there-by true x = refl
there-by false x = refl

module _ (t l m g : List ℕ) (salt : ℕ) (f : create_fine t l m g ≡ true) (small : salt < 2 ^ 32) (es : List Event) (typed : AllTyped es) where
  abbrev r : Run
  r = after es (start t l m g salt)

  held : ForSome (Held r.world r.staging r.model) r.kept
  held =
      inv-held r.world.pager.job r.world r.staging r.model r.kept
      (inv-history es (start t l m g salt) typed (created-inv t l m g salt f small))

  agrees : Agrees r.world.pager.staged r.model
  agrees =
      record {
        slots = held.it.slots;
        same = λ n. there-by (is_staged r.world.pager.staged n) _ ∙ ap there (held.it.staged n);
      }

  few-staged : pages_staged r.model ≤ staged_limit
  few-staged = omega (arith, counted agrees, agrees.slots.few)

  judged-so : (n : ℕ) (bytes : List ℕ) → refused_by (Stage n bytes) r.world r.staging ≡ staging_number r n bytes
  unfolding refused_by stage_refusal staging_number
  judged-so n bytes = rw (eq-eqb (length r.staging) staging_area held.it.staging_long) (go (le-or-lt page_limit n))
    where
      go : (page_limit ≤ n) ⊎ (n < page_limit)
          → number_of (unless (eqb (length bytes) page_size) refusal.Area
          (unless (not (busy r.world.pager)) refusal.Busy
          (unless (ltb n page_limit) refusal.Page
          (unless (ltb (slot_of r.world.pager.staged n) staged_limit) refusal.Staging None))))
          ≡ pick (not (eqb (length bytes) page_size)) 1
          (pick (busy r.world.pager) 9 (pick (leb page_limit n) 11 (pick (eqb (others_staged r.model n) staged_limit) 12 0)))
      go (inl q) = rw (le-ltb n page_limit q, le-leb page_limit n q) (same_number (eqb (length bytes) page_size) (busy r.world.pager) false true)
      go (inr q) = rw (lt-ltb n page_limit q, lt-leb page_limit n q, free agrees n q) (same_number (eqb (length bytes) page_size) (busy r.world.pager) true (eqb (others_staged r.model n) staged_limit))

-- ---- refusal 1

no_both : (b : Bool) → both b false ≡ false
no_both true = refl
no_both false = refl

module _ (g : List ℕ) (no : Wrong g) where
  other_length : eqb (length g) staging_area ≡ false
  other_length = ne_eqb (length g) staging_area no

  area-query : (q : Query) → asks_staging q ≡ true → (w : World) → refused_by (Ask q) w g ≡ 1
  unfolding refused_by read_refusal
  area-query (ReadPage n) e w = rw (other_length, no_both (fine w))
  area-query ReadHeader e w = no_test e
  area-query ReadMode e w = no_test e
  area-query ReadClock e w = no_test e
  area-query (ReadBatch i) e w = no_test e

  area-call : (c : Call) → lent_staging c ≡ true → (w : World) → refused_by c w g ≡ 1
  unfolding refused_by stage_refusal commit_refusal checkpoint_refusal step_answer
  area-call (Ask q) e w = area-query q e w
  area-call (Stage n bytes) e w = rw other_length
  area-call (Commit h salt) e w = rw (other_length, no_both (fine w))
  area-call (Checkpoint salt) e w = rw (other_length, no_both (fine w))
  area-call (BeginCommit h salt) e w = rw (other_length, no_both (fine w))
  area-call (BeginCheckpoint salt) e w = rw (other_length, no_both (fine w))
  area-call Step e w = rw (other_length, no_both (fine w))
  area-call (Open m lent) e w = no_test e
  area-call Clear e w = no_test e
  area-call (Append body) e w = no_test e
  area-call (Observe c) e w = no_test e

  lengths-wrong : (t la l ma m : ℕ) → lengths_fine t la l ma m (length g) ≡ false
  lengths-wrong t la l ma m = rw (other_length, no_both (in_area main_area_size ma m), no_both (in_area wal_area la l), no_both (eqb t page_limit))

  area-open : (how : How) (t : List ℕ) (d : Disk) → open_refusal (open_pager how t d g) ≡ 1
  unfolding open_pager
  area-open how t d = rw (lengths-wrong (length t) (length d.log.area) d.log.len (length d.main.area) d.main.len)

  area-create : (t l m : List ℕ) → create_refusal t l m g ≡ Some refusal.Area
  area-create t l m = rw (lengths-wrong (length t) (length l) 0 (length m) 0)

-- ---- commits

all_among : (f : ℕ → Bool) (k p : ℕ) → ((n : ℕ) → p ≤ n → n < p + k → f n ≡ true) → length (among f k p) ≡ k
unfolding among
all_among f zero p h = refl
all_among f (suc k) p h = rw (h p (omega arith) (omega arith)) (ap suc (all_among f k (suc p) (λ n a b. h n (omega arith) (omega arith))))

module _ (w : World) (h : DbHeader) (slots : length w.pager.staged.pages ≡ staged_limit) where
  abbrev first : ℕ
  first = max 1 (count_of (header_of w.pager))

  abbrev joins : ℕ → Bool
  joins n = both (leb first n) (ltb n (count_of h))

  -- each page that joins has a slot, and there are no more than so many
  grown : Joined w h → count_of h ≤ most_pages w
  unfolding is_staged slot_of
  grown j =
      let s : List ℕ = staged_pages w.pager.staged in
      let k : ℕ = count_of h - first in
      let all = all_among joins k first (λ n a b. rw (le-leb first n a, lt-ltb n (count_of h) (omega arith))) in
      let in-slots : (n : ℕ) → joins n ≡ true → find_in s n < length s
      = λ n e.
      let x = both_true (leb first n) (ltb n (count_of h)) e in
      let a = leb-true first n x.0 in
      let b = ltb-true n (count_of h) x.1 in
      ltb-true (find_in s n) (length s) (j n (omega (arith, a)) (omega (arith, a)) b) in
      omega (arith, all, few-among s joins k first in-slots, length-take w.pager.staged.count w.pager.staged.pages, slots)

  grows-by : (g : List ℕ) → commit_start g w h ≡ Ok tt → count_of h ≤ most_pages w
  unfolding BegunGuard
  grows-by g e = grown ((guards.begun g w h).0 e).0.joined

  joining-by : (g : List ℕ) → commit_fine g w ≡ true → busy w.pager ≡ false → read_only w.pager ≡ false → header_good h ≡ true → most_pages w < count_of h
      → commit_start g w h ≡ Err (refusal.Joining (lacking w h))
  unfolding commit_start commit_refusal BegunGuard LogFullGuard
  joining-by g f b o k more = go (leb page_limit (lacking w h)) refl (room_for w (differing g w + 1)) refl
    where
      begun-so : leb page_limit (lacking w h) ≡ true → room_for w (differing g w + 1) ≡ true → commit_start g w h ≡ Ok tt
      begun-so c d = rw (f, b, o, k, c, d)

      full-so : leb page_limit (lacking w h) ≡ true → room_for w (differing g w + 1) ≡ false → commit_start g w h ≡ Err refusal.LogFull
      full-so c d = rw (f, b, o, k, c, d)

      go : (c : Bool) → leb page_limit (lacking w h) ≡ c → (d : Bool) → room_for w (differing g w + 1) ≡ d → commit_start g w h ≡ Err (refusal.Joining (lacking w h))
      go true c true d = absurd (omega (arith, more, grown ((guards.begun g w h).0 (begun-so c d)).0.joined))
      go true c false d = absurd (omega (arith, more, grown ((guards.log-full g w h).0 (full-so c d)).0.joined))
      go false c d e = rw (f, b, o, k, c)

pub staging-limit : StagingLimit
staging-limit =
    record {
      few = few-staged;
      judged = judged-so;
      area = λ c e w g no. area-call g no c e w;
      opened = λ how t d g no. area-open g no how t d;
      created = λ t l m g no. area-create g no t l m;
      grows = λ g w h slots e. grows-by w h slots g e;
      joining = λ g w h slots f b o k more. joining-by w h slots g f b o k more;
    }
