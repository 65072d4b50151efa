-- Demand 3 of a history that goes on: readings are the model's, clean openings are not refused and return the model's batches.
use mathlib.Core.Path.{◌≡◌, refl, ap, subst, ◌∙◌}
use mathlib.Core.Bool.{Bool, true, false}
use mathlib.Core.List.{List, [], ◌∷◌, ◌++◌}
use Prim.Native.Nat.{ℕ, ◌^◌, ◌≤◌, ◌<◌}
use lib.Dec.{eqb}
use Rattle.std.specs.Prelude.{Ok}
use Rattle.refusal.proofs.Rows.{numbered}
use Rattle.pager_state.specs.World.{World, busy, busy_with}
use Rattle.pager_state.specs.Queries.{header}
use Rattle.pager_state.specs.Stores.{Disk, disk_of, cut_all}
use Rattle.pager_state.specs.Opening.{create_fine, open_refusal}
use Rattle.pager_state.specs.declared.AccessMode.TheVariants as mode
use Rattle.pager_state.specs.Opened.{Opens}
use Rattle.pager_state.specs.Opened as opened
use Rattle.pager_state.proofs.Made.{Made}
use Rattle.pager_state.proofs.Opened.{open-idle}
use Rattle.history.specs.Model.{model_read}
use Rattle.history.specs.Calls.{Lent, ReadMode, Call, Ask, Open, cleanly, read_into, opening, opened_or, opened_world, refused_by, stores_of, world_after}
use Rattle.history.specs.Run.{Run, whole, Left, cut_call, Attempt, cut_opening, cut_openings, reopening, reopened, Event, Whole, Cut, next, start}
use Rattle.history.specs.Demand3.{Same, AtRest, Returns, Answers, Holds, Reopens, Sized, AllSized, Typed, TypedEvent, AllTyped, Demand3}
use Rattle.history.specs.Guards.{after, Accepted, reading}
use Rattle.history.proofs.GuardHistories.{made-history}
use Rattle.history.proofs.GuardModel.{world-after}

-- ---- one event more

after_one : (es : List Event) (e : Event) (r : Run) → after (es ++ (e ∷ [])) r ≡ next e (after es r)
unfolding after
after_one [] e r = refl
after_one (x ∷ es) e r = after_one es e (next x r)

typed_one : (es : List Event) (e : Event) → AllTyped es → TypedEvent e → AllTyped (es ++ (e ∷ []))
typed_one [] e t k = (k, tt)
typed_one (x ∷ es) e t k = (t.0, typed_one es e t.1 k)

-- what demand 3 says of the end, and of the event there
holds-end : (es : List Event) (r : Run) → Holds es r → AtRest (after es r) (Same (after es r))
unfolding after
holds-end [] r h = h
holds-end (x ∷ es) r h = holds-end es (next x r) h.1

holds-one : (es : List Event) (e : Event) (r : Run) → Holds (es ++ (e ∷ [])) r → Answers e (after es r)
unfolding after
holds-one [] e r h = h.0
holds-one (x ∷ es) e r h = holds-one es e (next x r) h.1

-- ---- a history that has come to r

pub record Reached (s r : Run) : Type 0 where
  pub events : List Event
  pub typed : AllTyped events
  pub is : after events s ≡ r

pub reached-after : (s : Run) (es : List Event) → AllTyped es → Reached s (after es s)
reached-after s es t = record { events = es; typed = t; is = refl }

pub reached-none : (s : Run) → Reached s s
unfolding after
reached-none s = record { events = []; typed = tt; is = refl }

module _ {s r : Run} (k : Reached s r) where
  pub reached-next : (e : Event) → TypedEvent e → Reached s (next e r)
  reached-next e t =
      record { events = k.events ++ (e ∷ []); typed = typed_one k.events e k.typed t; is = after_one k.events e s ∙ ap (next e) k.is }

  pub reached-whole : (c : Call) → Typed c → Reached s (whole c r)
  unfolding next
  reached-whole c t = reached-next (Whole c) t

  pub reached-made : Made s.world → Made r.world
  reached-made m = rw k.is at (made-history k.events s m)

-- ---- a cut that falls in no store leaves the files

uncut-by : (r : Run) (b : Bool) → eqb (refused_by (Ask ReadMode) r.world r.staging) 0 ≡ b → (cut_call (Ask ReadMode) 0 0 r).disk ≡ disk_of r.world
unfolding cut_call stores_of cut_all
uncut-by r true e = rw e
uncut-by r false e = rw e

uncut : (r : Run) → (cut_call (Ask ReadMode) 0 0 r).disk ≡ disk_of r.world
uncut r = uncut-by r (eqb (refused_by (Ask ReadMode) r.world r.staging) 0) refl

-- ---- nothing is part done after an opening that is not refused

module _ (lent : Lent) (d : Disk) (w : World) where
  opened-by : (a : Opens) → opening mode.ReadWrite lent d ≡ a → open_refusal a ≡ 0 → (t l m : List ℕ)
      → busy (opened_or a w t l m).pager ≡ false
  opened-by (opened.Opened p) e z t l m = ap busy_with (open-idle (cleanly mode.ReadWrite) lent.table (read_into lent d) lent.staging p e)
  opened-by (opened.Refused r) e z t l m = absurd (numbered r z)

  opened-rests : open_refusal (opening mode.ReadWrite lent d) ≡ 0
      → busy (opened_world mode.ReadWrite lent d w).pager ≡ false
  unfolding opened_world
  opened-rests z = opened-by (opening mode.ReadWrite lent d) refl z _ _ _

-- the opening behind a cut and other openings is not refused
reopens-end : (attempts : List Attempt) (lent : Lent) (w : World) (x : Left) → Reopens attempts lent w x
    → open_refusal (reopening lent (cut_openings attempts x)) ≡ 0
unfolding cut_openings
reopens-end [] lent w x k = k.1.0
reopens-end (a ∷ rest) lent w x k = reopens-end rest lent w (cut_opening a x) k.1

-- it returns the model's batches
reopens-returns : (attempts : List Attempt) (lent : Lent) (w : World) (x : Left) → Reopens attempts lent w x
    → Returns (reopened lent w (cut_openings attempts x))
unfolding cut_openings
reopens-returns [] lent w x k = k.1.1
reopens-returns (a ∷ rest) lent w x k = reopens-returns rest lent w (cut_opening a x) k.1

-- ---- where demand 3 holds

module _ (d : Demand3) (t l m g : List ℕ) (salt : ℕ) (f : create_fine t l m g ≡ true) (small : salt < 2 ^ 32) where
  abbrev new : Run
  new = start t l m g salt

  all_hold : (es : List Event) → AllTyped es → Holds es new
  unfolding Demand3
  all_hold es typed = d t l m g salt f small es typed

  module _ {r : Run} (k : Reached new r) where
    same : AtRest r (Same r)
    same = subst (λ (x : Run). AtRest x (Same x)) k.is (holds-end k.events new (all_hold k.events k.typed))

    pub reads-header : busy r.world.pager ≡ false → header r.world.pager ≡ Ok r.model.header
    reads-header e = (same e).same_header

    pub reads : busy r.world.pager ≡ false → (n : ℕ) → 1 ≤ n → reading r n ≡ model_read r.model n
    reads e n a = (same e).same_page n a

    answers : (e : Event) → TypedEvent e → Answers e r
    answers e typed =
        subst (λ (x : Run). Answers e x) k.is
        (holds-one k.events e new (all_hold (k.events ++ (e ∷ [])) (typed_one k.events e k.typed typed)))

    -- a clean opening in areas of the right lengths
    module _ (lent : Lent) (z : Sized lent) where
      pub opening-taken : Accepted (Open mode.ReadWrite lent) r
      unfolding refused_by reopening
      opening-taken = rw (uncut r) at (answers (Cut (Ask ReadMode) 0 0 [] lent) (tt, (tt, z))).1.1.0

      pub opening-returns : Returns (whole (Open mode.ReadWrite lent) r)
      opening-returns = (answers (Whole (Open mode.ReadWrite lent)) tt).1 refl opening-taken

    -- the opening behind a cut, wherever it falls
    pub cut-returns : (c : Call) (j k : ℕ) (attempts : List Attempt) (lent : Lent) → TypedEvent (Cut c j k attempts lent)
        → Returns (next (Cut c j k attempts lent) r)
    unfolding next
    cut-returns c j k attempts lent typed =
        reopens-returns attempts lent r.world (cut_call c j k r) (answers (Cut c j k attempts lent) typed).1

    -- it is at rest, and so is one behind a cut that falls in no store
    pub opening-rests : (lent : Lent) → Sized lent → busy (whole (Open mode.ReadWrite lent) r).world.pager ≡ false
    unfolding world_after refused_by
    opening-rests lent z =
        let k : Accepted (Open mode.ReadWrite lent) r = opening-taken lent z in
        rw (world-after (Open mode.ReadWrite lent) r) (opened-rests lent (disk_of r.world) r.world k)

    pub lost-rests : (attempts : List Attempt) → AllSized attempts → (lent : Lent) → Sized lent
        → busy (next (Cut (Ask ReadMode) 0 0 attempts lent) r).world.pager ≡ false
    unfolding next reopened reopening
    lost-rests attempts a lent z =
        opened-rests lent _ r.world (reopens-end attempts lent r.world (cut_call (Ask ReadMode) 0 0 r) (answers (Cut (Ask ReadMode) 0 0 attempts lent) (tt, (a, z))).1)
