-- How many items bodies give, any bytes and in any history. Assumes nothing.
use mathlib.Core.Path.{◌≡◌, refl, sym, ap, ◌∙◌}
use mathlib.Core.Bool.{true}
use mathlib.Core.List.{List, [], ◌∷◌, map}
use Prim.Native.Nat.{ℕ, zero, suc, ◌+◌, ◌^◌, ◌≤◌, ◌<◌}
use native.Mathlib.Omega.{arith}
use Rattle.std.specs.Prelude.{Err, None, Ok, Option, Result, Some}
use Rattle.refusal.specs.declared.Refusal.{Refusal}
use Rattle.mvcc.specs.Batch.{Each}
use Rattle.mvcc.specs.Seen.{heading_refusal, canonical}
use Rattle.mvcc.specs.Items.{batch_items, rows_items, body_items}
use Rattle.mvcc.proofs.Canonical.{canonical-decodes, canonical-records}
use Rattle.mvcc.proofs.Items.{items-most, items-4098}
use Rattle.mvcc.proofs.Counted.{decoded-items, encoded-items}
use Rattle.wal.specs.declared.BatchAt.{BatchAt}
use Rattle.mvcc_build.proofs.Built.{start-built, built-decodes, built-records}
use Rattle.mvcc_build.proofs.Run.{run-built}
use Rattle.pager_state.specs.World.{World}
use Rattle.pager_state.specs.Overlay.{page_from}
use Rattle.pager_state.specs.Batches.{next_recovered}
use Rattle.pager_state.specs.Opening.{create_fine}
use Rattle.pager_state.specs.declared.AccessMode.TheVariants as mode
use Rattle.history.specs.Model.{Batch, batch_in}
use Rattle.history.specs.Calls.{Lent, Call, Open}
use Rattle.history.specs.Run.{Run, whole, Attempt, Event, Cut, next, start}
use Rattle.history.specs.Demand3.{walked, Returns, Sized, TypedEvent, AllTyped}
use Rattle.history.specs.Guards.{after}
use Rattle.history.proofs.Demand3Holds.{demand3}
use Rattle.history.proofs.GuardReached.{Reached, reached-after, opening-returns, cut-returns}
use Rattle.batch_items.specs.BatchItems.{items_at, items_from, Counts, BatchItems}
use Rattle.batch_items.proofs.Places.{batch-cut}
use Rattle.batch_items.proofs.Most.{most-reached, cut-1356}
use Rattle.frame.specs.Frame.{body_of}
use Rattle.mvcc.specs.Seen.{decodes}
use Rattle.pager_state.proofs.Sizes.{page-most}
use Rattle.history.proofs.Reopening.{told_at, Walk, walked-walk}
use Rattle.history.proofs.GuardFound.{Found, opening-found, cut-found}

-- ---- batches of an open store

told-items : (f : Result (Option BatchAt) Refusal) (l : List ℕ) (rest : ℕ → List ℕ) → items_at f l rest ≡ told_at batch_items f l rest
told-items (Ok (Some b)) l rest = refl
told-items (Ok None) l rest = refl
told-items (Err r) l rest = refl

items-walk : (w : World) → Walk batch_items w (λ k i. items_from k w i)
unfolding items_from
items-walk w = record { none = λ i. refl; more = λ k i. told-items (next_recovered w.pager w.log i) w.log (items_from k w) }

rows_same : (fs : List (List ℕ)) → Each (λ (f : List ℕ). decodes (body_of f) ≡ true) fs
    → map (λ (f : List ℕ). batch_items (body_of f)) fs ≡ map (λ (b : Batch). rows_items b.rows) (map (λ (f : List ℕ). batch_in (body_of f)) fs)
unfolding Each batch_in
rows_same [] d = refl
rows_same (f ∷ fs) d = rw (decoded-items (body_of f) d.0, rows_same fs d.1)

few-found : (f : Result (Option BatchAt) Refusal) (l : List ℕ) (rest : ℕ → List ℕ) → ((i : ℕ) → Each (λ (n : ℕ). n ≤ body_items) (rest i)) → Each (λ (n : ℕ). n ≤ body_items) (items_at f l rest)
unfolding Each
few-found (Ok (Some b)) l rest h = (items-4098 (page_from (b.offset + 16) l) (omega (arith, page-most (b.offset + 16) l)), h (b.index + 1))
few-found (Ok None) l rest h = tt
few-found (Err r) l rest h = tt

few-from : (k : ℕ) (w : World) (i : ℕ) → Each (λ (n : ℕ). n ≤ body_items) (items_from k w i)
unfolding items_from Each
few-from zero w i = tt
few-from (suc k) w i = few-found (next_recovered w.pager w.log i) w.log (items_from k w) (few-from k w)

counts : (r : Run) → Found r.world → Returns r → Counts r
counts r f h =
    let w = r.world in
    record {
      same =
          f.told batch_items (λ k i. items_from k w i) (items-walk w) ∙ rows_same f.batches f.decode
          ∙ ap (map (λ (b : Batch). rows_items b.rows)) (sym (f.told batch_in (λ k i. walked k w i) (walked-walk w)) ∙ h);
      few = few-from 1025 w 0;
    }

-- ---- in any history

module _ (t l m g : List ℕ) (salt : ℕ) (f : create_fine t l m g ≡ true) (small : salt < 2 ^ 32) (es : List Event) (typed : AllTyped es) where
  abbrev r : Run
  r = after es (start t l m g salt)

  here : Reached (start t l m g salt) r
  here = reached-after (start t l m g salt) es typed

  opened-so : (lent : Lent) → Sized lent → Counts (whole (Open mode.ReadWrite lent) r)
  opened-so lent z =
      counts (whole (Open mode.ReadWrite lent) r) (opening-found t l m g salt f small es typed lent z) (opening-returns demand3 t l m g salt f small here lent z)

  reopened-so : (c : Call) (j k : ℕ) (attempts : List Attempt) (lent : Lent) → TypedEvent (Cut c j k attempts lent) → Counts (next (Cut c j k attempts lent) r)
  reopened-so c j k attempts lent z =
      counts (next (Cut c j k attempts lent) r) (cut-found t l m g salt f small es typed c j k attempts lent z)
      (cut-returns demand3 t l m g salt f small here c j k attempts lent z)

no-heading : (s : List ℕ) (r : Refusal) → heading_refusal s ≡ Some r → batch_items s ≡ 0
unfolding batch_items
no-heading s r e = rw e

pub batch-items : BatchItems
batch-items =
    record {
      bodies = λ s d. decoded-items s d;
      headings = no-heading;
      cuts = batch-cut;
      encoded = encoded-items;
      built = λ ks t body n h g. let b = run-built ks (start-built t body n h) g in decoded-items _ (built-decodes b) ∙ ap rows_items (built-records b);
      rewritten = λ s sb d.
          decoded-items (canonical s) (canonical-decodes s sb d) ∙ ap rows_items (canonical-records s sb d) ∙ sym (decoded-items s d);
      most = items-most;
      reached = most-reached;
      few = λ s h. items-4098 s (omega (arith, h));
      few-4098 = items-4098;
      more-4099 = most-reached 4099 (omega arith);
      cut-1356 = cut-1356;
      opened = opened-so;
      reopened = reopened-so;
    }
